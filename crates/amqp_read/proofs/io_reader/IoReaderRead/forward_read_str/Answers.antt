use Rattle.std.proofs.Common.{refl}
use Rattle.amqp_read.proofs.Streams.{apart_takes, looked_takes, when_some}
use Rattle.amqp_read.proofs.io_reader.IoReaderRead.forward_read_str.Goals as goal

pub returns-in-Ok-take_text-clause-ok : goal.returns-in-Ok-take_text-clause-ok
returns-in-Ok-take_text-clause-ok g c =
    let some = c.in-Ok-Some.field-0-is in
    rw c.in-Ok-take_text.ensures.text (when_some _ c.in-Ok-Some.ensures.len some, apart_takes (when_some _ c.in-Ok-Some.ensures.apart some) refl c.in-Ok-take_text.ensures.ok)

pub returns-in-Ok-read_text_buffered-clause-ok : goal.returns-in-Ok-read_text_buffered-clause-ok
returns-in-Ok-read_text_buffered-clause-ok g c =
    let len = c.in-Ok-read_text_buffered.ensures.len in
    (len, looked_takes (c.in-Ok-None.ensures.else_kept c.in-Ok-None.field-0-is) c.in-Ok-read_text_buffered.ensures.ok len)
