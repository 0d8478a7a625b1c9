use Rattle.amqp_read.proofs.Streams.{apart_takes, looked_takes, when_some}
use Rattle.amqp_read.proofs.io_reader.IoReaderRead.read_bytes.Goals as goal

pub returns-in-Ok-Some-clause-ok : goal.returns-in-Ok-Some-clause-ok
returns-in-Ok-Some-clause-ok g c =
    let some = c.in-Ok-Some.field-0-is in
    (when_some _ c.in-Ok-Some.ensures.len some, apart_takes (when_some _ c.in-Ok-Some.ensures.apart some) c.deref.ensures.value c.consume_apart.ensures)

pub returns-in-Ok-read_bytes_buffered-clause-ok : goal.returns-in-Ok-read_bytes_buffered-clause-ok
returns-in-Ok-read_bytes_buffered-clause-ok g c =
    let len = c.in-Ok-read_bytes_buffered.ensures.len in
    (len, looked_takes (c.in-Ok-None.ensures.else_kept c.in-Ok-None.field-0-is) c.in-Ok-read_bytes_buffered.ensures.ok len)
