use Rattle.std.proofs.Common.{◌≡◌, ap, length, take}
use Rattle.std.proofs.lemmas.List.{length-take-le}
use Rattle.amqp_read.specs.Streaming.{Streaming}
use Rattle.amqp_read.proofs.Streams.{fault_fails, source_taken}
use Rattle.amqp_read.proofs.io_reader.IoReader.pass_of_source.Goals as goal

pub returns-in-Err-clause-why : goal.returns-in-Err-clause-why
returns-in-Err-clause-why g c =
    let same = ap (λ (z : Streaming). z.reading.faults) c.self.view_is in
    rw c.from.ensures (fault_fails _ same c.in-Err.ensures.counts c.in-Err.ensures.kind)

pub returns-in-Ok-clause-ok : goal.returns-in-Ok-clause-ok
returns-in-Ok-clause-ok g c =
    let same = ap (λ (z : Streaming). z.reading) c.self.view_is in
    let len : length (take c.in-Ok.k c.read_some.new.buf) ≡ c.in-Ok.k = length-take-le c.in-Ok.k c.read_some.new.buf c.in-Ok.ensures.bound in
    record {
      bytes = take c.in-Ok.k c.read_some.new.buf;
      len = len;
      step = source_taken _ _ _ _ _ _ _ _ _ _ _ _ _ _ same c.requires.received c.in-Ok.ensures.bytes.0 len c.in-Ok.ensures.counts c.in-Ok.ensures.honest c.in-Ok.ensures.origin;
    }
