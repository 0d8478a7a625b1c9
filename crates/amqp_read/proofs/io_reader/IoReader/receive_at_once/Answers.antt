use Rattle.std.proofs.Common.{ap}
use Rattle.amqp_read.specs.Streaming.{Streaming}
use Rattle.amqp_read.proofs.Streams.{fault_fails}
use Rattle.amqp_read.proofs.io_reader.IoReader.receive_at_once.Goals as goal

pub returns-in-None-clause-why : goal.returns-in-None-clause-why
returns-in-None-clause-why g c =
    let same = ap (λ (z : Streaming). z.reading.faults) c.self.view_is in
    rw c.from.ensures (fault_fails _ same c.in-None.ensures.counts c.in-None.ensures.kind)
