use Rattle.std.proofs.Common.{ap}
use Rattle.amqp_read.specs.Streaming.{Streaming}
use Rattle.amqp_read.proofs.Streams.{fault_fails}
use Rattle.amqp_read.proofs.io_reader.IoReader.next_of_source.Goals as goal

pub returns-in-Err-clause-why : goal.returns-in-Err-clause-why
returns-in-Err-clause-why g c =
    let same = ap (λ (z : Streaming). z.reading.faults) c.self.view_is in
    λ _. fault_fails _ same c.in-Err.ensures.counts c.in-Err.ensures.kind
