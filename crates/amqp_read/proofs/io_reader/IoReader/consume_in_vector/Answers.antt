use Rattle.std.proofs.Common.{ap, arith}
use Rattle.amqp_read.specs.Streaming.{Streaming}
use Rattle.amqp_read.proofs.Streams.{consumed}
use Rattle.amqp_read.proofs.io_reader.IoReader.consume_in_vector.Goals as goal

pub returns : goal.returns
returns g c =
    let same = ap (λ (z : Streaming). z.reading) c.self.view_is in
    let there = c.requires.there in
    consumed _ _ _ _ _ _ _ _ _ same c.consume_in_vector.ensures.unread (omega arith)
