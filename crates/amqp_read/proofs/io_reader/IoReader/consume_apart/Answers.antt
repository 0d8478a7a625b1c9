use Rattle.std.proofs.Common.{ap}
use Rattle.amqp_read.specs.Streaming.{Streaming}
use Rattle.amqp_read.proofs.Streams.{apart_counted}
use Rattle.amqp_read.proofs.io_reader.IoReader.consume_apart.Goals as goal

pub returns : goal.returns
returns g c = apart_counted _ _ _ _ _ _ _ _ (ap (λ (z : Streaming). z.reading) c.self.view_is) c.requires.received
