use Rattle.std.proofs.Common.{refl}
use Rattle.amqp_read.proofs.Streams.{looked_none}
use Rattle.amqp_read.proofs.io_reader.IoReader.fill.Goals as goal

pub bytes-init : goal.bytes-init
bytes-init g c = record { looked = looked_none _ _; most = refl }
