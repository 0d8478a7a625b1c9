use Rattle.amqp_read.proofs.Streams.{looked_takes}
use Rattle.amqp_read.proofs.io_reader.IoReader.read_buffered.Goals as goal

pub returns-in-Ok-clause-ok : goal.returns-in-Ok-clause-ok
returns-in-Ok-clause-ok g c = looked_takes c.receive_all.ensures.looked c.take_into.ensures.taken c.take_into.ensures.len
