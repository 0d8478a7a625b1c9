use Rattle.amqp_read.proofs.Streams.{looked_reads}
use Rattle.amqp_read.proofs.io_reader.IoReader.read_bytes_buffered.Goals as goal

pub returns-in-Ok-clause-ok : goal.returns-in-Ok-clause-ok
returns-in-Ok-clause-ok g c = looked_reads (λ v. v.items) c.take_received_bytes.result _ c.receive_all.ensures.looked c.take_received_bytes.ensures.len c.take_received_bytes.ensures.ok
