use Rattle.std.proofs.Common.{string_bytes}
use Rattle.amqp_read.proofs.Streams.{looked_reads}
use Rattle.amqp_read.proofs.io_reader.IoReader.read_text_buffered.Goals as goal

pub returns-in-Ok-clause-ok : goal.returns-in-Ok-clause-ok
returns-in-Ok-clause-ok g c = looked_reads (λ t. string_bytes t) c.take_received_text.result _ c.receive_all.ensures.looked c.take_received_text.ensures.len c.take_received_text.ensures.ok
