use Rattle.amqp_read.proofs.Measured.{values_taken, stricts_taken, values_refused}
use Rattle.amqp_read.proofs.read.Read.forward_read_byte_buf.Goals as goal

pub returns-in-Ok-clause-ok : goal.returns-in-Ok-clause-ok
returns-in-Ok-clause-ok g c = values_taken (λ v. v.items) (g.Self.Read.reading c.read_bytes.new.self) c.read_bytes.result c.in-Ok.ensures.looked c.in-Ok.ensures.ok c.read_bytes.ensures.ok

pub returns-in-Ok-clause-strict : goal.returns-in-Ok-clause-strict
returns-in-Ok-clause-strict g c = stricts_taken (λ v. v.items) (g.Self.Read.reading c.read_bytes.new.self) c.read_bytes.result c.in-Ok.ensures.looked c.in-Ok.ensures.ok c.read_bytes.ensures.ok

pub returns-in-Ok-clause-why : goal.returns-in-Ok-clause-why
returns-in-Ok-clause-why g c = values_refused g.Self.Read.buffers (g.Self.Read.reading c.read_bytes.new.self) c.read_bytes.result c.in-Ok.ensures.looked c.in-Ok.ensures.ok c.read_bytes.ensures.why
