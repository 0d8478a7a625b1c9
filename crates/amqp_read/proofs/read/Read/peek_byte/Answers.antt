use Rattle.amqp_read.proofs.Measured.{sees_shown}
use Rattle.amqp_read.proofs.read.Read.peek_byte.Goals as goal

pub returns-in-Ok-Some-clause-ok : goal.returns-in-Ok-Some-clause-ok
returns-in-Ok-Some-clause-ok g c = sees_shown c.in-Ok-Some.ensures.looked.stays (rw c.in-Ok-Some.field-0-is at c.in-Ok-Some.ensures.ok)
