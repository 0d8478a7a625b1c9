use Rattle.amqp_de.proofs.Looking.{peeks, peeks_not}
use Rattle.amqp_de.proofs.any.code_ahead.Goals as goal

pub returns-in-Ok-Some-clause-ok : goal.returns-in-Ok-Some-clause-ok
returns-in-Ok-Some-clause-ok g c = peeks c.in-Ok-Some.byte c.try_from.result _ _ c.try_from.ensures (rw c.in-Ok-Some.field-0-is at c.in-Ok-Some.ensures.ok) c.peek.ensures.looked

pub returns-in-Ok-Some-clause-err : goal.returns-in-Ok-Some-clause-err
returns-in-Ok-Some-clause-err g c = peeks_not g.R.Read.buffers c.in-Ok-Some.byte c.try_from.result _ _ c.try_from.ensures (rw c.in-Ok-Some.field-0-is at c.in-Ok-Some.ensures.ok) c.peek.ensures.looked
