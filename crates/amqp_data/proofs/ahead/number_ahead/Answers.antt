use Rattle.std.proofs.Common.{arith}
use Rattle.amqp_data.proofs.LooksAhead.{number_none, number_then, power_below}
use Rattle.amqp_data.proofs.ahead.number_ahead.Goals as goal

pub loop-i-init : goal.loop-i-init
loop-i-init g c = number_none c.args.from _

pub overflow_mul-number : goal.overflow_mul-number
overflow_mul-number g c = omega (arith, c.loop-i.invariant.small, power_below c.loop-i.i (omega (arith, c.loop-i-test.true, c.requires.fits)))

pub overflow_add-number : goal.overflow_add-number
overflow_add-number g c = omega (arith, c.loop-i.invariant.small, power_below c.loop-i.i (omega (arith, c.loop-i-test.true, c.requires.fits)))

pub loop-i-preserved : goal.loop-i-preserved
loop-i-preserved g c = number_then c.args.from c.loop-i.i c.loop-i.number c.in-Ok-Some.byte _ _ _ (omega arith) c.loop-i.invariant c.peek_at.ensures.looked (rw c.in-Ok-Some.field-0-is at c.in-Ok-Some.ensures.ok)
