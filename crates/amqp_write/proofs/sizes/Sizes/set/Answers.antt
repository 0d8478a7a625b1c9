use Rattle.std.proofs.Common.{arith}
use Rattle.std.proofs.Math.Seq.{take-set-lt}
use Rattle.std.proofs.lemmas.List.{map-set, set-append_left, set-append_right}
use Rattle.std.proofs.lemmas.Grind.{common_steps}
use Rattle.amqp_write.proofs.sizes.Sizes.set.Goals as goal

pub returns-then-at-self : goal.returns-then-at-self
returns-then-at-self c = grind (arith, common_steps, map-set, take-set-lt, set-append_left)

pub returns-then-at-len : goal.returns-then-at-len
returns-then-at-len c = grind (arith, common_steps, map-set, set-append_right)
