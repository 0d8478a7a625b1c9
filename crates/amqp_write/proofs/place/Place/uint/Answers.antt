use Rattle.amqp_write.specs.State.{stand, mark_of}
use Rattle.std.proofs.Common.{arith}
use Rattle.amqp_write.proofs.TextOf.{not_unmarked}
use Rattle.amqp_write.proofs.WideTexts.{pays_wide, uint_wide}
use Rattle.amqp_write.proofs.place.Place.uint.Goals as goal

pub returns-in_default : goal.returns-in_default
unfolding stand
returns-in_default g c =
    let wide = uint_wide (mark_of c.args.self.now) c.args.v (λ u. absurd (not_unmarked _ _ c.in_default.not-Unmarked u)) (omega arith) in
    record { law = pays_wide _ _ _ _ _ _ wide (rw c.to_be_bytes.ensures at c.four_bytes.ensures.law) }
