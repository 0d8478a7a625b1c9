use Rattle.amqp_write.specs.State.{stand, mark_of}
use Rattle.std.specs.Int.{w32}
use Rattle.std.proofs.lemmas.Int.{to_z-of_z}
use mir.Val.{SFits}
use Rattle.amqp_write.proofs.TextOf.{not_unmarked}
use Rattle.amqp_write.proofs.WideTexts.{pays_wide, int_wide}
use Rattle.amqp_write.proofs.place.Place.int.Goals as goal

pub returns-in-Unmarked : goal.returns-in-Unmarked
unfolding stand
returns-in-Unmarked g c = let f : SFits w32 c.args.v = c.ranges.v in record { law = simp to_z-of_z at c.plain_int.ensures.law }

pub returns-in_default : goal.returns-in_default
unfolding stand
returns-in_default g c =
    let f : SFits w32 c.args.v = c.ranges.v in
    let wide = int_wide (mark_of c.args.self.now) c.args.v (λ u. absurd (not_unmarked _ _ c.in_default.not-Unmarked u)) f in
    record { law = pays_wide _ _ _ _ _ _ wide (rw (simp to_z-of_z at c.to_be_bytes.ensures) at c.four_bytes.ensures.law) }
