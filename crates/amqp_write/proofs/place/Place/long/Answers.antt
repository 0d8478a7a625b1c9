use Rattle.amqp_write.specs.State.{stand, mark_of, mark_in}
use Rattle.std.proofs.Common.{refl, ap}
use Rattle.std.specs.Int.{w8, w64}
use Rattle.std.proofs.lemmas.Int.{to_z-of_z}
use mir.Val.{SFits}
use Rattle.amqp_write.proofs.Steps.{pays_appended}
use Rattle.amqp_write.proofs.TextOf.{not_unmarked}
use Rattle.amqp_write.proofs.WideTexts.{pays_wide, long_1, long_wide}
use Rattle.amqp_write.proofs.place.Place.long.Goals as goal

pub returns-in-Ok : goal.returns-in-Ok
unfolding stand
returns-in-Ok g c =
    let f : SFits w64 c.args.v = c.ranges.v in
    let h = simp to_z-of_z at c.in-Ok.ensures in
    let small : SFits w8 c.in-Ok.small = rw h.1 h.0 in
    let k = rw h.1 at (simp to_z-of_z at c.cast_unsigned.ensures) in
    let m = ap (mark_in c.args.self.now.descriptor) c.in-Unmarked.is in
    record { law = pays_appended _ _ _ _ _ _ _ _ (rw m refl) (rw m (long_1 c.args.v h.0)) c.requires (rw k at c.append.ensures) }

pub returns-in-Err : goal.returns-in-Err
unfolding stand
returns-in-Err g c =
    let f : SFits w64 c.args.v = c.ranges.v in
    let h = simp to_z-of_z at c.in-Err.ensures in
    let wide = long_wide (mark_of c.args.self.now) c.args.v (λ _. h) f in
    record { law = pays_wide _ _ _ _ _ _ wide (rw (simp to_z-of_z at c.to_be_bytes.ensures) at c.eight_bytes.ensures.law) }

pub returns-in_default : goal.returns-in_default
unfolding stand
returns-in_default g c =
    let f : SFits w64 c.args.v = c.ranges.v in
    let wide = long_wide (mark_of c.args.self.now) c.args.v (λ u. absurd (not_unmarked _ _ c.in_default.not-Unmarked u)) f in
    record { law = pays_wide _ _ _ _ _ _ wide (rw (simp to_z-of_z at c.to_be_bytes-in_default.ensures) at c.eight_bytes-in_default.ensures.law) }
