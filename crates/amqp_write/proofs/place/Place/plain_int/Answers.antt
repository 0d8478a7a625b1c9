use Rattle.amqp_write.specs.State.{stand, mark_of}
use Rattle.std.proofs.Common.{refl}
use Rattle.std.specs.Int.{w8, w32}
use Rattle.std.proofs.lemmas.Int.{to_z-of_z}
use mir.Val.{SFits}
use Rattle.amqp_write.proofs.NumberCounts.{pays_counted}
use Rattle.amqp_write.proofs.Steps.{pays_appended}
use Rattle.amqp_write.proofs.WideTexts.{pays_wide, int_1, int_wide}
use Rattle.amqp_write.proofs.place.Place.plain_int.Goals as goal

pub returns-then-counts : goal.returns-then-counts
unfolding stand
returns-then-counts g c =
    let f : SFits w32 c.args.v = c.ranges.v in
    record { law = pays_counted _ _ _ _ c.requires.marked c.requires.answers (simp to_z-of_z at (c.counts.ensures.counted c.if-counts.true)) }

pub returns-in-Ok : goal.returns-in-Ok
unfolding stand
returns-in-Ok g c =
    let f : SFits w32 c.args.v = c.ranges.v in
    let same = c.counts.ensures.same c.if-counts.false in
    let h = simp to_z-of_z at c.in-Ok.ensures in
    let small : SFits w8 c.in-Ok.small = rw h.1 h.0 in
    let k = rw h.1 at (simp to_z-of_z at c.cast_unsigned.ensures) in
    let m = c.requires.marked in
    record { law = pays_appended _ _ _ _ _ _ _ _ (rw m refl) (rw m (int_1 c.args.v h.0)) c.requires.answers (rw (same, k) at c.append.ensures) }

pub returns-in-Err : goal.returns-in-Err
unfolding stand
returns-in-Err g c =
    let f : SFits w32 c.args.v = c.ranges.v in
    let same = c.counts.ensures.same c.if-counts.false in
    let h = simp to_z-of_z at c.in-Err.ensures in
    let wide = int_wide (mark_of c.args.self.now) c.args.v (λ _. h) f in
    record { law = pays_wide _ _ _ _ _ _ wide (rw (same, simp to_z-of_z at c.to_be_bytes.ensures) at c.plain_four_bytes.ensures.law) }
