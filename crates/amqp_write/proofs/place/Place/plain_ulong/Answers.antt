use Rattle.std.proofs.Common.{refl, arith}
use Rattle.amqp_write.specs.State.{stand, mark_of}
use Rattle.amqp_write.proofs.NumberCounts.{pays_counted}
use Rattle.amqp_write.proofs.Steps.{pays_appended}
use Rattle.amqp_write.proofs.WideTexts.{pays_wide, ulong_0, ulong_1, ulong_wide}
use Rattle.amqp_write.proofs.place.Place.plain_ulong.Goals as goal

pub returns-then-counts : goal.returns-then-counts
unfolding stand
returns-then-counts g c = record { law = pays_counted _ _ _ _ c.requires.marked c.requires.answers (c.counts.ensures.counted c.if-counts.true) }

pub returns-then-v-eq0 : goal.returns-then-v-eq0
unfolding stand
returns-then-v-eq0 g c =
    let same = c.counts.ensures.same c.if-counts.false in
    let m = c.requires.marked in
    record { law = pays_appended _ _ _ _ _ _ _ _ (rw m refl) (rw m (ulong_0 c.args.v c.if-v-eq0.true)) c.requires.answers (rw same at c.append.ensures) }

pub returns-then-v-lt256 : goal.returns-then-v-lt256
unfolding stand
returns-then-v-lt256 g c =
    let same = c.counts.ensures.same c.if-counts.false in
    let m = c.requires.marked in
    record { law = pays_appended _ _ _ _ _ _ _ _ (rw m refl) (rw m (ulong_1 c.args.v c.if-v-eq0.false c.if-v-lt256.true)) c.requires.answers (rw same at c.append-then-v-lt256.ensures) }

pub returns : goal.returns
unfolding stand
returns g c =
    let same = c.counts.ensures.same c.if-counts.false in
    let wide = ulong_wide (mark_of c.args.self.now) c.args.v (λ u. c.if-v-lt256.false) (omega arith) in
    record { law = pays_wide _ _ _ _ _ _ wide (rw (same, c.to_be_bytes.ensures) at c.eight_bytes.ensures.law) }
