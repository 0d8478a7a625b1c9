-- Strings that are counted, or written.
use Rattle.std.proofs.Common.{refl}
use Rattle.amqp_write.specs.State.{stand}
use Rattle.amqp_write.proofs.NumberCounts.{counted_text}
use Rattle.amqp_write.proofs.place.Place.append_strings.Goals as goal

pub returns-then-counts-clause-law : goal.returns-then-counts-clause-law
unfolding stand
returns-then-counts-clause-law g c =
    let k = c.counts.ensures in
    let texts = c.text_lengths-count.ensures.texts in
    record { bytes = texts.0; texts = texts.1; appended = counted_text texts.0 _ _ c.args.self.now.direct _ _ _ _ _ _ _ texts.2 (k.counted c.if-counts.true) (k.untold c.if-counts.true) (k.alone c.if-counts.true) k.plan refl refl refl refl refl k.faults k.grows refl refl refl refl }
