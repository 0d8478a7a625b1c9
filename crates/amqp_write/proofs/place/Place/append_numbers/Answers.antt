-- Numbers that are counted, or written by blocks.
use Rattle.std.proofs.Common.{refl}
use Rattle.amqp_write.specs.State.{stand}
use Rattle.amqp_write.proofs.NumberCounts.{counted_text}
use Rattle.amqp_write.proofs.place.Place.append_numbers.Goals as goal

pub returns-then-counts : goal.returns-then-counts
unfolding stand
returns-then-counts g c =
    let k = c.counts.ensures in
    let texts = c.lengths.ensures.texts in
    record { law = record { bytes = texts.0; texts = texts.1; appended = counted_text texts.0 _ _ c.args.self.now.direct _ _ _ _ _ _ _ texts.2 (k.counted c.if-counts.true) (k.untold c.if-counts.true) (k.alone c.if-counts.true) k.plan refl refl refl refl refl k.faults k.grows refl refl refl refl } }
