use Rattle.std.proofs.Common.{refl}
use Rattle.amqp_write.specs.State.{stand}
use Rattle.amqp_write.proofs.NumberCounts.{counted_text}
use Rattle.amqp_write.proofs.place.Place.counts_texts.Goals as goal

pub returns-in-Measures-clause-counted : goal.returns-in-Measures-clause-counted
unfolding stand
returns-in-Measures-clause-counted g c = λ yes m is texts.
    let k = c.counts.ensures in
    record { bytes = texts.0; texts = texts.1; appended = counted_text texts.0 _ _ c.args.self.now.direct _ _ _ _ _ _ _ texts.2 (k.counted yes) (k.untold yes) (k.alone yes) k.plan refl refl refl refl refl k.faults k.grows refl refl refl refl }
