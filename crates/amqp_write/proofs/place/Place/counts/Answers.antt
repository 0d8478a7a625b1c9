use Rattle.std.proofs.Common.{refl}
use Rattle.amqp_base.specs.declared.shape.Setting.TheVariants.{Plain}
use Rattle.amqp_write.specs.State.{stand}
use Rattle.amqp_write.proofs.NumberCounts.{counted_number, counted_text}
use Rattle.amqp_write.proofs.place.Place.counts.Goals as goal

pub returns-in-Measures-clause-counted : goal.returns-in-Measures-clause-counted
unfolding stand
returns-in-Measures-clause-counted g c = λ yes.
    let k = c.counts.ensures in
    let text = c.text_len.ensures.text in
    counted_number g.P.Texts.mark (g.T.Typed.meaning.item c.args.value Plain) _ _ _ text (λ long. counted_text text.0 _ _ c.args.self.now.direct _ _ _ _ _ _ _ long (k.counted yes) (k.untold yes) (k.alone yes) k.plan refl refl refl refl refl k.faults k.grows refl refl refl refl)
