use Rattle.amqp_write.specs.State.{stand, mark_of}
use Rattle.amqp_write.proofs.WideTexts.{pays_wide, decimal64_wide}
use Rattle.amqp_write.proofs.place.Place.decimal64.Goals as goal

pub returns : goal.returns
unfolding stand
returns g c = record { law = pays_wide _ _ _ _ _ _ (decimal64_wide (mark_of c.args.self.now) c.args.v.now (rw c.as_inner.ensures at c.eight_bytes.ensures.width)) (rw c.as_inner.ensures at c.eight_bytes.ensures.law) }
