use Rattle.amqp_write.specs.State.{stand, mark_of}
use Rattle.amqp_write.proofs.WideTexts.{pays_wide, uuid_wide}
use Rattle.amqp_write.proofs.place.Place.uuid.Goals as goal

pub returns : goal.returns
unfolding stand
returns g c = record { law = pays_wide _ _ _ _ _ _ (uuid_wide (mark_of c.args.self.now) c.args.v.now (rw c.as_inner.ensures at c.sixteen_bytes.ensures.width)) (rw c.as_inner.ensures at c.sixteen_bytes.ensures.law) }
