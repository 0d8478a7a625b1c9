use Rattle.amqp_write.specs.State.{stand, mark_of}
use Rattle.amqp_write.proofs.PayloadTexts.{pays_payload, carries_binary}
use Rattle.amqp_write.proofs.place.Place.binary.Goals as goal

pub returns : goal.returns
unfolding stand
returns g c = record { law = pays_payload _ _ _ _ _ _ _ _ (carries_binary (mark_of c.args.self.now) c.args.v.now) c.payload_text.ensures.law }
