use Rattle.amqp_write.specs.State.{stand, mark_of}
use Rattle.std.specs.Int.{w64}
use Rattle.std.proofs.lemmas.Int.{to_z-of_z}
use mir.Val.{SFits}
use Rattle.amqp_write.proofs.WideTexts.{pays_wide, timestamp_wide}
use Rattle.amqp_write.proofs.place.Place.timestamp.Goals as goal

pub returns : goal.returns
unfolding stand
returns g c = let f : SFits w64 c.args.v = c.ranges.v in record { law = pays_wide _ _ _ _ _ _ (timestamp_wide (mark_of c.args.self.now) c.args.v f) (rw (simp to_z-of_z at c.to_be_bytes.ensures) at c.eight_bytes.ensures.law) }
