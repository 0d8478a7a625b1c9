use Rattle.amqp_write.specs.State.{stand, mark_of}
use Rattle.std.specs.Int.{w8}
use Rattle.std.proofs.lemmas.Int.{to_z-of_z}
use mir.Val.{SFits}
use Rattle.amqp_write.proofs.WideTexts.{pays_wide, byte_wide}
use Rattle.amqp_write.proofs.place.Place.byte.Goals as goal

pub returns : goal.returns
unfolding stand
returns g c = let f : SFits w8 c.args.v = c.ranges.v in record { law = pays_wide _ _ _ _ _ _ (byte_wide (mark_of c.args.self.now) c.args.v f) (rw (simp to_z-of_z at c.cast_unsigned.ensures) at c.one_byte.ensures.law) }
