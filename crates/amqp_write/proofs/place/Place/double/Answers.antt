use Rattle.amqp_write.specs.State.{stand, mark_of}
use Rattle.std.proofs.Common.{arith}
use Rattle.amqp_write.proofs.WideTexts.{pays_wide, double_wide}
use Rattle.amqp_write.proofs.place.Place.double.Goals as goal

pub returns : goal.returns
unfolding stand
returns g c = record { law = pays_wide _ _ _ _ _ _ (double_wide (mark_of c.args.self.now) c.args.v (omega arith)) (rw (c.to_be_bytes.ensures, c.to_bits.ensures) at c.eight_bytes.ensures.law) }
