use Rattle.amqp_write.specs.State.{stand, mark_of}
use Rattle.std.proofs.Common.{arith}
use Rattle.amqp_write.proofs.WideTexts.{pays_wide, ushort_wide}
use Rattle.amqp_write.proofs.place.Place.ushort.Goals as goal

pub returns : goal.returns
unfolding stand
returns g c = record { law = pays_wide _ _ _ _ _ _ (ushort_wide (mark_of c.args.self.now) c.args.v (omega arith)) (rw c.to_be_bytes.ensures at c.two_bytes.ensures.law) }
