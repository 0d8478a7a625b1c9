use Rattle.amqp_write.specs.State.{stand, mark_of}
use Rattle.std.proofs.Common.{arith}
use Rattle.amqp_write.proofs.WideTexts.{pays_wide, ubyte_wide}
use Rattle.amqp_write.proofs.place.Place.ubyte.Goals as goal

pub returns : goal.returns
unfolding stand
returns g c = record { law = pays_wide _ _ _ _ _ _ (ubyte_wide (mark_of c.args.self.now) c.args.v (omega arith)) c.one_byte.ensures.law }
