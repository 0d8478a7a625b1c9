use Rattle.std.proofs.Common.{rules}
use Rattle.amqp_write.specs.State.{stand, mark_of}
use Rattle.amqp_write.proofs.WideTexts.{pays_wide, char_wide}
use Rattle.amqp_write.proofs.place.Place.char.Goals as goal

pub returns : goal.returns
unfolding stand
returns g c = record { law = pays_wide _ _ _ _ _ _ (char_wide (mark_of c.args.self.now) c.args.v (search rules)) (rw (c.to_be_bytes.ensures, c.from.ensures) at c.four_bytes.ensures.law) }
