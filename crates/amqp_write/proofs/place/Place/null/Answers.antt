use Rattle.amqp_write.specs.State.{stand, mark_in}
use Rattle.std.proofs.Common.{refl, ap}
use Rattle.amqp_write.proofs.Steps.{pays_appended}
use Rattle.amqp_write.proofs.TextOf.{not_unmarked}
use Rattle.amqp_write.proofs.WideTexts.{null_text, null_pays}
use Rattle.amqp_write.proofs.place.Place.null.Goals as goal

pub returns-in-Unmarked : goal.returns-in-Unmarked
unfolding stand
returns-in-Unmarked g c = let m = ap (mark_in c.args.self.now.descriptor) c.in-Unmarked.is in record { law = pays_appended _ _ _ _ _ _ _ _ (rw m refl) (rw m null_text) c.requires c.append.ensures }

pub returns-in_default : goal.returns-in_default
unfolding stand
returns-in_default g c = record { law = null_pays _ _ _ _ (not_unmarked _ _ c.in_default.not-Unmarked) refl refl }
