use Rattle.amqp_write.specs.State.{stand, mark_of, mark_in}
use Rattle.std.proofs.Common.{refl, ap, sym, ◌∙◌, Some}
use Rattle.amqp_write.proofs.Steps.{pays_appended}
use Rattle.amqp_write.proofs.FixedTexts.{fixed_placed, fixed_unmarked}
use Rattle.amqp_write.proofs.TextOf.{pays_text, not_unmarked}
use Rattle.amqp_write.proofs.place.Place.fixed.Goals as goal

pub returns-in-Unmarked : goal.returns-in-Unmarked
unfolding stand
returns-in-Unmarked g c = let m = ap (mark_in c.args.self.now.descriptor) c.in-Unmarked.is in record { law = pays_appended _ _ _ _ _ _ _ _ (rw m refl) (rw m (fixed_unmarked c.args.code c.args.bytes.now ∙ ap Some (sym c.requires.whole))) c.requires.answers c.append.ensures }

pub returns-in_default : goal.returns-in_default
unfolding stand
returns-in_default g c = record { law = pays_text _ _ _ _ _ _ _ _ _ (fixed_placed (mark_of c.args.self.now) c.args.code c.args.bytes.now (not_unmarked _ _ c.in_default.not-Unmarked)) refl c.element.ensures.law }
