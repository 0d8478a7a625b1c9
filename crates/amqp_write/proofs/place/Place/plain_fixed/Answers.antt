use Rattle.amqp_write.specs.State.{stand}
use Rattle.std.proofs.Common.{refl, ap, sym, ◌∙◌, Some}
use Rattle.amqp_write.proofs.Steps.{pays_appended}
use Rattle.amqp_write.proofs.FixedTexts.{fixed_unmarked}
use Rattle.amqp_write.proofs.place.Place.plain_fixed.Goals as goal

pub returns : goal.returns
unfolding stand
returns g c = let m = c.requires.marked in record { law = pays_appended _ _ _ _ _ _ _ _ (rw m refl) (rw m (fixed_unmarked c.args.code c.args.bytes.now ∙ ap Some (sym c.requires.whole))) c.requires.answers c.append.ensures }
