use Rattle.amqp_write.specs.State.{stand, mark_of, mark_in}
use Rattle.std.proofs.Common.{refl, ap}
use Rattle.amqp_write.proofs.Steps.{pays_appended}
use Rattle.amqp_write.proofs.TextOf.{not_unmarked}
use Rattle.amqp_write.proofs.WideTexts.{pays_wide, true_text, false_text, boolean_wide}
use Rattle.amqp_write.proofs.place.Place.boolean.Goals as goal

pub returns-in-Unmarked : goal.returns-in-Unmarked
unfolding stand
returns-in-Unmarked g c = let m = ap (mark_in c.args.self.now.descriptor) c.in-Unmarked.is in record { law = pays_appended _ _ _ _ _ _ _ _ (rw m refl) (rw m (true_text c.args.v c.if-v.true)) c.requires c.append.ensures }

pub returns-in-Unmarked-2 : goal.returns-in-Unmarked-2
unfolding stand
returns-in-Unmarked-2 g c = let m = ap (mark_in c.args.self.now.descriptor) c.in-Unmarked.is in record { law = pays_appended _ _ _ _ _ _ _ _ (rw m refl) (rw m (false_text c.args.v c.if-v.false)) c.requires c.append-in-Unmarked-2.ensures }

pub returns-in_default : goal.returns-in_default
unfolding stand
returns-in_default g c =
    let wide = boolean_wide (mark_of c.args.self.now) c.args.v (not_unmarked _ _ c.in_default.not-Unmarked) in
    record { law = pays_wide _ _ _ _ _ _ wide (rw c.from.ensures at c.one_byte.ensures.law) }
