use Rattle.amqp_base.specs.Faults.{refusal_of}
use Rattle.amqp_write.specs.State.{stand, mark_of, mark_in}
use Rattle.std.proofs.Common.{refl, ap}
use Rattle.amqp_write.proofs.Steps.{pays_appended}
use Rattle.amqp_write.proofs.TextOf.{pays_text, long_pays, short_pays, payload_none, payload_placed, not_unmarked}
use Rattle.amqp_write.proofs.place.Place.payload_text.Goals as goal

pub returns-then-len-gt-LONGEST : goal.returns-then-len-gt-LONGEST
unfolding stand refusal_of
returns-then-len-gt-LONGEST g c = record { law = long_pays _ _ _ _ _ _ refl (payload_none (mark_of c.args.self.now) c.args.narrow c.args.code c.args.bytes.now c.if-len-gt-LONGEST.true) c.if-len-gt-LONGEST.true refl }

pub returns-in-Unmarked : goal.returns-in-Unmarked
unfolding stand
returns-in-Unmarked g c = let m = ap (mark_in c.args.self.now.descriptor) c.in-Unmarked.is in let w = c.payload_outside.ensures.law in record { law = pays_appended _ _ _ _ _ _ _ _ (rw m refl) (rw m w.is) c.requires w.appended }

pub returns-in_default : goal.returns-in_default
unfolding stand
returns-in_default g c = record { law = short_pays _ _ _ _ _ _ c.if-len-gt-LONGEST.false (pays_text _ _ _ _ _ _ _ _ _ (payload_placed (mark_of c.args.self.now) c.args.narrow c.args.code c.args.bytes.now (not_unmarked _ _ c.in_default.not-Unmarked) c.if-len-gt-LONGEST.false) refl (rw c.to_be_bytes.ensures at c.element.ensures.law)) }
