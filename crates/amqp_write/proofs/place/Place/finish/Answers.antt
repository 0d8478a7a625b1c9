use Rattle.amqp_base.specs.Faults.{refusal_of}
use Rattle.amqp_write.specs.State.{stand, mark_of}
use Rattle.std.proofs.Common.{refl}
use Rattle.amqp_write.proofs.TextOf.{pays_text, long_pays, short_pays, whole_none, whole_placed, not_unmarked}
use Rattle.amqp_write.proofs.place.Place.finish.Goals as goal

pub returns-then-len-gt-LONGEST-clause-law : goal.returns-then-len-gt-LONGEST-clause-law
unfolding stand refusal_of
returns-then-len-gt-LONGEST-clause-law g c = λ h. long_pays _ _ _ _ _ _ refl (whole_none c.args.shape (mark_of c.args.self.now) c.args.count c.args.body.now c.if-len-gt-LONGEST.true) c.if-len-gt-LONGEST.true refl

pub returns-in-Unmarked-clause-law : goal.returns-in-Unmarked-clause-law
unfolding stand
returns-in-Unmarked-clause-law g c = c.finish_unmarked.ensures.law

pub returns-in_default-clause-law : goal.returns-in_default-clause-law
unfolding stand
returns-in_default-clause-law g c = λ h. short_pays _ _ _ _ _ _ c.if-len-gt-LONGEST.false (pays_text _ _ _ _ _ _ _ _ _ (whole_placed c.args.shape (mark_of c.args.self.now) c.args.count c.args.body.now (not_unmarked _ _ c.in_default.not-Unmarked) c.if-len-gt-LONGEST.false h) refl (rw (c.wide_code.ensures, c.to_be_bytes-size.ensures, c.to_be_bytes-n.ensures) at c.element.ensures.law))

pub returns-then-len-gt-LONGEST-clause-device : goal.returns-then-len-gt-LONGEST-clause-device
unfolding refusal_of
returns-then-len-gt-LONGEST-clause-device g c = λ d. absurd (d.1 refl)
