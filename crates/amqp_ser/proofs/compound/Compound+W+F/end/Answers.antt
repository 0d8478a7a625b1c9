use Rattle.std.proofs.Common.{refl, sym, ◌∙◌, ap, subst, Err}
use Rattle.amqp_ser.specs.Compound.{open_as, open_parts, EndsWhole}
use Rattle.amqp_write.proofs.PartTexts.{true_false}
use Rattle.amqp_ser.proofs.Compounds.{inner_answers, kept_itself}
use Rattle.amqp_ser.proofs.FieldParts.{ends_struct}
use Rattle.amqp_ser.proofs.Ends.{ends_whole, ends_lacking, ends_ended, nothing_lacking, is_lacking}
use Rattle.amqp_ser.proofs.compound.Compound+W+F.end.Goals as goal

pub returns-then-has_ended-clause-law : goal.returns-then-has_ended-clause-law
unfolding open_as
returns-then-has_ended-clause-law g c = λ pairs.
    let o = c.args.self.ser.now.state in
    subst (λ e. EndsWhole (open_parts pairs o c.args.self.parts) o (Err e) o) (sym c.refused.ensures) (ends_ended _ o (inner_answers _ _ _ ∙ (sym c.has_ended.ensures ∙ c.if-has_ended.true)) (kept_itself o))

pub returns-then-has_ended-clause-lacking : goal.returns-then-has_ended-clause-lacking
unfolding open_as
returns-then-has_ended-clause-lacking g c = λ pairs s shape xs e h lack. absurd (true_false (sym (inner_answers _ _ _ ∙ (sym c.has_ended.ensures ∙ c.if-has_ended.true)) ∙ h.run.answers))

pub returns-in-Some-clause-law : goal.returns-in-Some-clause-law
unfolding open_as
returns-in-Some-clause-law g c = λ pairs. ends_lacking _ _ c.in-Some.e (sym c.lacks.ensures ∙ c.in-Some.is) (inner_answers _ _ _ ∙ (sym c.has_ended.ensures ∙ c.if-has_ended.false)) (kept_itself _)

pub returns-in-Some-clause-lacking : goal.returns-in-Some-clause-lacking
unfolding open_as
returns-in-Some-clause-lacking g c = λ pairs s shape xs e h lack. (ap (λ d. Err d) (is_lacking s shape xs _ c.in-Some.e e h (sym c.lacks.ensures ∙ c.in-Some.is) lack), refl)

pub returns-in-Ok-clause-law : goal.returns-in-Ok-clause-law
unfolding open_as
returns-in-Ok-clause-law g c = λ pairs. ends_whole _ _ _ _ (sym c.lacks.ensures ∙ c.in-None.is) (inner_answers _ _ _ ∙ (sym c.has_ended.ensures ∙ c.if-has_ended.false)) (c.in-Ok.ensures.ok pairs) (c.in-Ok.ensures.err pairs) c.in-Ok.ensures.kept c.in-Ok.ensures.stays_ended

pub returns-in-Err-clause-law : goal.returns-in-Err-clause-law
unfolding open_as
returns-in-Err-clause-law g c = λ pairs. ends_whole _ _ _ _ (sym c.lacks.ensures ∙ c.in-None.is) (inner_answers _ _ _ ∙ (sym c.has_ended.ensures ∙ c.if-has_ended.false)) (c.in-Err.ensures.ok pairs) (c.in-Err.ensures.err pairs) c.in-Err.ensures.kept c.in-Err.ensures.stays_ended

pub returns-in-Ok-clause-lacking : goal.returns-in-Ok-clause-lacking
unfolding open_as
returns-in-Ok-clause-lacking g c = λ pairs s shape xs e h lack. nothing_lacking s shape xs _ e h (sym c.lacks.ensures ∙ c.in-None.is) lack

pub returns-in-Err-clause-lacking : goal.returns-in-Err-clause-lacking
unfolding open_as
returns-in-Err-clause-lacking g c = λ pairs s shape xs e h lack. nothing_lacking s shape xs _ e h (sym c.lacks.ensures ∙ c.in-None.is) lack

pub returns-then-has_ended-clause-fields : goal.returns-then-has_ended-clause-fields
unfolding open_as
returns-then-has_ended-clause-fields g c = ends_struct _ _ _ _ (returns-then-has_ended-clause-law g c)

pub returns-in-Some-clause-fields : goal.returns-in-Some-clause-fields
unfolding open_as
returns-in-Some-clause-fields g c = ends_struct _ _ _ _ (returns-in-Some-clause-law g c)

pub returns-in-Ok-clause-fields : goal.returns-in-Ok-clause-fields
unfolding open_as
returns-in-Ok-clause-fields g c = ends_struct _ _ _ _ (returns-in-Ok-clause-law g c)

pub returns-in-Err-clause-fields : goal.returns-in-Err-clause-fields
unfolding open_as
returns-in-Err-clause-fields g c = ends_struct _ _ _ _ (returns-in-Err-clause-law g c)
