-- The numbers that were shown, and then passed, are the next parts.
use Rattle.std.proofs.Common.{rules, ℕ, false, Option, None, Some, is_some, ◌≡◌, refl, arith, take, subst, sym, ap, ◌∙◌, ◌++◌}
use Rattle.amqp_base.specs.Wire.{bare}
use Rattle.amqp_read.specs.Steps.{Passes}
use Rattle.amqp_data.specs.Parts.{Within}
use Rattle.amqp_data.specs.Places.{limit_of}
use Rattle.amqp_data.specs.declared.constructor.Limit.{Limit}
use Rattle.amqp_de.specs.Many.{AreElements}
use Rattle.amqp_de.proofs.ManyRead.{all_read, shown_passed}
use Rattle.amqp_de.proofs.deserializer.Deserializer.next_plain.Goals as goal

no_limit : (l : Option Limit) (t : ℕ) → is_some l ≡ false → Within (limit_of l) t
no_limit None t h = tt
no_limit (Some l) t h = absurd cc

pub returns : goal.returns
returns g c =
    let p = c.push_front-found.ensures.put in
    let n = c.push_front-found.result.0 in
    let some : (n ≡ 0 → ⊥) = omega (arith, c.if-found-eq0.false) in
    let bytes = c.bytes_at_hand-bytes.result.now in
    let passes : Passes c.push_front-found.result.1 (g.R.Read.reading c.self.inside.reader) (g.R.Read.reading c.pass_at_hand.new.self) = c.pass_at_hand.ensures.passed c.if-not-pass_at_hand.false in
    let same : passes.bytes ≡ take c.push_front-found.result.1 bytes = shown_passed _ _ _ bytes c.bytes_at_hand-bytes.ensures.shown passes c.push_front-found.ensures.within in (
      p.values,
      rw (← c.self.view_is) (all_read g.T.Typed.meaning bare n p.values passes.bytes _ _ (subst (λ b. AreElements g.T.Typed.meaning bare b p.values) (sym same) p.meant) p.many some record {
        step = passes.step;
        stands = search rules;
        alone = λ _. refl;
        answers = search rules;
        inherited = refl;
        described = refl;
        begun = c.ticks.ensures;
        left = omega (arith, c.push_front-found.ensures.few);
        outer = refl;
        limit = refl;
        within = no_limit c.args.inner.now.limit _ (sym c.is_some.ensures ∙ c.if-is_some.false);
      }),
      p.items ∙ ap (λ vs. vs ++ p.values) c.reserve.ensures.items,
      omega (arith, some, c.push_front-found.ensures.few),
    )
