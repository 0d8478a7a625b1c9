-- The numbers that were shown, and then passed, are the next elements.
use Rattle.std.proofs.Common.{rules, ℕ, ◌⊎◌, inl, inr, ◌≡◌, ◌+◌, ◌*◌, ◌/◌, ◌<◌, ◌≤◌, refl, arith, take, subst, sym, ap, ◌∙◌, ◌++◌}
use Rattle.std.proofs.Math.Nat.{div-mul-le_self, mul-le-mul_right}
use Rattle.amqp_base.specs.Wire.{under}
use Rattle.amqp_read.specs.Steps.{Passes}
use Rattle.amqp_data.specs.Parts.{Within}
use Rattle.amqp_data.specs.Places.{limit_of}
use Rattle.amqp_de.specs.Many.{AreElements}
use Rattle.amqp_de.proofs.ManyRead.{all_read, shown_passed}
use Rattle.amqp_de.proofs.deserializer.Deserializer.next_data.Goals as goal

some_bytes : (n w : ℕ) → (w ≡ 4) ⊎ (w ≡ 8) → (n ≡ 0 → ⊥) → 0 < n * w
some_bytes n w (inl h) some = rw h (omega (arith, some))
some_bytes n w (inr h) some = rw h (omega (arith, some))

-- so many are whole
whole : (n w x : ℕ) → n ≤ x / w → n * w ≤ x
whole n w x h = let a = mul-le-mul_right w h in let b = div-mul-le_self x w in omega (arith, a, b)

pub returns : goal.returns
returns g c =
    let p = c.push_all.ensures in
    let w = g.row.W in
    let n = c.min-many.result in
    let some : (n ≡ 0 → ⊥) = omega (arith, c.if-many-eq0.false) in
    let bytes = c.bytes_at_hand-bytes.result.now in
    let few : n * w ≤ c.min.result = whole n w c.min.result (omega (arith, c.min-many.ensures)) in
    let passes : Passes (n * w) (g.R.Read.reading c.self.inside.reader) (g.R.Read.reading c.pass_at_hand.new.self) = c.pass_at_hand.ensures.passed c.if-not-pass_at_hand.false in
    let same : passes.bytes ≡ take (n * w) bytes = shown_passed _ _ _ bytes c.bytes_at_hand-bytes.ensures.shown passes (omega (arith, few, c.min.ensures)) in (
      p.values,
      rw (← c.self.view_is) (all_read g.T.Typed.meaning (under g.T.Wide.widest) n p.values passes.bytes _ _ (subst (λ b. AreElements g.T.Typed.meaning (under g.T.Wide.widest) b p.values) (sym same) p.meant) p.many some record {
        step = passes.step;
        stands = search rules;
        alone = λ _. refl;
        answers = search rules;
        inherited = refl;
        described = refl;
        begun = c.ticks.ensures;
        left = omega (arith, c.min-many.ensures);
        outer = refl;
        limit = refl;
        within = subst (λ t. Within (limit_of c.args.inner.now.limit) t) (sym (passes.step.taken ∙ ap (λ x. (g.R.Read.reading c.self.inside.reader).taken + x) passes.len)) (subst (λ t. Within (limit_of c.args.inner.now.limit) (t + n * w)) c.bytes_consumed.ensures (c.bytes_left-left.ensures (n * w) (some_bytes n w c.requires.width some) (omega (arith, few, c.min.ensures))));
      }),
      p.items ∙ ap (λ vs. vs ++ p.values) c.reserve.ensures.items,
      omega (arith, some, c.min-many.ensures),
    )
