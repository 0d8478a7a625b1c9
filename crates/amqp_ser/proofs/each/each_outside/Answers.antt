-- The elements outside arrays, which are counted behind the last.
use Rattle.std.proofs.Common.{◌≡◌, refl, ◌++◌, map, take, sym, ap, ◌∙◌, subst, arith, false}
use Rattle.amqp_base.specs.declared.shape.Shape.{Shape}
use Rattle.amqp_base.specs.declared.shape.Setting.TheVariants.{Plain}
use Rattle.amqp_ser.specs.Law.{Wrote, Refused}
use Rattle.amqp_ser.specs.Compound.{open_as, open_state, outer_in, outside_in}
use Rattle.amqp_write.proofs.PartTexts.{true_false}
use Rattle.amqp_ser.proofs.Compounds.{Lives, plain_more, plain_begins, keeps_two, keeps_lives, inner_lives, inner_answers, broken_lives, direct_more, direct_refused, part_outside}
use Rattle.amqp_ser.proofs.ManyParts.{each_next, each_begins, counted}
use Rattle.amqp_ser.proofs.each.each_outside.Goals as goal

pub loop-value-preserved : goal.loop-value-preserved
unfolding open_as
loop-value-preserved g c =
    let f = λ (x : g.row.T.Denot). g.T.Typed.meaning.item x in
    let vs = c.args.values.now in
    let k = c.loop-value.value-index in
    let v = c.value-item.result in
    let q = c.loop-value.seq in
    let same = sym c.loop-value.invariant.parts in
    let live = subst (λ p. Lives p.opened) same c.requires.direct in
    let outside = subst (λ p. p.shape ≡ Shape.Array → ⊥) same c.requires.outside in
    let answers = subst (λ p. p.buffer.state.ended ≡ false) same c.requires.answers in
    let o = q.ser.now.state in
    let t = c.write_outside.new.ser.state in
    let w = c.in-Ok.ensures.ok in
    let wrote = subst (λ y. Wrote y (f v y.setting) w.0) (part_outside q.parts.shape o outside) (subst (λ p. Wrote (outside_in p.shape o) (f v (outside_in p.shape o).setting) w.0) same w.1) in
    record {
      parts = c.loop-value.invariant.parts;
      same_reference = c.loop-value.invariant.same_reference;
      kept = keeps_two _ _ _ c.loop-value.invariant.kept (keeps_lives _ _ q.parts.opened (outer_in q.parts.outer) o t refl refl c.in-Ok.ensures.kept c.in-Ok.ensures.held);
      holds = λ s shape xs h.
          let held = c.loop-value.invariant.holds s shape xs h in
          let more = direct_more s shape (xs ++ map (λ x. f x Plain) (take k vs)) (f v) (counted (open_state q) k) _ (outer_in q.parts.outer) o w.0 t live (inner_lives _ o _ live ∙ ap (λ z. record o { ended = z }) answers) refl wrote w.2 (inner_lives _ t _ live ∙ ap (λ z. record t { ended = z }) answers) refl refl refl refl (omega arith) held in
          each_next (λ x. f x Plain) s shape xs vs k v _ c.loop-value-test.true c.value-item.is (plain_more s shape (xs ++ map (λ x. f x Plain) (take k vs)) (f v) (counted (open_state q) k) _ refl held more);
    }

pub returns-in-Err-clause-law : goal.returns-in-Err-clause-law
unfolding open_as
returns-in-Err-clause-law g c =
    let f = λ (x : g.row.T.Denot). g.T.Typed.meaning.item x in
    let vs = c.args.values.now in
    let k = c.loop-value.value-index in
    let v = c.value-item.result in
    let q = c.loop-value.seq in
    let same = sym c.loop-value.invariant.parts in
    let live = subst (λ p. Lives p.opened) same c.requires.direct in
    let outside = subst (λ p. p.shape ≡ Shape.Array → ⊥) same c.requires.outside in
    let answers = subst (λ p. p.buffer.state.ended ≡ false) same c.requires.answers in
    let o = q.ser.now.state in
    let t = c.write_outside.new.ser.state in
    let e = c.in-Err.e in
    let w = c.in-Err.ensures.err in
    let refused = subst (λ y. Refused y (f v y.setting) e w.0) (part_outside q.parts.shape o outside) (subst (λ p. Refused (outside_in p.shape o) (f v (outside_in p.shape o).setting) e w.0) same w.1) in
    record {
      ok = tt;
      err = λ s shape xs all h begins.
          let held = c.loop-value.invariant.holds s shape xs h in
          let split = plain_begins s shape (xs ++ map (λ x. f x Plain) (take k vs)) all (f v) (counted (open_state q) k) refl held (each_begins (λ x. f x Plain) xs all vs k v c.loop-value-test.true c.value-item.is begins) in
          direct_refused s shape (xs ++ map (λ x. f x Plain) (take k vs)) all (f v) e (counted (open_state q) k) (outer_in q.parts.outer) o w.0 t (inner_lives _ o _ live ∙ ap (λ z. record o { ended = z }) answers) refl refused w.2 held split refl;
      kept = keeps_two _ _ _ c.loop-value.invariant.kept (keeps_lives _ _ q.parts.opened (outer_in q.parts.outer) o t refl refl c.in-Err.ensures.kept c.in-Err.ensures.held);
      stops = record {
        err = broken_lives _ t _ live (rw c.set_ended.ensures refl);
        ended = λ h. absurd (true_false (sym h ∙ (inner_answers _ _ _ ∙ c.requires.answers)));
      };
    }
