use Rattle.std.proofs.Common.{rules, ◌≡◌, Bool, true, false, refl, sym, ◌∙◌}
use Rattle.std.proofs.Math.Bool.{beq}
use Rattle.std.proofs.lemmas.Result.{IfErr-weaker, on_ok_weaker}
use Rattle.amqp_base.specs.declared.shape.Shape.{Shape}
use Rattle.amqp_ser.proofs.Compounds.{turn_is}
use Rattle.amqp_ser.proofs.compound.write_in_turn.Goals as goal

same : (a b : Bool) → beq a b ≡ true → a ≡ b
same true true e = refl
same true false e = cc
same false true e = cc
same false false e = refl

apart : (a b : Bool) → beq a b ≡ false → a ≡ b → ⊥
apart true true e h = cc
apart true false e h = cc
apart false true e h = cc
apart false false e h = cc

pub returns-then-has_ended : goal.returns-then-has_ended
returns-then-has_ended g c = record { ok = tt; err = (search rules); turn = (search rules); kept = (search rules); stops = (search rules) }

pub returns-then-turn-is_value : goal.returns-then-turn-is_value
returns-then-turn-is_value g c =
    let w = c.write_part.ensures in
    record {
      ok = on_ok_weaker c.write_part.result (λ k s xs h. k s Shape.Map xs h) (w.ok true);
      err = IfErr-weaker c.write_part.result _ _ (λ e k s xs all h turn begins complete. k s Shape.Map xs all h begins complete) (w.err true);
      turn = λ s xs h differ. absurd (differ (sym (turn_is s xs _ _ h c.awaits_value-turn.ensures) ∙ same _ _ c.if-turn-is_value.true));
      kept = w.kept true;
      stops = w.stops true;
    }

pub returns : goal.returns
returns g c = record {
  ok = tt;
  err = λ s xs all h turn. absurd (apart _ _ c.if-turn-is_value.false (turn_is s xs _ _ h c.awaits_value-turn.ensures ∙ turn));
  turn = (search rules);
  kept = (search rules);
  stops = (search rules);
}
