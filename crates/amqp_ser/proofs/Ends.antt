-- The end of a compound: what it lacks, and the whole otherwise.
use Rattle.std.proofs.Common.{◌≡◌, Bool, true, false, if◌then◌else◌, List, length, Option, Some, None, refl, sym, ◌∙◌, ap, Result, Err, OnOk, OnErr, IfErr}
use Rattle.std.proofs.lemmas.Result.{IfErr-weaker, on_ok_weaker}
use Rattle.amqp_base.specs.Item.{Item}
use Rattle.amqp_base.specs.Shapes.{whole}
use Rattle.amqp_base.specs.declared.shape.Shape.{Shape}
use Rattle.amqp_base.specs.declared.error.Error.{Error}
use Rattle.amqp_base.specs.declared.error.Error.TheVariants.{InvalidValue, InvalidLength}
use Rattle.amqp_ser.specs.State.{State}
use Rattle.amqp_ser.specs.Law.{Wrote, Refused, Kept}
use Rattle.amqp_ser.specs.Compound.{Open, Holds, Complete, is_map, awaits_value, lacking, lacks, EndsWhole}
use Rattle.amqp_write.proofs.PartTexts.{true_false, odd_count}

-- what is lacking, by the parts
pub lacking_is : (s : State) (shape : Shape) (xs : List Item) (q : Open) → Holds s shape xs q → lacks q.shape q.count ≡ lacking shape xs
lacking_is s shape xs q h = rw (h.shape_is, h.count) (by_parts shape)
  where
    by_parts : (x : Shape) → lacks x (length xs) ≡ lacking x xs
    by_parts Shape.List = refl
    by_parts Shape.Array = refl
    by_parts (Shape.Tuple n) = refl
    by_parts Shape.Map = ap (λ b. if b then Some InvalidLength else None) (odd_count xs)
    by_parts Shape.Fields = ap (λ b. if b then Some InvalidLength else None) (odd_count xs)

-- where nothing is lacking, no key is without its value
complete_of : (shape : Shape) (xs : List Item) → lacking shape xs ≡ None → Complete (is_map shape) xs
complete_of Shape.List xs h = refl
complete_of Shape.Array xs h = refl
complete_of (Shape.Tuple n) xs h = refl
complete_of Shape.Map xs h = none_is (awaits_value xs) h
  where
    none_is : (b : Bool) → (if b then Some InvalidLength else None) ≡ None → b ≡ false
    none_is false e = refl
    none_is true e = absurd cc e
complete_of Shape.Fields xs h = none_is (awaits_value xs) h
  where
    none_is : (b : Bool) → (if b then Some InvalidLength else None) ≡ None → b ≡ false
    none_is false e = refl
    none_is true e = absurd cc e

none_some : (e : Error) → ◌≡◌ {A = Option Error} None (Some e) → ⊥
none_some e h = cc

err_same : {A B : Type 0} (e d : Error) → ◌≡◌ {A = Result A Error} (Err e) (Err d) → ◌≡◌ {A = Result B Error} (Err e) (Err d)
err_same e d h = let same : e ≡ d = cc h in ap (λ x. Err x) same

-- nothing is lacking, and the whole was written or refused
pub ends_whole : {A : Type 0} (q : Open) (o : State) (r : Result A Error) (t : State) → lacks q.shape q.count ≡ None → q.inner.ended ≡ false
    → OnOk r ((s : State) (shape : Shape) (xs : List Item) → Holds s shape xs q → Complete q.pairs xs → Wrote s (whole shape xs) t)
    → IfErr r (λ e. (s : State) (shape : Shape) (xs : List Item) → Holds s shape xs q → Complete q.pairs xs → Refused s (whole shape xs) e t)
    → Kept o t → OnErr r (o.ended ≡ true → t.ended ≡ true) → EndsWhole q o r t
ends_whole q o r t none answers ok err kept stays = record {
  ok = on_ok_weaker r (λ k s shape xs h. k s shape xs h (complete s shape xs h)) ok;
  err = IfErr-weaker r _ _ (λ e k s shape xs h lacking. k s shape xs h (complete s shape xs h)) err;
  kept = kept;
  stays_ended = stays;
  ended = λ h. absurd (true_false (sym h ∙ answers));
}
  where
    complete : (s : State) (shape : Shape) (xs : List Item) → Holds s shape xs q → Complete q.pairs xs
    complete s shape xs h = rw h.pairs (complete_of shape xs (sym (lacking_is s shape xs q h) ∙ none))

pub nothing_lacking : {P : Type 0} (s : State) (shape : Shape) (xs : List Item) (q : Open) (e : Error) → Holds s shape xs q → lacks q.shape q.count ≡ None → lacking shape xs ≡ Some e → P
nothing_lacking s shape xs q e h none some = absurd (none_some e (sym none ∙ (lacking_is s shape xs q h ∙ some)))

-- something is lacking, and nothing was written
pub ends_lacking : {A : Type 0} (q : Open) (o : State) (d : Error) → lacks q.shape q.count ≡ Some d → q.inner.ended ≡ false → Kept o o → EndsWhole {A = A} q o (Err d) o
ends_lacking q o d some answers kept = record {
  ok = tt;
  err = λ s shape xs h none. absurd (none_some d (sym none ∙ (sym (lacking_is s shape xs q h) ∙ some)));
  kept = kept;
  stays_ended = λ h. h;
  ended = λ h. absurd (true_false (sym h ∙ answers));
}

pub is_lacking : (s : State) (shape : Shape) (xs : List Item) (q : Open) (d e : Error) → Holds s shape xs q → lacks q.shape q.count ≡ Some d → lacking shape xs ≡ Some e → d ≡ e
is_lacking s shape xs q d e h some is = let same : Some d ≡ Some e = sym some ∙ (lacking_is s shape xs q h ∙ is) in cc same

-- a compound that was ended already
pub ends_ended : {A : Type 0} (q : Open) (o : State) → q.inner.ended ≡ true → Kept o o → EndsWhole {A = A} q o (Err InvalidValue) o
ends_ended q o ended kept = record {
  ok = tt;
  err = λ s shape xs h none. absurd (true_false (sym ended ∙ h.run.answers));
  kept = kept;
  stays_ended = λ h. h;
  ended = λ h. refl;
}
