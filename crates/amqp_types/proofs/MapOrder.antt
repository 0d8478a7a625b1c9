-- Two lists of pairs from one index on, as a loop over both reads them.
use Rattle.std.proofs.Common.{◌≡◌, ℕ, zero, suc, ◌+◌, ◌<◌, List, [], ◌∷◌, Option, Some, None, refl, sym, ap, ◌∙◌, arith, length, drop}
use Rattle.std.specs.Prelude.{slice_get}
use Rattle.std.specs.declared.cmp.Ordering.{Ordering}
use Rattle.std.specs.declared.cmp.Ordering.TheVariants.{Less}
use Rattle.std.specs.Ordering.{partial_ordering_then}
use Rattle.std.specs.Cmp.Lexicographic.{slice_partial_cmp}
use Rattle.std.proofs.lemmas.Option.{none-some, same_Some}

module _ {A : Type 0} where
  cut : (xs : List A) (i : ℕ) (x : A) → slice_get xs i ≡ Some x → x ∷ drop (suc i) xs ≡ drop i xs
  cut [] i x e = absurd (none-some _ e)
  cut (y ∷ ys) zero x e = ap (λ z. z ∷ ys) (sym (same_Some _ _ e))
  cut (y ∷ ys) (suc i) x e = cut ys i x e

  -- the items from i on begin with the one at i
  begins : (xs : List A) (i : ℕ) (x : A) → Some x ≡ slice_get xs i → x ∷ drop (i + 1) xs ≡ drop i xs
  begins xs i x e = let next : i + 1 ≡ suc i = omega arith in ap (λ k. x ∷ drop k xs) next ∙ cut xs i x (sym e)

  -- behind the last there is none
  ends : (xs : List A) (i : ℕ) → None ≡ slice_get xs i → [] ≡ drop i xs
  ends [] zero e = refl
  ends [] (suc i) e = refl
  ends (x ∷ xs) zero e = absurd (none-some _ e)
  ends (x ∷ xs) (suc i) e = ends xs i e

  module _ {X : Type 0} (f : List A → List A → X) (xs ys : List A) (i : ℕ) where
    both_go_on : (x y : A) → Some x ≡ slice_get xs i → Some y ≡ slice_get ys i → f (x ∷ drop (i + 1) xs) (y ∷ drop (i + 1) ys) ≡ f (drop i xs) (drop i ys)
    both_go_on x y h k = ap (λ l. f l (y ∷ drop (i + 1) ys)) (begins xs i x h) ∙ ap (f (drop i xs)) (begins ys i y k)

    pub second_ends : (x : A) → Some x ≡ slice_get xs i → None ≡ slice_get ys i → f (x ∷ drop (i + 1) xs) [] ≡ f (drop i xs) (drop i ys)
    second_ends x h k = ap (λ l. f l []) (begins xs i x h) ∙ ap (f (drop i xs)) (ends ys i k)

    pub first_ends : None ≡ slice_get xs i → f [] (drop i ys) ≡ f (drop i xs) (drop i ys)
    first_ends h = ap (λ l. f l (drop i ys)) (ends xs i h)

  module _ (xs ys : List A) (i : ℕ) (x y : A) (one : Some x ≡ slice_get xs i) (two : Some y ≡ slice_get ys i) where
    -- one turn: what was found of the next two, and behind them the others, is what is found of all
    pub turn : (P : A → A → Option Ordering) (found whole : Option Ordering) → found ≡ P x y → slice_partial_cmp P (drop i xs) (drop i ys) ≡ whole
        → partial_ordering_then found (slice_partial_cmp P (drop (i + 1) xs) (drop (i + 1) ys)) ≡ whole
    turn P found whole e rest = ap (λ k. partial_ordering_then k (slice_partial_cmp P (drop (i + 1) xs) (drop (i + 1) ys))) e ∙ (both_go_on (slice_partial_cmp P) xs ys i x y one two ∙ rest)

  -- where items are left of the second list alone, the first is the lesser
  pub is_less : (P : A → A → Option Ordering) (ys : List A) → 0 < length ys → Some Less ≡ slice_partial_cmp P [] ys
  is_less P [] h = absurd (omega arith)
  is_less P (y ∷ ys) h = refl
