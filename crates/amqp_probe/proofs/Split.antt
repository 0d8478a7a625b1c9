-- Lists at the first place of a byte.
use Rattle.std.proofs.Common.{◌≡◌, ℕ, suc, ◌+◌, ◌<◌, ◌==◌, Bool, true, false, cond, List, [], ◌∷◌, ◌++◌, length, take, drop, Some, None, refl, ap, arith, inl, inr}
use Rattle.std.proofs.lemmas.Bool.{eqb-true, eqb-false, cases_lt}
use Rattle.std.specs.List.{position, position_or_len}
use mathlib.Core.Bool.{not}
use Rattle.amqp_probe.specs.Pieces.{Without}

-- the byte stands at the place n first
pub record Splits (c : ℕ) (xs : List ℕ) (n : ℕ) : Type 0 where
  pub parts : xs ≡ take n xs ++ c ∷ drop (suc n) xs
  pub before : Without c (take n xs)
  pub within : n < length xs

abbrev place : ℕ → List ℕ → ℕ
place c xs = position_or_len (λ b. b == c) xs

choose : (P : ℕ → Type 0) (m : ℕ) (b : Bool) → (b ≡ true → P 0) → (b ≡ false → P (1 + m)) → P (cond (not b) (1 + m) 0)
choose P m true here on = here refl
choose P m false here on = on refl

splits_here : (c x : ℕ) (xs : List ℕ) → x ≡ c → Splits c (x ∷ xs) 0
splits_here c x xs e = record { parts = ap (λ (y : ℕ). y ∷ xs) e; before = tt; within = omega arith }

splits_on : (c x n : ℕ) (xs : List ℕ) → (x ≡ c → ⊥) → Splits c xs n → Splits c (x ∷ xs) (suc n)
splits_on c x n xs other s = record { parts = ap (λ (ys : List ℕ). x ∷ ys) s.parts; before = (other, s.before); within = let w = s.within in omega arith }

splits_len : (c : ℕ) (xs : List ℕ) → place c xs < length xs → Splits c xs (place c xs)
splits_len c [] h = absurd (omega arith)
splits_len c (x ∷ xs) h =
    choose (Splits c (x ∷ xs)) (place c xs) (x == c)
    (λ e. splits_here c x xs (eqb-true x c e))
    (λ e. let more : 1 + place c xs < suc (length xs) = rw e at h in
    let here : 1 + place c xs ≡ suc (place c xs) = omega arith in
    rw here (splits_on c x (place c xs) xs (eqb-false x c e) (splits_len c xs (omega arith))))

without_len : (c : ℕ) (xs : List ℕ) → length xs ≡ place c xs → Without c xs
without_len c [] h = tt
without_len c (x ∷ xs) h =
    choose (λ n. suc (length xs) ≡ n → Without c (x ∷ xs)) (place c xs) (x == c)
    (λ e l. absurd (omega arith))
    (λ e l. (eqb-false x c e, without_len c xs (omega arith)))
    h

place_le : (c : ℕ) (xs : List ℕ) → place c xs < suc (length xs)
place_le c [] = omega arith
place_le c (x ∷ xs) =
    let ih = place_le c xs in
    choose (λ n. n < suc (suc (length xs))) (place c xs) (x == c) (λ e. omega arith) (λ e. omega arith)

pub splits : (c : ℕ) (xs : List ℕ) (n : ℕ) → Some n ≡ position (λ b. b == c) xs → Splits c xs n
splits c xs n h = elim (cases_lt (place c xs) (length xs)) [
  | inl lt ↦ let same : n ≡ place c xs = grind arith in rw same (splits_len c xs lt)
  | inr le ↦ absurd (grind arith)
]

pub without : (c : ℕ) (xs : List ℕ) → None ≡ position (λ b. b == c) xs → Without c xs
without c xs h = elim (cases_lt (place c xs) (length xs)) [
  | inl lt ↦ absurd (grind arith)
  | inr le ↦ let small = place_le c xs in without_len c xs (omega arith)
]
