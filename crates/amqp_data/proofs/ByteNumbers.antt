-- Bytes as numbers.
use Rattle.std.proofs.Common.{◌≡◌, ℕ, zero, suc, ◌+◌, ◌-◌, ◌*◌, ◌/◌, ◌^◌, if◌then◌else◌, nat_lt, List, [], ◌∷◌, length, refl, ◌∙◌, arith, ℤ, pos, negsuc, to_z, of_z, w8, w16, w32, w64}
use mir.Val.{SFits}
use Rattle.std.specs.Int.{Width, w128, byte_len, byte_worth, sum_through, from_be_bytes}
use Rattle.std.specs.Prelude.{slice_index}
use Rattle.std.proofs.lemmas.Int.{to_z-of_z, ints}
use Rattle.std.proofs.lemmas.Bool.Decides.{nat_tests}
use Rattle.amqp_base.specs.Value.{number, signed}

from_front : (f : ℕ → ℕ) (k : ℕ) → sum_through f (suc k) ≡ f 0 + sum_through (λ i. f (suc i)) k
from_front f zero = refl
from_front f (suc k) = let h = from_front f k in omega (arith, h)

alike : (f g : ℕ → ℕ) (k : ℕ) → ((i : ℕ) → f i ≡ g i) → sum_through f k ≡ sum_through g k
alike f g zero h = h 0
alike f g (suc k) h = rw (alike f g k h, h (suc k)) refl

-- what byte i of suc k is worth
worth : ℕ → List ℕ → ℕ → ℕ
worth k b i = byte_worth (k - i) (slice_index b i)

later : (k x : ℕ) (b : List ℕ) (i : ℕ) → worth (suc k) (x ∷ b) (suc i) ≡ worth k b i
unfolding worth
later k x b i = let e : suc k - suc i ≡ k - i = omega arith in rw e refl

first : (k x : ℕ) (b : List ℕ) → worth (suc k) (x ∷ b) 0 ≡ x * 256 ^ suc k
unfolding worth
first k x b = let e : suc k - 0 ≡ suc k = omega arith in rw e refl

spelled : (k : ℕ) (b : List ℕ) → length b ≡ suc k → sum_through (worth k b) k ≡ number b
unfolding worth
spelled k [] l = absurd (omega arith)
spelled zero (x ∷ []) l = omega arith
spelled zero (x ∷ y ∷ b) l = absurd (omega arith)
spelled (suc k) (x ∷ b) l =
    let n : length b ≡ suc k = omega arith in
    from_front (worth (suc k) (x ∷ b)) k ∙ rw (first k x b, alike (λ i. worth (suc k) (x ∷ b) (suc i)) (worth k b) k (later k x b), spelled k b n, n) refl

pub number_1 : (n : ℕ) → number (n ∷ []) ≡ n
number_1 n = omega arith

-- std's number of the bytes
pub be_number : (w : Width) (b : List ℕ) → length b ≡ byte_len w → from_be_bytes w b ≡ number b
unfolding worth
be_number w8 b l = spelled 0 b l
be_number w16 b l = spelled 1 b l
be_number w32 b l = spelled 3 b l
be_number w64 b l = spelled 7 b l
be_number w128 b l = spelled 15 b l

two's : (w : Width) (n : ℕ) → (if nat_lt n (256 ^ byte_len w / 2) then pos n else negsuc (256 ^ byte_len w - suc n)) ≡ to_z w n
two's w8 n = grind (arith, ints, nat_tests)
two's w16 n = grind (arith, ints, nat_tests)
two's w32 n = grind (arith, ints, nat_tests)
two's w64 n = grind (arith, ints, nat_tests)
two's w128 n = grind (arith, ints, nat_tests)

-- and the same in two's complement
pub be_signed : (w : Width) (b : List ℕ) (z : ℤ) → length b ≡ byte_len w → z ≡ to_z w (from_be_bytes w b) → SFits w z → signed b ≡ to_z w (of_z w z)
be_signed w b z l h f = rw (to_z-of_z w z f, h, be_number w b l, l) (two's w (number b))

-- a signed byte fits each width
pub widened : (w : Width) (z : ℤ) → SFits w8 z → to_z w (of_z w z) ≡ z
widened w8 z f = to_z-of_z w8 z f
widened w16 z f = omega (arith, ints)
widened w32 z f = omega (arith, ints)
widened w64 z f = omega (arith, ints)
widened w128 z f = omega (arith, ints)

pub be_widened : (w : Width) (b : List ℕ) (z : ℤ) → length b ≡ 1 → z ≡ to_z w8 (from_be_bytes w8 b) → SFits w8 z → signed b ≡ to_z w (of_z w (to_z w8 (of_z w8 z)))
be_widened w b z l h f = rw (to_z-of_z w8 z f, widened w z f) (be_signed w8 b z l h f ∙ to_z-of_z w8 z f)
