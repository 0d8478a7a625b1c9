-- The size fields of a strict text say its length.
use Rattle.std.proofs.Common.{◌≡◌, ℕ, zero, suc, ◌+◌, ◌≤◌, leb, List, [], ◌∷◌, ◌++◌, length, take, drop, Some, None, refl, ◌∙◌, arith, append_assoc}
use Rattle.std.proofs.lemmas.List.{length-append, take_at, drop_at}
use Rattle.std.proofs.lemmas.Bool.{le-leb, cond-true}
use Rattle.amqp_base.specs.declared.format_code.EncodingCodes.{EncodingCodes}
use Rattle.amqp_base.specs.declared.format_code.Category.{Category}
use Rattle.amqp_base.specs.Codes.{Kind, row, code_of}
use Rattle.amqp_base.specs.Item.{Scalar, Descriptor, Item, described}
use Rattle.amqp_base.specs.Value.{number}
use Rattle.amqp_base.specs.Wire.{strict, bare, ScalarData, fixed, variable, ScalarText, code_and_data, Wire, of_code, of_described, of_data, Data, of_fixed, of_variable, list0, of_list, of_map, of_array, empty_array}
use Rattle.amqp_base.specs.Raw.{there, behind_size, data_length, scalar_raw, raw}
use Rattle.amqp_base.specs.Laws.{IsTwiceDescribed, RawAgrees}

is_there : (n : ℕ) (b y : List ℕ) → n ≤ length b → there n (b ++ y) ≡ Some n
is_there n b y h = cond-true (leb n (length (b ++ y))) (Some n) None (le-leb n (length (b ++ y)) (omega (arith, length-append b y)))

sized_raw : (w : ℕ) (z t y : List ℕ) → length z ≡ w → number z ≡ length t → behind_size w ((z ++ t) ++ y) ≡ Some (length (z ++ t))
sized_raw w z t y l n =
    let a : there w ((z ++ t) ++ y) ≡ Some w = is_there w (z ++ t) y (omega (arith, length-append z t)) in
    let size : w + number (take w ((z ++ t) ++ y)) ≡ length (z ++ t) = rw (append_assoc z t y, take_at z (t ++ y) w l) (omega (arith, length-append z t)) in
    rw (a, size) (is_there (length (z ++ t)) (z ++ t) y (omega arith))

scalar_data_raw : {e : EncodingCodes} {c : Category} {b : List ℕ} {v : Scalar} → ScalarData e c b v → (y : List ℕ) → data_length c (b ++ y) ≡ Some (length b)
scalar_data_raw (fixed {n = n} {b = b} l p) y = rw l (is_there n b y (omega arith))
scalar_data_raw (variable {w = w} l b ll n p) y = sized_raw w l b y ll n

data_raw : {e : EncodingCodes} {k : Kind} {c : Category} {b : List ℕ} {i : Item} → Data strict e k c b i → (y : List ℕ) → data_length c (b ++ y) ≡ Some (length b)
data_raw (of_fixed h) y = scalar_data_raw h y
data_raw (of_variable h) y = scalar_data_raw h y
data_raw list0 y = is_there 0 [] y (omega arith)
data_raw (of_list {w = w} z k b lz lk nk h f) y = sized_raw w z (k ++ b) y lz (omega (arith, f, length-append k b))
data_raw (of_map {w = w} z k b lz lk nk h f) y = sized_raw w z (k ++ b) y lz (omega (arith, f, length-append k b))
data_raw (of_array {w = w} z k m b lz lk nk g h f) y = sized_raw w z (k ++ (m ++ b)) y lz (omega (arith, f, length-append k (m ++ b), length-append m b))
data_raw (empty_array {w = w} z k b lz lk nk f) y = sized_raw w z (k ++ b) y lz (omega (arith, f, length-append k b))

no_code : {e : EncodingCodes} → code_of 0 ≡ Some e → ⊥
unfolding code_of row
no_code h = cc

-- a text that begins with a code
coded_raw : (x : ℕ) {e : EncodingCodes} (b y : List ℕ) → code_of x ≡ Some e → data_length (row e).category (b ++ y) ≡ Some (length b) → scalar_raw (x ∷ (b ++ y)) ≡ Some (suc (length b))
coded_raw x b y p h = rw (p, h) refl

descriptor_raw : {a : List ℕ} {v : Scalar} → ScalarText a v → (y : List ℕ) → scalar_raw (a ++ y) ≡ Some (length a)
descriptor_raw (code_and_data {x = x} {b = b} p h) y = coded_raw x b y p (scalar_data_raw h y)

-- where the item is no described one
once : {b : List ℕ} {i : Item} → Wire strict bare b i → (d : Descriptor) → (IsTwiceDescribed (described d i) → ⊥) → (y : List ℕ) → scalar_raw (b ++ y) ≡ Some (length b)
once (of_code {x = x} {b = b} p (of_data h)) d single y = coded_raw x b y p (data_raw h y)
once (of_described a b g h) d single y = absurd (single tt)

raw_of_code : (x : ℕ) {e : EncodingCodes} (s : List ℕ) → code_of x ≡ Some e → raw (x ∷ s) ≡ scalar_raw (x ∷ s)
unfolding raw
raw_of_code zero s p = absurd (no_code p)
raw_of_code (suc x) s p = refl

pub raw_agrees : RawAgrees
unfolding raw
raw_agrees b i (of_code {x = x} {b = t} p (of_data h)) single y = raw_of_code x (t ++ y) p ∙ coded_raw x t y p (data_raw h y)
raw_agrees b i (of_described s t {d = d} g h) single y =
    let e : (s ++ t) ++ y ≡ s ++ (t ++ y) = append_assoc s t y in
    let first : scalar_raw ((s ++ t) ++ y) ≡ Some (length s) = rw e (descriptor_raw g (t ++ y)) in
    let left : drop (length s) ((s ++ t) ++ y) ≡ t ++ y = rw e (drop_at s (t ++ y) (length s) refl) in
    rw (first, left, once h d single y, length-append s t)
