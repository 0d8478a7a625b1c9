-- What is spelled is read by the simple program.
use Rattle.std.proofs.Common.{◌≡◌, ℕ, zero, suc, ◌+◌, ◌-◌, ◌≤◌, max, true, false, leb, ◌&&◌, List, [], ◌∷◌, ◌++◌, length, Some, None, refl, sym, ap, subst, ◌∙◌, arith, ⊎_elim, append_assoc}
use Rattle.std.proofs.lemmas.Bool.{le-leb, eq-eqb, and_from, cond-true, cond-false, cases_Bool}
use Rattle.std.proofs.lemmas.List.{length-append, take_at, drop_at}
use Rattle.amqp_base.specs.declared.format_code.EncodingCodes.{EncodingCodes}
use Rattle.amqp_base.specs.declared.format_code.EncodingCodes.TheVariants.{List0}
use Rattle.amqp_base.specs.declared.format_code.Category.{Category}
use Rattle.amqp_base.specs.declared.format_code.Category.TheVariants.{Fixed}
use Rattle.amqp_base.specs.Codes.{Kind, row, code_of}
use Rattle.amqp_base.specs.Item.{Scalar, Descriptor, name, code, descriptor_item, Item, scalar, list, map, array, described, Items, none, more, Pairs, no_pairs, pair, count, in_turn}
use Rattle.amqp_base.specs.Value.{number}
use Rattle.amqp_base.specs.Wire.{Rules, lenient, strict, Constructor, bare, under, FitsList, FitsArray, FitsEmpty, ScalarData, fixed, variable, ScalarText, code_and_data, Spells, primitive, Wire, of_code, of_described, of_data, of_pair, Data, of_fixed, of_variable, list0, of_list, of_map, of_array, empty_array, Parts, no_part, part}
use Rattle.amqp_base.specs.Wire.{pair as pair_constructor}
use Rattle.amqp_base.proofs.OneFront.{no_code, no_scalar}
use Rattle.amqp_base.proofs.Decode.{Reading, fits_list, fits_array, empty_length, first, scalar_at, code_at, as_descriptor, descriptor_at, constructor_at, parts_at, pairs_of, header_at, is_list0, shape_at, data_at, decode}
use Rattle.amqp_base.proofs.DecodeSound.{list0_is}

first_is : (n : ℕ) (a t : List ℕ) → length a ≡ n → first n (a ++ t) ≡ Some (a, t)
first_is n a t l =
    let b : leb n (length (a ++ t)) ≡ true = le-leb n (length (a ++ t)) (omega (arith, length-append a t)) in
    rw (b, take_at a t n l, drop_at a t n l) refl

scalar_is : {e : EncodingCodes} {c : Category} {b : List ℕ} {v : Scalar} → ScalarData e c b v → (t : List ℕ) → scalar_at e c (b ++ t) ≡ Some (v, t)
scalar_is (fixed {n = n} {b = b} l p) t = rw (first_is n b t l, p) refl
scalar_is (variable {w = w} l b ll n p) t = rw (append_assoc l b t, first_is w l (b ++ t) ll, first_is (number l) b t (sym n), p) refl

as_descriptor_is : (d : Descriptor) → as_descriptor (descriptor_item d) ≡ Some d
unfolding as_descriptor
as_descriptor_is (name b) = refl
as_descriptor_is (code n) = refl

code_is : (x : ℕ) (e : EncodingCodes) (t : List ℕ) → code_of x ≡ Some e → code_at (x ∷ t) ≡ Some (e, t)
code_is x e t p = rw p refl

text_is : {a : List ℕ} {v : Scalar} → ScalarText a v → (d : Descriptor) → v ≡ descriptor_item d → (t : List ℕ) → descriptor_at (a ++ t) ≡ Some (d, t)
text_is (code_and_data {x = x} {e = e} {b = b} {v = v} p h) d q t =
    let s : as_descriptor v ≡ Some d = ap as_descriptor q ∙ as_descriptor_is d in
    rw (p, scalar_is h t, s) refl

constructor_is : {m : List ℕ} {c : Constructor} → Spells m c → (t : List ℕ) → constructor_at (m ++ t) ≡ Some (c, t)
constructor_is (primitive {x = x} {e = e} p) t = go x p
  where
    go : (x : ℕ) → code_of x ≡ Some e → constructor_at (x ∷ t) ≡ Some (under e, t)
    go zero p = absurd (no_code p)
    go (suc x) p = rw p refl
constructor_is (pair_constructor a x {d = d} {e = e} g p) t =
    rw (append_assoc a (x ∷ []) t, text_is g d refl (x ∷ t), p) refl

pairs_is : (ps : Pairs) → pairs_of (in_turn ps) ≡ Some ps
pairs_is no_pairs = refl
pairs_is (pair k v ps) = rw (pairs_is ps) refl

header_is : (w : ℕ) (z k t : List ℕ) → length z ≡ w → length k ≡ w → header_at w (z ++ (k ++ t)) ≡ Some ((number z, number k), t)
header_is w z k t lz lk = rw (first_is w z (k ++ t) lz, first_is w k t lk) refl

fits_list_is : (r : Rules) (w z k n : ℕ) → FitsList r w z k n → fits_list r w z k n ≡ true
fits_list_is lenient w z k n h = and_from (leb w z) (leb k 65536) (le-leb w z h.0) (le-leb k 65536 h.1)
fits_list_is strict w z k n h = eq-eqb z (w + n) h

fits_array_is : (r : Rules) (w z k n : ℕ) → FitsArray r w z k n → fits_array r w z k n ≡ true
fits_array_is lenient w z k n h = and_from (leb (w + n) z) (leb k 65536 && leb k z) (le-leb (w + n) z h.0) (and_from (leb k 65536) (leb k z) (le-leb k 65536 h.1) (le-leb k z h.2))
fits_array_is strict w z k n h = eq-eqb z (w + n) h

empty_is : (r : Rules) (w z n : ℕ) → FitsEmpty r w z n → empty_length r w z ≡ Some n
empty_is lenient w z n h = ap (λ (m : ℕ). Some m) (sym h)
empty_is strict w z n h =
    let m : z - w ≡ n = omega arith in
    cond-true (leb w z) (Some (z - w)) None (le-leb w z (omega arith)) ∙ ap (λ (k : ℕ). Some k) m

-- how deep an item is
abbrev mutual
  pub depth : Item → ℕ
  depth (scalar v) = 1
  depth (list is) = suc (depth_in is)
  depth (map ps) = suc (depth_in_pairs ps)
  depth (array is) = suc (depth_in is)
  depth (described d v) = suc (depth v)

  pub depth_in : Items → ℕ
  depth_in none = 0
  depth_in (more i is) = max (depth i) (depth_in is)

  pub depth_in_pairs : Pairs → ℕ
  depth_in_pairs no_pairs = 0
  depth_in_pairs (pair k v ps) = max (depth k) (max (depth v) (depth_in_pairs ps))

pub depth_turned : (ps : Pairs) → depth_in (in_turn ps) ≡ depth_in_pairs ps
depth_turned no_pairs = refl
depth_turned (pair k v ps) = ap (λ (n : ℕ). max (depth k) (max (depth v) n)) (depth_turned ps)

depth_some : (i : Item) → 1 ≤ depth i
depth_some (scalar v) = omega arith
depth_some (list is) = omega arith
depth_some (map ps) = omega arith
depth_some (array is) = omega arith
depth_some (described d v) = omega arith

behind : (z k b t : List ℕ) → (z ++ (k ++ b)) ++ t ≡ z ++ (k ++ (b ++ t))
behind z k b t = append_assoc z (k ++ b) t ∙ ap (λ (x : List ℕ). z ++ x) (append_assoc k b t)

taken : (b t : List ℕ) → length (b ++ t) - length t ≡ length b
taken b t = omega (arith, length-append b t)

list0_data : {r : Rules} {b : List ℕ} {i : Item} → Data r List0 Kind.list (Fixed 0) b i → (b ≡ []) × (list none ≡ i)
list0_data (of_fixed h) = absurd (no_scalar h)
list0_data list0 = (refl, refl)

as_list0 : (r : Rules) (f : Constructor → List ℕ → Reading Item) (e : EncodingCodes) (b : List ℕ) (i : Item) → List0 ≡ e → is_list0 e ≡ true → Data r e (row e).kind (row e).category b i → (t : List ℕ) → data_at f r e (b ++ t) ≡ Some (i, t)
unfolding row
as_list0 r f e b i q y h t =
    let s = list0_data (subst (λ (d : EncodingCodes). Data r d (row d).kind (row d).category b i) (sym q) h) in
    cond-true (is_list0 e) (Some (list none, b ++ t)) _ y ∙ (let u : Some (list none, b ++ t) ≡ Some (i, t) = cc (s.1, ap (λ (x : List ℕ). x ++ t) s.0) in u)

decode_code : (n : ℕ) (r : Rules) (x : ℕ) (e : EncodingCodes) (s : List ℕ) → code_of x ≡ Some e → decode (suc n) r bare (x ∷ s) ≡ data_at (decode n r) r e s
unfolding decode
decode_code n r zero e s p = absurd (no_code p)
decode_code n r (suc x) e s p = rw p refl

is_one : is_list0 List0 ≡ false → ⊥
unfolding is_list0
is_one h = cc

under_from : (r : Rules) (f : Constructor → List ℕ → Reading Item) (e : EncodingCodes) (b : List ℕ) (i : Item) (t : List ℕ) → Data r e (row e).kind (row e).category b i
    → (is_list0 e ≡ false → shape_at f r e (row e).kind (row e).category (b ++ t) ≡ Some (i, t)) → data_at f r e (b ++ t) ≡ Some (i, t)
under_from r f e b i t h other =
    ⊎_elim
    (λ y. as_list0 r f e b i (list0_is e y) y h t)
    (λ y. cond-false (is_list0 e) (Some (list none, b ++ t)) _ y ∙ other y)
    (cases_Bool (is_list0 e))

abbrev decode_parts : Rules → Constructor → ℕ → ℕ → List ℕ → Reading Items
decode_parts r c n k s = parts_at (decode n r c) k s

mutual
  unfolding decode

  pub wire_is : {r : Rules} {c : Constructor} {b : List ℕ} {i : Item} → Wire r c b i → (n : ℕ) → depth i ≤ n → (t : List ℕ) → decode n r c (b ++ t) ≡ Some (i, t)
  wire_is {i = i} (of_code p h) zero d t = absurd (omega (arith, depth_some i))
  wire_is {r} (of_code {x = x} {e = e} {b = b} p h) (suc n) d t = decode_code n r x e (b ++ t) p ∙ under_is h n d t
  wire_is (of_described a b g h) zero d t = absurd (omega arith)
  wire_is (of_described a b {d = g} {v = v} s h) (suc n) d t = rw (append_assoc a b t, text_is s g refl (b ++ t), wire_is h n (omega arith) t) refl
  wire_is {i = i} (of_data h) zero d t = absurd (omega (arith, depth_some i))
  wire_is {r} {b = b} {i = i} (of_data {e = e} h) (suc n) d t = under_from r (decode n r) e b i t h (λ y. data_is h n d y t)
  wire_is (of_pair h) zero d t = absurd (omega arith)
  wire_is (of_pair h) (suc n) d t = rw (under_is h n (omega arith) t) refl

  under_is : {r : Rules} {e : EncodingCodes} {b : List ℕ} {i : Item} → Wire r (under e) b i → (n : ℕ) → depth i ≤ suc n → (t : List ℕ) → data_at (decode n r) r e (b ++ t) ≡ Some (i, t)
  under_is {r} {e} {b} {i} (of_data h) n d t = under_from r (decode n r) e b i t h (λ y. data_is h n d y t)

  data_is : {r : Rules} {e : EncodingCodes} {k : Kind} {c : Category} {b : List ℕ} {i : Item} → Data r e k c b i → (n : ℕ) → depth i ≤ suc n → is_list0 e ≡ false → (t : List ℕ) → shape_at (decode n r) r e k c (b ++ t) ≡ Some (i, t)
  data_is (of_fixed h) n d y t = rw (scalar_is h t) refl
  data_is (of_variable h) n d y t = rw (scalar_is h t) refl
  data_is list0 n d y t = absurd (is_one y)
  data_is {r} (of_list {w = w} z k b {is = is} lz lk nk h f) n d y t =
      let p : decode_parts r bare n (number k) (b ++ t) ≡ Some (is, t) = parts_is h n (omega arith) (number k) nk t in
      let g = fits_list_is r w (number z) (number k) (length b) f in
      rw (behind z k b t, header_is w z k (b ++ t) lz lk, p, taken b t, g) refl
  data_is {r} (of_map {w = w} z k b {ps = ps} lz lk nk h f) n d y t =
      let p : decode_parts r bare n (number k) (b ++ t) ≡ Some (in_turn ps, t) = parts_is h n (omega (arith, depth_turned ps)) (number k) nk t in
      let g = fits_list_is r w (number z) (number k) (length b) f in
      rw (behind z k b t, header_is w z k (b ++ t) lz lk, p, pairs_is ps, taken b t, g) refl
  data_is {r} (of_array {w = w} z k m b {c = c} {i = i} {is = is} lz lk nk s h f) n d y t =
      let p : decode_parts r c n (suc (count is)) (b ++ t) ≡ Some (more i is, t) = parts_is h n (omega arith) (suc (count is)) refl t in
      let len : length (m ++ (b ++ t)) - length t ≡ length m + length b = omega (arith, length-append m (b ++ t), length-append b t) in
      let g : fits_array r w (number z) (suc (count is)) (length m + length b) ≡ true = rw (← nk) (fits_array_is r w (number z) (number k) (length m + length b) f) in
      rw (behind z k (m ++ b) t, append_assoc m b t, header_is w z k (m ++ (b ++ t)) lz lk, nk, constructor_is s (b ++ t), p, len, g) refl
  data_is {r} (empty_array {w = w} z k b lz lk nk f) n d y t =
      rw (behind z k b t, header_is w z k (b ++ t) lz lk, nk, empty_is r w (number z) (length b) f, first_is (length b) b t refl) refl

  parts_is : {r : Rules} {c : Constructor} {b : List ℕ} {is : Items} → Parts r c b is → (n : ℕ) → depth_in is ≤ n → (k : ℕ) → k ≡ count is → (t : List ℕ) → parts_at (decode n r c) k (b ++ t) ≡ Some (is, t)
  parts_is no_part n d k e t = rw e refl
  parts_is (part a b {is = is} h p) n d k e t =
      let first_one = wire_is h n (omega arith) (b ++ t) in
      let others = parts_is p n (omega arith) (count is) refl t in
      rw (e, append_assoc a b t, first_one, others) refl
