-- Fewer still, where no array has described elements.
use Rattle.std.proofs.Common.{◌≡◌, ℕ, zero, suc, ◌+◌, ◌-◌, ◌*◌, ◌≤◌, max, ◌⊎◌, List, ◌++◌, length, take, drop, refl, ◌∙◌, arith, inl, inr}
use Rattle.std.proofs.lemmas.List.{length-append, length-take-le, take-append-drop}
use Rattle.amqp_base.specs.declared.format_code.EncodingCodes.{EncodingCodes}
use Rattle.amqp_base.specs.declared.format_code.Category.{Category}
use Rattle.amqp_base.specs.Codes.{Kind, row}
use Rattle.amqp_base.specs.Item.{Item, scalar, list, map, array, described, Items, more, Pairs, no_pairs, pair, count, in_turn, items, items_in, elements, shared}
use Rattle.amqp_base.specs.Value.{number}
use Rattle.amqp_base.specs.Wire.{lenient, Constructor, bare, under, under_pair, Wire, of_code, of_described, of_data, of_pair, Data, of_fixed, of_variable, list0, of_list, of_map, of_array, empty_array, Parts, no_part, part}
use Rattle.amqp_base.specs.PlainArrays.{NotDescribed, PlainArrays, PlainArraysIn, PlainArraysInPairs, PlainElements}
use Rattle.amqp_base.specs.Laws.{AreBytes, items_under, most_plain_items, ItemsBoundedPlain}
use Rattle.amqp_base.proofs.Shortest.{bytes_left, bytes_right, bytes_rest, one_byte, compound_width}
use Rattle.amqp_base.proofs.Bounded.{array_width, some_width, turned, spelled}

plain_turned : (ps : Pairs) → PlainArraysInPairs ps → PlainArraysIn (in_turn ps)
plain_turned no_pairs a = tt
plain_turned (pair k v ps) a = (a.0, (a.1, plain_turned ps a.2))

-- an element counts as any other item
element : (i : Item) (is : Items) → NotDescribed i → elements (more i is) ≡ items i + elements is
element (scalar v) is a = refl
element (list js) is a = refl
element (map ps) is a = refl
element (array js) is a = refl
element (described d v) is a = absurd a

none_shared : (i : Item) (is : Items) → NotDescribed i → shared (more i is) ≡ 0
none_shared (scalar v) is a = refl
none_shared (list js) is a = refl
none_shared (map ps) is a = refl
none_shared (array js) is a = refl
none_shared (described d v) is a = absurd a

array_bound : (w : ℕ) (z k m b : List ℕ) (n : ℕ) → (w ≡ 1) ⊎ (w ≡ 4) → length z ≡ w → length k ≡ w → AreBytes k → number k ≤ 65536 → 1 ≤ length m → n ≤ 8192 * length b + number k → 3 + n ≤ 8192 * length (z ++ (k ++ (m ++ b)))
array_bound w z k m b n (inl one) lz lk y few lm h = omega (arith, one_byte k (lk ∙ one) y, length-append z (k ++ (m ++ b)), length-append k (m ++ b), length-append m b)
array_bound w z k m b n (inr four) lz lk y few lm h = omega (arith, length-append z (k ++ (m ++ b)), length-append k (m ++ b), length-append m b)

-- one more than is claimed under a code, so that a descriptor has room
abbrev counted : Constructor → Item → ℕ
counted bare i = items i
counted (under e) i = items i + 1
counted (under_pair d e) i = items i - 1

abbrev room : Constructor → ℕ → ℕ
room bare n = 8192 * n
room (under e) n = max 2 (8192 * n)
room (under_pair d e) n = max 2 (8192 * n)

enough : (c : Constructor) (i : Item) (n : ℕ) → counted c i ≤ room c n → items_under c i ≤ most_plain_items c n
enough bare i n h = h
enough (under e) i zero h = omega arith
enough (under e) i (suc n) h = omega arith
enough (under_pair d e) i n h = h

-- what stands in an array adds one to its bytes at most
element_most : (c : Constructor) (i : Item) (n : ℕ) → NotDescribed i → {b : List ℕ} → Wire lenient c b i → counted c i ≤ room c n → items i ≤ 1 + 8192 * n
element_most bare i n a h p = omega arith
element_most (under e) i n a h p = omega arith
element_most (under_pair d e) i n a (of_pair h) p = absurd a

mutual
  wire_items : {c : Constructor} {b : List ℕ} {i : Item} → Wire lenient c b i → PlainArrays i → AreBytes b → counted c i ≤ room c (length b)
  wire_items (of_code {x = x} {b = b} p h) a y = omega (arith, wire_items h a (bytes_rest x b y))
  wire_items (of_described t b g h) a y = omega (arith, wire_items h a (bytes_right t b (bytes_rest 0 (t ++ b) y)), length-append t b)
  wire_items (of_data h) a y = data_items h refl a y
  wire_items (of_pair h) a y = omega (arith, wire_items h a y)

  data_items : {e : EncodingCodes} {k : Kind} {c : Category} {b : List ℕ} {i : Item} → Data lenient e k c b i → c ≡ (row e).category → PlainArrays i → AreBytes b → items i + 1 ≤ max 2 (8192 * length b)
  data_items (of_fixed h) q a y = omega arith
  data_items (of_variable h) q a y = omega arith
  data_items list0 q a y = omega arith
  data_items {e} (of_list {w = w} z k b lz lk nk h f) q a y = omega (arith, some_width w (compound_width e w q), parts_items h a (bytes_right k b (bytes_right z (k ++ b) y)), length-append z (k ++ b), length-append k b)
  data_items {e} (of_map {w = w} z k b {ps = ps} lz lk nk h f) q a y = omega (arith, some_width w (compound_width e w q), turned ps, parts_items h (plain_turned ps a) (bytes_right k b (bytes_right z (k ++ b) y)), length-append z (k ++ b), length-append k b)
  data_items {e} (of_array {w = w} z k m b {i = i} {is = is} lz lk nk s h f) q a y =
      let t = spelled s in
      let yk = bytes_right z (k ++ (m ++ b)) y in
      let n = elements_items h a (bytes_right m b (bytes_right k (m ++ b) yk)) in
      let r = array_bound w z k m b (elements (more i is)) (array_width e w q) lz lk (bytes_left k (m ++ b) yk) f.1 t.0 (omega (arith, n, nk)) in
      omega (arith, r, none_shared i is a.0)
  data_items {e} (empty_array {w = w} z k b lz lk nk f) q a y = omega arith

  parts_items : {b : List ℕ} {is : Items} → Parts lenient bare b is → PlainArraysIn is → AreBytes b → items_in is ≤ 8192 * length b
  parts_items no_part a y = omega arith
  parts_items (part t b h p) a y = omega (arith, wire_items h a.0 (bytes_left t b y), parts_items p a.1 (bytes_right t b y), length-append t b)

  elements_items : {c : Constructor} {b : List ℕ} {is : Items} → Parts lenient c b is → PlainElements is → AreBytes b → elements is ≤ 8192 * length b + count is
  elements_items no_part a y = omega arith
  elements_items {c} (part t b {i = i} {is = is} h p) a y = omega (arith, element i is a.0, element_most c i (length t) a.0 h (wire_items h a.1 (bytes_left t b y)), elements_items p a.2 (bytes_right t b y), length-append t b)

pub items_bounded_plain : ItemsBoundedPlain
items_bounded_plain c s i n y a f =
    let b = wire_items f.spelled a (bytes_left (take n s) (drop n s) (rw (take-append-drop n s) y)) in
    enough c i n (rw (length-take-le n s f.within) at b)
