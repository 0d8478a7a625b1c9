-- Few bytes spell few items.
use Rattle.std.proofs.Common.{◌≡◌, ℕ, zero, suc, ◌+◌, ◌-◌, ◌*◌, ◌≤◌, max, ◌⊎◌, List, ◌++◌, length, take, drop, refl, ap, ◌∙◌, arith, inl, inr}
use Rattle.std.proofs.lemmas.List.{length-append, length-take-le, take-append-drop}
use Rattle.amqp_base.specs.declared.format_code.EncodingCodes.{EncodingCodes}
use Rattle.amqp_base.specs.declared.format_code.EncodingCodes.TheVariants.{Array8, Array32}
use Rattle.amqp_base.specs.declared.format_code.Category.{Category}
use Rattle.amqp_base.specs.declared.format_code.Category.TheVariants.{Array}
use Rattle.amqp_base.specs.Codes.{Kind, row}
use Rattle.amqp_base.specs.Item.{Item, scalar, list, map, array, described, Items, none, more, Pairs, no_pairs, pair, count, in_turn, items, items_in, items_in_pairs, elements, shared}
use Rattle.amqp_base.specs.Value.{number}
use Rattle.amqp_base.specs.Wire.{lenient, Constructor, bare, under, under_pair, Spells, primitive, Wire, of_code, of_described, of_data, of_pair, Data, of_fixed, of_variable, list0, of_list, of_map, of_array, empty_array, Parts, no_part, part}
use Rattle.amqp_base.specs.Wire.{pair as pair_constructor}
use Rattle.amqp_base.specs.Laws.{AreBytes, items_under, most_items, ItemsBounded}
use Rattle.amqp_base.proofs.Shortest.{bytes_left, bytes_right, bytes_rest, one_byte, compound_width}

pub array_width : (e : EncodingCodes) (w : ℕ) → Array w ≡ (row e).category → (w ≡ 1) ⊎ (w ≡ 4)
unfolding row
array_width Array8 w h = inl cc
array_width Array32 w h = inr cc
array_width _ w h = absurd cc

pub some_width : (w : ℕ) → (w ≡ 1) ⊎ (w ≡ 4) → 1 ≤ w
some_width w (inl h) = omega arith
some_width w (inr h) = omega arith

pub turned : (ps : Pairs) → items_in (in_turn ps) ≡ items_in_pairs ps
turned no_pairs = refl
turned (pair k v ps) = ap (λ (n : ℕ). items k + (items v + n)) (turned ps)

shared_most : (is : Items) → shared is ≤ 1
shared_most none = omega arith
shared_most (more (described d v) is) = omega arith
shared_most (more (scalar v) is) = omega arith
shared_most (more (list js) is) = omega arith
shared_most (more (map ps) is) = omega arith
shared_most (more (array js) is) = omega arith

-- an element counts as it does under its constructor
element_under : {e : EncodingCodes} {k : Kind} {c : Category} {b : List ℕ} {i : Item} → Data lenient e k c b i → (is : Items) → elements (more i is) ≡ items i + elements is
element_under (of_fixed h) is = refl
element_under (of_variable h) is = refl
element_under list0 is = refl
element_under (of_list z k b lz lk nk h f) is = refl
element_under (of_map z k b lz lk nk h f) is = refl
element_under (of_array z k m b lz lk nk s h f) is = refl
element_under (empty_array z k b lz lk nk f) is = refl

pub element_of : {c : Constructor} {b : List ℕ} {i : Item} → (c ≡ bare → ⊥) → Wire lenient c b i → (is : Items) → elements (more i is) ≡ items_under c i + elements is
element_of s (of_code p h) is = absurd (s refl)
element_of s (of_described a b g h) is = absurd (s refl)
element_of s (of_data h) is = element_under h is
element_of s (of_pair {v = v} h) is = ap (λ (n : ℕ). n + elements is) (let e : 1 + items v ≡ 2 + items v - 1 = omega arith in e)

pub spelled : {m : List ℕ} {c : Constructor} → Spells m c → (1 ≤ length m) × (c ≡ bare → ⊥)
spelled (primitive p) = (omega arith, λ h. cc)
spelled (pair_constructor a x g p) = (omega arith, λ h. cc)

element_most : (c : Constructor) (n : ℕ) → most_items c n ≤ 2 + 16384 * n
element_most bare n = omega arith
element_most (under e) n = omega arith
element_most (under_pair d e) n = omega arith

array_bound : (w : ℕ) (z k m b : List ℕ) (n : ℕ) → (w ≡ 1) ⊎ (w ≡ 4) → length z ≡ w → length k ≡ w → AreBytes k → number k ≤ 65536 → 1 ≤ length m → n ≤ 16384 * length b + 2 * number k → 3 + n ≤ 16384 * length (z ++ (k ++ (m ++ b)))
array_bound w z k m b n (inl one) lz lk y few lm h = omega (arith, one_byte k (lk ∙ one) y, length-append z (k ++ (m ++ b)), length-append k (m ++ b), length-append m b)
array_bound w z k m b n (inr four) lz lk y few lm h = omega (arith, length-append z (k ++ (m ++ b)), length-append k (m ++ b), length-append m b)

-- one more than is claimed under a code, so that a descriptor has room
abbrev counted : Constructor → Item → ℕ
counted bare i = items i
counted (under e) i = items i + 1
counted (under_pair d e) i = items i - 1

abbrev room : Constructor → ℕ → ℕ
room bare n = 16384 * n
room (under e) n = max 2 (16384 * n)
room (under_pair d e) n = max 2 (16384 * n)

enough : (c : Constructor) (i : Item) (n : ℕ) → counted c i ≤ room c n → items_under c i ≤ most_items c n
enough bare i n h = h
enough (under e) i zero h = omega arith
enough (under e) i (suc n) h = omega arith
enough (under_pair d e) i n h = h

mutual
  wire_items : {c : Constructor} {b : List ℕ} {i : Item} → Wire lenient c b i → AreBytes b → counted c i ≤ room c (length b)
  wire_items (of_code {x = x} {b = b} p h) y = omega (arith, wire_items h (bytes_rest x b y))
  wire_items (of_described a b g h) y = omega (arith, wire_items h (bytes_right a b (bytes_rest 0 (a ++ b) y)), length-append a b)
  wire_items (of_data h) y = data_items h refl y
  wire_items (of_pair h) y = omega (arith, wire_items h y)

  data_items : {e : EncodingCodes} {k : Kind} {c : Category} {b : List ℕ} {i : Item} → Data lenient e k c b i → c ≡ (row e).category → AreBytes b → items i + 1 ≤ max 2 (16384 * length b)
  data_items (of_fixed h) q y = omega arith
  data_items (of_variable h) q y = omega arith
  data_items list0 q y = omega arith
  data_items {e} (of_list {w = w} z k b lz lk nk h f) q y = omega (arith, some_width w (compound_width e w q), parts_items h (bytes_right k b (bytes_right z (k ++ b) y)), length-append z (k ++ b), length-append k b)
  data_items {e} (of_map {w = w} z k b {ps = ps} lz lk nk h f) q y = omega (arith, some_width w (compound_width e w q), turned ps, parts_items h (bytes_right k b (bytes_right z (k ++ b) y)), length-append z (k ++ b), length-append k b)
  data_items {e} (of_array {w = w} z k m b {i = i} {is = is} lz lk nk s h f) q y =
      let t = spelled s in
      let yk = bytes_right z (k ++ (m ++ b)) y in
      let n = elements_items h t.1 (bytes_right m b (bytes_right k (m ++ b) yk)) in
      let a = array_bound w z k m b (elements (more i is)) (array_width e w q) lz lk (bytes_left k (m ++ b) yk) f.1 t.0 (omega (arith, n, nk)) in
      omega (arith, a, shared_most (more i is))
  data_items {e} (empty_array {w = w} z k b lz lk nk f) q y = omega arith

  parts_items : {b : List ℕ} {is : Items} → Parts lenient bare b is → AreBytes b → items_in is ≤ 16384 * length b
  parts_items no_part y = omega arith
  parts_items (part a b h p) y = omega (arith, wire_items h (bytes_left a b y), parts_items p (bytes_right a b y), length-append a b)

  elements_items : {c : Constructor} {b : List ℕ} {is : Items} → Parts lenient c b is → (c ≡ bare → ⊥) → AreBytes b → elements is ≤ 16384 * length b + 2 * count is
  elements_items no_part s y = omega arith
  elements_items {c} (part a b {i = i} {is = is} h p) s y = omega (arith, element_of s h is, element_most c (length a), enough c i (length a) (wire_items h (bytes_left a b y)), elements_items p s (bytes_right a b y), length-append a b)

pub items_bounded : ItemsBounded
items_bounded c s i n y f =
    let b = wire_items f.spelled (bytes_left (take n s) (drop n s) (rw (take-append-drop n s) y)) in
    enough c i n (rw (length-take-le n s f.within) at b)
