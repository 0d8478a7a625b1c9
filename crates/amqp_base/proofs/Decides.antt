-- The simple program decides what stands at the front of bytes.
use Rattle.std.proofs.Common.{◌≡◌, ℕ, ◌+◌, ◌-◌, ◌≤◌, List, [], ◌∷◌, ◌++◌, length, take, drop, Option, Some, None, refl, sym, ap, subst, ◌∙◌, arith}
use Rattle.std.proofs.lemmas.List.{length-append, take-append-drop, take_at}
use Rattle.std.proofs.lemmas.Option.{none-some}
use Rattle.amqp_base.specs.declared.format_code.EncodingCodes.{EncodingCodes}
use Rattle.amqp_base.specs.declared.format_code.Category.{Category}
use Rattle.amqp_base.specs.Codes.{Kind}
use Rattle.amqp_base.specs.Item.{Scalar, Item, Items}
use Rattle.amqp_base.specs.Wire.{Rules, Constructor, bare, under, under_pair, ScalarText, code_and_data, Spells, primitive, Wire, of_code, of_described, of_data, of_pair, Data, of_fixed, of_variable, list0, of_list, of_map, of_array, empty_array, Parts, no_part, part, Front}
use Rattle.amqp_base.specs.Wire.{pair as pair_constructor}
use Rattle.amqp_base.proofs.Decode.{decode}
use Rattle.amqp_base.proofs.DecodeSound.{decode_ok}
use Rattle.amqp_base.proofs.DecodeComplete.{depth, depth_in, depth_turned, wire_is}

abbrev slack : Constructor → ℕ
slack bare = 0
slack (under e) = 1
slack (under_pair d e) = 2

text_filled : {a : List ℕ} {v : Scalar} → ScalarText a v → 1 ≤ length a
text_filled (code_and_data p h) = omega arith

spelled : {m : List ℕ} {c : Constructor} → Spells m c → slack c ≤ length m
spelled (primitive p) = omega arith
spelled (pair_constructor a x g p) = omega (arith, length-append a (x ∷ []), text_filled g)

mutual
  wire_depth : {r : Rules} {c : Constructor} {b : List ℕ} {i : Item} → Wire r c b i → depth i ≤ length b + slack c
  wire_depth (of_code p h) = omega (arith, wire_depth h)
  wire_depth (of_described a b g h) = omega (arith, wire_depth h, length-append a b, text_filled g)
  wire_depth (of_data h) = data_depth h
  wire_depth (of_pair h) = omega (arith, wire_depth h)

  data_depth : {r : Rules} {e : EncodingCodes} {k : Kind} {c : Category} {b : List ℕ} {i : Item} → Data r e k c b i → depth i ≤ length b + 1
  data_depth (of_fixed h) = omega arith
  data_depth (of_variable h) = omega arith
  data_depth list0 = omega arith
  data_depth (of_list z k b lz lk nk h f) = omega (arith, parts_depth h, length-append z (k ++ b), length-append k b)
  data_depth (of_map z k b {ps = ps} lz lk nk h f) = omega (arith, parts_depth h, depth_turned ps, length-append z (k ++ b), length-append k b)
  data_depth (of_array z k m b lz lk nk s h f) = omega (arith, parts_depth h, spelled s, length-append z (k ++ (m ++ b)), length-append k (m ++ b), length-append m b)
  data_depth (empty_array z k b lz lk nk f) = omega arith

  parts_depth : {r : Rules} {c : Constructor} {b : List ℕ} {is : Items} → Parts r c b is → depth_in is ≤ length b + slack c
  parts_depth no_part = omega arith
  parts_depth (part a b h p) = omega (arith, wire_depth h, parts_depth p, length-append a b)

-- deep enough for any text in s
abbrev pub reading : Rules → Constructor → List ℕ → Option (Item × List ℕ)
reading r c s = decode (length s + 2) r c s

slack_most : (c : Constructor) → slack c ≤ 2
slack_most bare = omega arith
slack_most (under e) = omega arith
slack_most (under_pair d e) = omega arith

pub front_reads : (r : Rules) (c : Constructor) (s : List ℕ) (i : Item) (n : ℕ) → Front r c s i n → reading r c s ≡ Some (i, drop n s)
front_reads r c s i n f =
    let d : depth i ≤ length s + 2 = omega (arith, wire_depth f.spelled, slack_most c, l) in
    subst (λ (x : List ℕ). decode (length s + 2) r c x ≡ Some (i, drop n s)) (take-append-drop n s) (wire_is f.spelled (length s + 2) d (drop n s))
  where
    l : length (take n s) ≤ length s
    l = omega (arith, ap (λ (x : List ℕ). length x) (take-append-drop n s), length-append (take n s) (drop n s))

pub reads_front : (r : Rules) (c : Constructor) (s t : List ℕ) (i : Item) → reading r c s ≡ Some (i, t) → Front r c s i (length s - length t)
reads_front r c s t i h =
    let k = decode_ok (length s + 2) r c s (i, t) h in
    let n : length s - length t ≡ length k.0 = omega (arith, ap (λ (x : List ℕ). length x) k.1, length-append k.0 t) in
    let front : take (length s - length t) s ≡ k.0 = rw n (ap (λ (x : List ℕ). take (length k.0) x) k.1 ∙ take_at k.0 t (length k.0) refl) in
    record { within = omega arith; spelled = rw front k.2 }

pub reads_none : (r : Rules) (c : Constructor) (s : List ℕ) → reading r c s ≡ None → (i : Item) (n : ℕ) → Front r c s i n → ⊥
reads_none r c s h i n f = none-some (i, drop n s) (sym h ∙ front_reads r c s i n f)
