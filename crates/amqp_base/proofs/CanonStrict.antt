-- A canonical text is a strict form, and a wire form where the counts are not too high.
use Rattle.std.proofs.Common.{◌≡◌, ℕ, suc, ◌+◌, ◌^◌, ◌<◌, ◌≤◌, true, false, leb, eqb, List, [], ◌∷◌, ◌++◌, length, Option, Some, None, refl, sym, ap, subst, ◌∙◌, arith, ⊎_elim}
use Rattle.std.proofs.lemmas.Bool.{leb-true, eqb-true, ne_eqb, cond-false, and_parts}
use Rattle.std.proofs.lemmas.List.{length-append}
use Rattle.std.proofs.lemmas.Option.{same_Some}
use Rattle.std.proofs.lemmas.Slice.Eq.{bytes_eq-Decides}
use Rattle.std.specs.Int.{bytes_high_first}
use Rattle.amqp_base.specs.declared.format_code.EncodingCodes.{EncodingCodes}
use Rattle.amqp_base.specs.declared.format_code.EncodingCodes.TheVariants.{List0, List8, List32, Map8, Map32, Array8, Array32}
use Rattle.amqp_base.specs.declared.format_code.Category.{Category}
use Rattle.amqp_base.specs.declared.format_code.Category.TheVariants.{Fixed, Variable, Compound, Array}
use Rattle.amqp_base.specs.Codes.{Kind, row, code_of, widest}
use Rattle.amqp_base.specs.Item.{Scalar, Descriptor, name, code, descriptor_item, Item, scalar, list, map, array, described, Items, none, more, Pairs, no_pairs, pair, count, in_turn, Capped, CappedIn, CappedInPairs}
use Rattle.amqp_base.specs.Value.{number}
use Rattle.amqp_base.specs.Wire.{Rules, lenient, strict, Constructor, bare, under, under_pair, FitsList, FitsArray, FitsEmpty, ScalarData, fixed, variable, ScalarText, code_and_data, Spells, primitive, Wire, of_code, of_described, of_data, of_pair, Data, of_fixed, of_variable, list0, of_list, of_map, of_array, empty_array, Parts, no_part, part}
use Rattle.amqp_base.specs.Wire.{pair as pair_constructor}
use Rattle.amqp_base.specs.Canon.{◌>>=◌, kind_of, limit, headed, wide_body, compound_text, list_text, code_under, behind, kind_code, descriptor_text, constructor_text, same_descriptor, same_constructor, is_under, canon, canons, pair_canons, body, array_body, bodies}
use Rattle.amqp_base.specs.Laws.{CanonStrict, CanonWire}
use Rattle.amqp_base.proofs.Numbers.{written_length, again_1, again_4}
use Rattle.amqp_base.proofs.ScalarStrict.{when_some, if_some, scalar_strict}
use Rattle.amqp_base.proofs.ShortStrict.{bind_some, if_cases, widest_code, scalar_text_strict}

-- what the rules ask of the counts
abbrev Permits : Rules → Item → Type 0
Permits lenient i = Capped i
Permits strict i = Unit {0}

abbrev PermitsIn : Rules → Items → Type 0
PermitsIn lenient is = CappedIn is
PermitsIn strict is = Unit {0}

abbrev PermitsInPairs : Rules → Pairs → Type 0
PermitsInPairs lenient is = CappedInPairs is
PermitsInPairs strict is = Unit {0}

abbrev PermitsCount : Rules → ℕ → Type 0
PermitsCount lenient k = k ≤ 65536
PermitsCount strict k = Unit {0}

permits_list : (r : Rules) (is : Items) → Permits r (list is) → PermitsCount r (count is) × PermitsIn r is
unfolding Capped
permits_list lenient is p = p
permits_list strict is p = (tt, tt)

permits_array : (r : Rules) (is : Items) → Permits r (array is) → PermitsCount r (count is) × PermitsIn r is
unfolding Capped
permits_array lenient is p = p
permits_array strict is p = (tt, tt)

permits_map : (r : Rules) (ps : Pairs) → Permits r (map ps) → PermitsCount r (count (in_turn ps)) × PermitsInPairs r ps
unfolding Capped
permits_map lenient is p = p
permits_map strict is p = (tt, tt)

permits_described : (r : Rules) (d : Descriptor) (v : Item) → Permits r (described d v) → Permits r v
unfolding Capped
permits_described lenient d v p = p
permits_described strict d v p = tt

permits_more : (r : Rules) (i : Item) (is : Items) → PermitsIn r (more i is) → Permits r i × PermitsIn r is
unfolding Capped
permits_more lenient i is p = p
permits_more strict i is p = (tt, tt)

permits_pair : (r : Rules) (k v : Item) (ps : Pairs) → PermitsInPairs r (pair k v ps) → Permits r k × Permits r v × PermitsInPairs r ps
unfolding Capped
permits_pair lenient k v ps p = p
permits_pair strict k v ps p = (tt, tt, tt)

fits_list : (r : Rules) (w z k n : ℕ) → z ≡ w + n → PermitsCount r k → FitsList r w z k n
fits_list lenient w z k n e p = (omega arith, p)
fits_list strict w z k n e p = e

fits_array : (r : Rules) (w z k n : ℕ) → z ≡ w + n → k ≤ n → PermitsCount r k → FitsArray r w z k n
fits_array lenient w z k n e c p = (omega arith, p, omega arith)
fits_array strict w z k n e c p = e

fits_empty : (r : Rules) (w z n : ℕ) → z ≡ w + n → FitsEmpty r w z n
fits_empty lenient w z n e = omega arith
fits_empty strict w z n e = e

abbrev Again : ℕ → Type 0
Again w = (n : ℕ) → n < 256 ^ w → number (bytes_high_first w n) ≡ n

-- ---- the data behind a header

put_list : (r : Rules) (e : EncodingCodes) (w : ℕ) → Again w → (is : Items) (b : List ℕ) → Parts r bare b is → w + length b < 256 ^ w → count is ≤ length b → PermitsCount r (count is)
    → Data r e Kind.list (Compound w) (headed w (count is) b) (list is)
put_list r e w again is b t fits few p =
    let z = again (w + length b) fits in
    let k = again (count is) (omega arith) in
    of_list (bytes_high_first w (w + length b)) (bytes_high_first w (count is)) b (written_length w (w + length b)) (written_length w (count is)) k t (fits_list r w _ _ (length b) z (rw k p))

put_map : (r : Rules) (e : EncodingCodes) (w : ℕ) → Again w → (ps : Pairs) (b : List ℕ) → Parts r bare b (in_turn ps) → w + length b < 256 ^ w → count (in_turn ps) ≤ length b → PermitsCount r (count (in_turn ps))
    → Data r e Kind.map (Compound w) (headed w (count (in_turn ps)) b) (map ps)
put_map r e w again ps b t fits few p =
    let z = again (w + length b) fits in
    let k = again (count (in_turn ps)) (omega arith) in
    of_map (bytes_high_first w (w + length b)) (bytes_high_first w (count (in_turn ps))) b (written_length w (w + length b)) (written_length w (count (in_turn ps))) k t (fits_list r w _ _ (length b) z (rw k p))

-- the elements of an array behind their constructor
data Elements (r : Rules) : List ℕ → Items → Type 0 where
  no_elements : Elements r [] none
  elements : (m b : List ℕ) {c : Constructor} {i : Item} {is : Items} → Spells m c → Parts r c b (more i is) → suc (count is) ≤ length b → Elements r (m ++ b) (more i is)

put_array : (r : Rules) (e : EncodingCodes) (w : ℕ) → Again w → (is : Items) (b : List ℕ) → Elements r b is → w + length b < 256 ^ w → PermitsCount r (count is)
    → Data r e Kind.array (Array w) (headed w (count is) b) (array is)
put_array r e w again _ _ no_elements fits p =
    let z = again (w + 0) fits in
    let k = again 0 (omega arith) in
    empty_array (bytes_high_first w (w + 0)) (bytes_high_first w 0) [] (written_length w (w + 0)) (written_length w 0) k (fits_empty r w _ 0 z)
put_array r e w again _ _ (elements m b {i = i} {is = is} s parts few) fits p =
    let l = length-append m b in
    let z = again (w + length (m ++ b)) fits in
    let k = again (suc (count is)) (omega arith) in
    of_array (bytes_high_first w (w + length (m ++ b))) (bytes_high_first w (suc (count is))) m b (written_length w _) (written_length w _) k s parts
    (fits_array r w _ _ (length m + length b) (omega arith) (omega arith) (rw k p))

-- ---- the narrow form or the wide one

as_wire : {r : Rules} {c : Constructor} {i : Item} {b t : List ℕ} → Some b ≡ Some t → Wire r c b i → Wire r c t i
as_wire {r} {c} {i} {b} {t} h k = subst (λ (d : List ℕ). Wire r c d i) (same_Some b t h) k

by_width : (r : Rules) (i : Item) (one four k : ℕ) (b t : List ℕ) → compound_text one four k b ≡ Some t
    → (length b ≤ 254 → Wire r bare (one ∷ headed 1 k b) i) → (length b ≤ limit → Wire r bare (four ∷ headed 4 k b) i) → Wire r bare t i
by_width r i one four k b t h narrow wide =
    ⊎_elim
    (λ q. as_wire q.1 (narrow (leb-true _ _ q.0)))
    (λ q. let p = bind_some (wide_body k b) (λ u. Some (four ∷ u)) t q.1 in
    let s = when_some (leb (length b) limit) (headed 4 k b) p.0 p.1 in
    as_wire p.2 (subst (λ (u : List ℕ). Wire r bare (four ∷ u) i) s.1 (wide (leb-true _ _ s.0))))
    (if_cases (leb (length b) 254) (Some (one ∷ headed 1 k b)) (wide_body k b >>= λ u. Some (four ∷ u)) (Some t) h)

list_wire : (r : Rules) (is : Items) (b t : List ℕ) → Parts r bare b is → count is ≤ length b → PermitsCount r (count is) → list_text (count is) b ≡ Some t → Wire r bare t (list is)
unfolding list_text code_of row
list_wire r none b t no_part few p h = as_wire h (of_code {e = List0} refl (of_data list0))
list_wire r (more i is) b t parts few p h =
    let q : eqb (length b) 0 ≡ false = ne_eqb (length b) 0 (λ z. omega arith) in
    by_width r (list (more i is)) 0xc0 0xd0 (suc (count is)) b t (sym (cond-false _ _ _ q) ∙ h)
    (λ l. of_code {e = List8} refl (of_data (put_list r List8 1 again_1 (more i is) b parts (omega arith) few p)))
    (λ l. of_code {e = List32} refl (of_data (put_list r List32 4 again_4 (more i is) b parts (omega arith) few p)))

map_wire : (r : Rules) (ps : Pairs) (b t : List ℕ) → Parts r bare b (in_turn ps) → count (in_turn ps) ≤ length b → PermitsCount r (count (in_turn ps)) → compound_text 0xc1 0xd1 (count (in_turn ps)) b ≡ Some t → Wire r bare t (map ps)
unfolding code_of row
map_wire r ps b t parts few p h =
    by_width r (map ps) 0xc1 0xd1 (count (in_turn ps)) b t h
    (λ l. of_code {e = Map8} refl (of_data (put_map r Map8 1 again_1 ps b parts (omega arith) few p)))
    (λ l. of_code {e = Map32} refl (of_data (put_map r Map32 4 again_4 ps b parts (omega arith) few p)))

array_wire : (r : Rules) (is : Items) (b t : List ℕ) → Elements r b is → PermitsCount r (count is) → compound_text 0xe0 0xf0 (count is) b ≡ Some t → Wire r bare t (array is)
unfolding code_of row
array_wire r is b t parts p h =
    by_width r (array is) 0xe0 0xf0 (count is) b t h
    (λ l. of_code {e = Array8} refl (of_data (put_array r Array8 1 again_1 is b parts (omega arith) p)))
    (λ l. of_code {e = Array32} refl (of_data (put_array r Array32 4 again_4 is b parts (omega arith) p)))

wide_wire : (r : Rules) (e : EncodingCodes) (i : Item) (k : ℕ) (b t : List ℕ) → wide_body k b ≡ Some t → (length b ≤ limit → Wire r (under e) (headed 4 k b) i) → Wire r (under e) t i
wide_wire r e i k b t h wide =
    let s = when_some (leb (length b) limit) (headed 4 k b) t h in
    subst (λ (u : List ℕ). Wire r (under e) u i) s.1 (wide (leb-true _ _ s.0))

-- ---- constructors

-- no data under the code is empty
abbrev AtLeastOne : Category → Type 0
AtLeastOne (Fixed n) = 1 ≤ n
AtLeastOne (Variable w) = 1 ≤ w
AtLeastOne (Compound w) = 1 ≤ w
AtLeastOne (Array w) = 1 ≤ w

abbrev IsWide : EncodingCodes → Type 0
IsWide e = (code_of (row e).byte ≡ Some e) × AtLeastOne (row e).category

abbrev AreWide : Constructor → Type 0
AreWide bare = ⊥
AreWide (under e) = IsWide e
AreWide (under_pair d e) = IsWide e

scalar_filled : {e : EncodingCodes} {c : Category} {b : List ℕ} {v : Scalar} → ScalarData e c b v → AtLeastOne c → 1 ≤ length b
scalar_filled (fixed l p) f = omega arith
scalar_filled (variable l b ll n p) f = omega (arith, length-append l b)

data_filled : {r : Rules} {e : EncodingCodes} {k : Kind} {c : Category} {b : List ℕ} {i : Item} → Data r e k c b i → AtLeastOne c → 1 ≤ length b
data_filled (of_fixed h) f = scalar_filled h f
data_filled (of_variable h) f = scalar_filled h f
data_filled list0 f = f
data_filled (of_list z k b lz lk nk h g) f = omega (arith, length-append z (k ++ b))
data_filled (of_map z k b lz lk nk h g) f = omega (arith, length-append z (k ++ b))
data_filled (of_array z k m b lz lk nk s h g) f = omega (arith, length-append z (k ++ (m ++ b)))
data_filled (empty_array z k b lz lk nk g) f = omega (arith, length-append z (k ++ b))

wire_filled : {r : Rules} {e : EncodingCodes} {b : List ℕ} {i : Item} → Wire r (under e) b i → AtLeastOne (row e).category → 1 ≤ length b
wire_filled (of_data h) f = data_filled h f

elements_filled : {r : Rules} {c : Constructor} {b : List ℕ} {i : Item} → AreWide c → Wire r c b i → 1 ≤ length b
elements_filled a (of_code p h) = absurd a
elements_filled a (of_described s t g h) = absurd a
elements_filled a (of_data h) = data_filled h a.1
elements_filled a (of_pair h) = wire_filled h a.1

parts_filled : {r : Rules} {c : Constructor} {b : List ℕ} {is : Items} → Parts r c b is → AreWide c → count is ≤ length b
parts_filled no_part a = omega arith
parts_filled (part s t h p) a = omega (arith, elements_filled a h, parts_filled p a, length-append s t)

bare_filled : {r : Rules} {b : List ℕ} {i : Item} → Wire r bare b i → 1 ≤ length b
bare_filled (of_code p h) = omega arith
bare_filled (of_described a b g h) = omega arith

bare_parts : {r : Rules} {b : List ℕ} {is : Items} → Parts r bare b is → count is ≤ length b
bare_parts no_part = omega arith
bare_parts (part s t h p) = omega (arith, bare_filled h, bare_parts p, length-append s t)

widest_wide : (k : Kind) (e : EncodingCodes) → widest k ≡ Some e → AtLeastOne (row e).category
unfolding widest row
widest_wide Kind.described e h = absurd cc
widest_wide Kind.null e h = absurd cc
widest_wide _ e h = subst (λ (d : EncodingCodes). AtLeastOne (row d).category) (same_Some _ e h) (omega arith)

code_under_some : (o : Option EncodingCodes) (c : Constructor) → code_under o ≡ Some c → (e : EncodingCodes) × (o ≡ Some e) × (under e ≡ c)
code_under_some (Some e) c h = (e, refl, same_Some (under e) c h)
code_under_some None c h = absurd cc

behind_some : (d : Descriptor) (o : Option Constructor) (c : Constructor) → behind d o ≡ Some c → (e : EncodingCodes) × (o ≡ Some (under e)) × (under_pair d e ≡ c)
behind_some d None c h = absurd cc
behind_some d (Some bare) c h = absurd cc
behind_some d (Some (under e)) c h = (e, refl, same_Some (under_pair d e) c h)
behind_some d (Some (under_pair g e)) c h = absurd cc

wide_constructor : (i : Item) (c : Constructor) → kind_code i ≡ Some c → AreWide c
unfolding kind_code row code_of
wide_constructor (scalar v) c h =
    let s = code_under_some (widest (kind_of v)) c h in
    subst AreWide s.2 (widest_code (kind_of v) s.0 s.1, widest_wide (kind_of v) s.0 s.1)
wide_constructor (list is) c h = subst AreWide (same_Some (under List32) c h) (refl, omega arith)
wide_constructor (map ps) c h = subst AreWide (same_Some (under Map32) c h) (refl, omega arith)
wide_constructor (array is) c h = subst AreWide (same_Some (under Array32) c h) (refl, omega arith)
wide_constructor (described d v) c h =
    let s = behind_some d (kind_code v) c h in
    subst AreWide s.2 (wide_constructor v (under s.0) s.1)

spells : (c : Constructor) (m : List ℕ) → AreWide c → constructor_text c ≡ Some m → Spells m c
spells bare m a h = absurd a
spells (under e) m a h = subst (λ (t : List ℕ). Spells t (under e)) (same_Some ((row e).byte ∷ []) m h) (primitive a.0)
spells (under_pair d e) m a h =
    let p = bind_some (descriptor_text d) (λ t. Some (0x00 ∷ t ++ (row e).byte ∷ [])) m h in
    subst (λ (t : List ℕ). Spells t (under_pair d e)) (same_Some (0x00 ∷ p.0 ++ (row e).byte ∷ []) m p.2)
    (pair_constructor p.0 (row e).byte (scalar_text_strict (descriptor_item d) p.0 p.1) a.0)

same_byte : (e f : EncodingCodes) → IsWide e → IsWide f → eqb (row e).byte (row f).byte ≡ true → e ≡ f
same_byte e f a b h =
    let t = eqb-true (row e).byte (row f).byte h in
    cc (a.0, b.0, t)

same_descriptor_is : (d g : Descriptor) → same_descriptor d g ≡ true → d ≡ g
same_descriptor_is (name a) (name b) h = ap name ((bytes_eq-Decides a b).0 h)
same_descriptor_is (name a) (code n) h = absurd cc
same_descriptor_is (code m) (name b) h = absurd cc
same_descriptor_is (code m) (code n) h = ap code (eqb-true m n h)

same_constructor_is : (c d : Constructor) → AreWide c → AreWide d → same_constructor c d ≡ true → c ≡ d
same_constructor_is bare d a b h = absurd a
same_constructor_is (under e) bare a b h = absurd b
same_constructor_is (under e) (under f) a b h = ap under (same_byte e f a b h)
same_constructor_is (under e) (under_pair g f) a b h = absurd cc
same_constructor_is (under_pair d e) bare a b h = absurd b
same_constructor_is (under_pair d e) (under f) a b h = absurd cc
same_constructor_is (under_pair d e) (under_pair g f) a b h =
    let s = and_parts (same_descriptor d g) (eqb (row e).byte (row f).byte) h in
    let t = same_descriptor_is d g s.0 in
    let u = same_byte e f a b s.1 in
    cc (t, u)

is_under_is : (c : Constructor) (i : Item) (o : Option Constructor) → kind_code i ≡ o → AreWide c → is_under c o ≡ true → o ≡ Some c
is_under_is c i (Some d) k a h = ap (λ (x : Constructor). Some x) (sym (same_constructor_is c d a (wide_constructor i d k) h))
is_under_is c i None k a h = absurd cc

scalar_wire : {e : EncodingCodes} {c : Category} {b : List ℕ} {v : Scalar} (r : Rules) (k : Kind) → ScalarData e c b v → Data r e k c b (scalar v)
scalar_wire r k (fixed l p) = of_fixed (fixed l p)
scalar_wire r k (variable l b ll n p) = of_variable (variable l b ll n p)

text_wire : {b : List ℕ} {v : Scalar} (r : Rules) → ScalarText b v → Wire r bare b (scalar v)
text_wire r (code_and_data {e = e} p h) = of_code p (of_data (scalar_wire r (row e).kind h))

-- ---- whole trees

mutual
  unfolding canon kind_code row code_of

  canon_wire : (r : Rules) (i : Item) (b : List ℕ) → Permits r i → canon i ≡ Some b → Wire r bare b i
  canon_wire r (scalar v) b p h = text_wire r (scalar_text_strict v b h)
  canon_wire r (list is) b p h =
      let q = permits_list r is p in
      let s = bind_some (canons is) (λ t. list_text (count is) t) b h in
      let t = canons_wire r is s.0 q.1 s.1 in
      list_wire r is s.0 b t (bare_parts t) q.0 s.2
  canon_wire r (map ps) b p h =
      let q = permits_map r ps p in
      let s = bind_some (pair_canons ps) (λ t. compound_text 0xc1 0xd1 (count (in_turn ps)) t) b h in
      let t = pairs_wire r ps s.0 q.1 s.1 in
      map_wire r ps s.0 b t (bare_parts t) q.0 s.2
  canon_wire r (array is) b p h =
      let q = permits_array r is p in
      let s = bind_some (array_body is) (λ t. compound_text 0xe0 0xf0 (count is) t) b h in
      array_wire r is s.0 b (elements_wire r is s.0 q.1 s.1) q.0 s.2
  canon_wire r (described d v) b p h =
      let s = bind_some (descriptor_text d) (λ a. canon v >>= λ t. Some (0x00 ∷ a ++ t)) b h in
      let t = bind_some (canon v) (λ u. Some (0x00 ∷ s.0 ++ u)) b s.2 in
      as_wire t.2 (of_described s.0 t.0 (scalar_text_strict (descriptor_item d) s.0 s.1) (canon_wire r v t.0 (permits_described r d v p) t.1))

  canons_wire : (r : Rules) (is : Items) (b : List ℕ) → PermitsIn r is → canons is ≡ Some b → Parts r bare b is
  canons_wire r none b p h = subst (λ (t : List ℕ). Parts r bare t none) (same_Some [] b h) no_part
  canons_wire r (more i is) b p h =
      let q = permits_more r i is p in
      let s = bind_some (canon i) (λ a. canons is >>= λ t. Some (a ++ t)) b h in
      let t = bind_some (canons is) (λ u. Some (s.0 ++ u)) b s.2 in
      subst (λ (u : List ℕ). Parts r bare u (more i is)) (same_Some (s.0 ++ t.0) b t.2) (part s.0 t.0 (canon_wire r i s.0 q.0 s.1) (canons_wire r is t.0 q.1 t.1))

  pairs_wire : (r : Rules) (ps : Pairs) (b : List ℕ) → PermitsInPairs r ps → pair_canons ps ≡ Some b → Parts r bare b (in_turn ps)
  pairs_wire r no_pairs b p h = subst (λ (t : List ℕ). Parts r bare t none) (same_Some [] b h) no_part
  pairs_wire r (pair k v ps) b p h =
      let q = permits_pair r k v ps p in
      let s = bind_some (canon k) (λ a. canon v >>= λ t. pair_canons ps >>= λ u. Some (a ++ (t ++ u))) b h in
      let t = bind_some (canon v) (λ u. pair_canons ps >>= λ w. Some (s.0 ++ (u ++ w))) b s.2 in
      let u = bind_some (pair_canons ps) (λ w. Some (s.0 ++ (t.0 ++ w))) b t.2 in
      subst (λ (w : List ℕ). Parts r bare w (more k (more v (in_turn ps)))) (same_Some (s.0 ++ (t.0 ++ u.0)) b u.2)
      (part s.0 (t.0 ++ u.0) (canon_wire r k s.0 q.0 s.1) (part t.0 u.0 (canon_wire r v t.0 q.1 t.1) (pairs_wire r ps u.0 q.2 u.1)))

  body_wire : (r : Rules) (i : Item) (c : Constructor) (b : List ℕ) → Permits r i → kind_code i ≡ Some c → body i ≡ Some b → Wire r c b i
  body_wire r (scalar v) c b p k h =
      let s = code_under_some (widest (kind_of v)) c k in
      subst (λ (d : Constructor). Wire r d b (scalar v)) s.2 (of_data (scalar_wire r (row s.0).kind (scalar_strict v s.0 b s.1 h)))
  body_wire r (list is) c b p k h =
      let q = permits_list r is p in
      let s = bind_some (canons is) (λ t. wide_body (count is) t) b h in
      let t = canons_wire r is s.0 q.1 s.1 in
      subst (λ (d : Constructor). Wire r d b (list is)) (same_Some (under List32) c k)
      (wide_wire r List32 (list is) (count is) s.0 b s.2 (λ l. of_data (put_list r List32 4 again_4 is s.0 t (omega arith) (bare_parts t) q.0)))
  body_wire r (map ps) c b p k h =
      let q = permits_map r ps p in
      let s = bind_some (pair_canons ps) (λ t. wide_body (count (in_turn ps)) t) b h in
      let t = pairs_wire r ps s.0 q.1 s.1 in
      subst (λ (d : Constructor). Wire r d b (map ps)) (same_Some (under Map32) c k)
      (wide_wire r Map32 (map ps) (count (in_turn ps)) s.0 b s.2 (λ l. of_data (put_map r Map32 4 again_4 ps s.0 t (omega arith) (bare_parts t) q.0)))
  body_wire r (array is) c b p k h =
      let q = permits_array r is p in
      let s = bind_some (array_body is) (λ t. wide_body (count is) t) b h in
      let t = elements_wire r is s.0 q.1 s.1 in
      subst (λ (d : Constructor). Wire r d b (array is)) (same_Some (under Array32) c k)
      (wide_wire r Array32 (array is) (count is) s.0 b s.2 (λ l. of_data (put_array r Array32 4 again_4 is s.0 t (omega arith) q.0)))
  body_wire r (described d v) c b p k h =
      let s = behind_some d (kind_code v) c k in
      subst (λ (g : Constructor). Wire r g b (described d v)) s.2 (of_pair (body_wire r v (under s.0) b (permits_described r d v p) s.1 h))

  elements_wire : (r : Rules) (is : Items) (b : List ℕ) → PermitsIn r is → array_body is ≡ Some b → Elements r b is
  elements_wire r none b p h = subst (λ (t : List ℕ). Elements r t none) (same_Some [] b h) no_elements
  elements_wire r (more i is) b p h =
      let q = permits_more r i is p in
      let s = bind_some (kind_code i) (λ c. constructor_text c >>= λ m. body i >>= λ a. bodies c is >>= λ u. Some (m ++ (a ++ u))) b h in
      let t = bind_some (constructor_text s.0) (λ m. body i >>= λ a. bodies s.0 is >>= λ u. Some (m ++ (a ++ u))) b s.2 in
      let u = bind_some (body i) (λ a. bodies s.0 is >>= λ w. Some (t.0 ++ (a ++ w))) b t.2 in
      let w = bind_some (bodies s.0 is) (λ x. Some (t.0 ++ (u.0 ++ x))) b u.2 in
      let a = wide_constructor i s.0 s.1 in
      let parts : Parts r s.0 (u.0 ++ w.0) (more i is) = part u.0 w.0 (body_wire r i s.0 u.0 q.0 s.1 u.1) (bodies_wire r s.0 is w.0 a q.1 w.1) in
      subst (λ (x : List ℕ). Elements r x (more i is)) (same_Some (t.0 ++ (u.0 ++ w.0)) b w.2)
      (elements t.0 (u.0 ++ w.0) (spells s.0 t.0 a t.1) parts (parts_filled parts a))

  bodies_wire : (r : Rules) (c : Constructor) (is : Items) (b : List ℕ) → AreWide c → PermitsIn r is → bodies c is ≡ Some b → Parts r c b is
  bodies_wire r c none b a p h = subst (λ (t : List ℕ). Parts r c t none) (same_Some [] b h) no_part
  bodies_wire r c (more i is) b a p h =
      let q = permits_more r i is p in
      let g = if_some (is_under c (kind_code i)) (body i >>= λ x. bodies c is >>= λ y. Some (x ++ y)) b h in
      let k = is_under_is c i (kind_code i) refl a g.0 in
      let s = bind_some (body i) (λ x. bodies c is >>= λ y. Some (x ++ y)) b g.1 in
      let t = bind_some (bodies c is) (λ y. Some (s.0 ++ y)) b s.2 in
      subst (λ (u : List ℕ). Parts r c u (more i is)) (same_Some (s.0 ++ t.0) b t.2) (part s.0 t.0 (body_wire r i c s.0 q.0 k s.1) (bodies_wire r c is t.0 a q.1 t.1))

pub canon_strict : CanonStrict
canon_strict i b h = canon_wire strict i b tt h

pub canon_is_wire : CanonWire
canon_is_wire i b h p = canon_wire lenient i b p h
