-- Which variant of an enum stands there, told by what is looked at first.
use Rattle.std.proofs.Common.{◌≡◌, ℕ, zero, suc, ◌+◌, ◌<◌, ◌≤◌, ◌==◌, ◌||◌, Bool, true, false, IsTrue, List, [], ◌∷◌, ◌++◌, Some, Result, Ok, Err, refl, sym, ap, subst, ◌∙◌, arith, inl, inr, ◌⊎◌}
use Rattle.std.proofs.lemmas.Bool.{ne_eqb}
use Rattle.amqp_base.specs.declared.error.Error.{Error}
use Rattle.amqp_base.specs.declared.error.Error.TheVariants.{InvalidFormatCode, InvalidValue, Io, Message, OutOfMemory}
use Rattle.std.specs.declared.io.ErrorKind.TheVariants.{UnexpectedEof}
use Rattle.amqp_base.specs.declared.format_code.EncodingCodes.{EncodingCodes}
use Rattle.amqp_base.specs.declared.format_code.EncodingCodes.TheVariants.{DescribedType, List0, List8, List32, Map8, Map32}
use Rattle.amqp_base.specs.declared.format_code.Category.{Category}
use Rattle.amqp_base.specs.declared.format_code.Category.TheVariants.{Fixed}
use Rattle.amqp_base.specs.Canon.{kind_of}
use Rattle.amqp_base.specs.Codes.{Kind, row}
use Rattle.amqp_base.specs.Describing.{describing_at}
use Rattle.amqp_base.specs.Identifiers.{Identifier, by_index, by_name, by_descriptor, by_code, is_key, IsKey, is_key_kind, key_data, key_of, key_at, identifier_at}
use Rattle.amqp_base.specs.Item.{Scalar, Item, scalar, list, map, array, described, Descriptor, Items, none, more, no_pairs, pair}
use Rattle.amqp_base.specs.Parse.{Parsed, ◌>>=◌, item_at, code_at, is_descriptor_kind, list_data, map_data}
use Rattle.amqp_base.specs.Refusals.{IsCustom, IsDevice, StandsFor}
use Rattle.amqp_base.specs.SameKind.{same_kind, place}
use Rattle.amqp_base.specs.Variants as base
use Rattle.amqp_base.specs.Variants.{two_of, pair_data, pair_at, variant_at, has_variant, is_pair, held_by}
use Rattle.amqp_base.specs.Wire.{Constructor, bare, under, under_pair, Wire, lenient, of_code, of_described, of_data, of_pair, Data, of_fixed, of_variable, list0, of_list, of_map, of_array, empty_array}
use Rattle.amqp_data.specs.Excuses.{Excused, Advances, no_memory}
use Rattle.amqp_data.specs.Keys.{key_scalar}
use Rattle.amqp_data.specs.declared.keys.Key.{Key}
use Rattle.amqp_data.specs.Parts.{HasParts, HasPairs}
use Rattle.amqp_data.proofs.Data.{any_code_is}
use Rattle.amqp_data.proofs.MapHeaders.{map_codes}
use Rattle.amqp_data.proofs.Readings.{behind, onward, stayed, advances_then, excused_before, excused_more}
use Rattle.amqp_data.proofs.FixedWidth.{custom_device}
use Rattle.amqp_data.proofs.Received.{keeps_known, may_known}
use Rattle.amqp_de.specs.Access.{Listing, Opens}
use Rattle.amqp_de.specs.Decoding.{Decoding, stands_under, as_ended}
use Rattle.amqp_de.specs.declared.identifiers.Identifier.{Identifier as OwnIdentifier}
use Rattle.amqp_de.specs.Identifies.{identifier_of, any_item, DescriptorSeen, DescriptorUnseen, Identifies}
use Rattle.amqp_de.specs.Law.{Found, Missed}
use Rattle.amqp_de.specs.Look.{item_kind, Looks, LooksNot}
use Rattle.amqp_de.specs.Steps.{Exact, Stops}
use Rattle.amqp_de.specs.VariantsRead.{HasItems, KeyFirst, PairOpened, NoPair, pair_by, ZeroTaken, NoZero, zero_at, Holding, VariantRead, NoVariant}
use Rattle.amqp_de.proofs.Answered.{one_refused}
use Rattle.amqp_de.proofs.DescribedAhead.{described_code}
use Rattle.amqp_de.proofs.FormsOpened.{item_data, opens_behind}
use Rattle.amqp_de.proofs.Identified.{named_key, of_key_kind, shows_described, unseen_here, missed_unseen_descriptor}
use Rattle.amqp_de.proofs.LookedFirst.{same_place, found_behind, missed_of_kind, missed_unseen, excused_kept}
use Rattle.amqp_de.proofs.Looking.{same_ok, inherited_code, at_byte, zero_any, pair_code}

-- ---- refusals

abbrev refused_as : {A : Type 0} → Error → Result A Error
refused_as e = Err e

pub if_stopped : {A : Type 0} {e : Error} (old new : Decoding) → Stops {A = A} old (Err e) new → IsTrue old.ended → (e ≡ InvalidValue) × (new ≡ old)
if_stopped {A} {e} old new s h = let p = s.if_ended h in (same p.0, p.1)
  where
    same : refused_as {A = A} e ≡ refused_as {A = A} InvalidValue → e ≡ InvalidValue
    same q = cc

pub no_variant : (t : base.Tagging) (buffers : Bool) (old new : Decoding) (e : Error) → (IsTrue old.ended → (e ≡ InvalidValue) × (new ≡ old)) → IsTrue new.ended → Missed (has_variant t) true buffers old new e
    → (old.ended ≡ false → (custom : Error) → StandsFor custom e → (s : List ℕ) → old.reading.to_come ≡ Some s → IsTrue old.reading.honest → (variant_at t custom (stands_under old) s ≡ Err e) ⊎ Excused true buffers old.reading new.reading e)
    → NoVariant t buffers old new e
no_variant t buffers old new e i z m g = record {
  if_ended = i;
  rejects = λ a custom n. record { why = g a custom n; steady = m.steady; device = m.device; memory = λ _. refl };
  missed = m;
  ended = z;
}

-- what takes less is missed, too
pub missed_less : (takes some : Item → Bool) (grows buffers : Bool) (old new : Decoding) (e : Error) → ((i : Item) → IsTrue (some i) → IsTrue (takes i)) → Missed takes grows buffers old new e → Missed some grows buffers old new e
missed_less takes some grows buffers old new e h m = record {
  why = λ a i text rest w q at f. m.why a i text rest w (h i q) at f;
  spent = m.spent;
  steady = m.steady;
  device = m.device;
  memory = m.memory;
}

answered_not : (old : Decoding) {e : Error} {new : Decoding} → old.ended ≡ false → IsTrue old.ended → (e ≡ InvalidValue) × (new ≡ old)
answered_not old a h = absurd cc (a, h)

-- ---- what an untagged enum or a value's code tells

pub untagged_here : (k : Identifier) (p : base.Payload) (i : OwnIdentifier) (buffers : Bool) (old : Decoding) (l : Listing) → p ≡ held_by k → identifier_of i ≡ k → old.ended ≡ false → Identifies k old l.state
    → (old.ended ≡ false → Exact identifier_of true buffers (identifier_at (stands_under old)) old.reading (Ok i) l.state.reading) → VariantRead base.untagged k p old l
unfolding variant_at
untagged_here k p i buffers old l h q a n e = rw h (record {
  before = a;
  holding = holding k n;
  exact = λ s at honest. let y = (e a).answer s at honest in (y.0, y.1, λ custom. rw (y.2, q) refl);
})
  where
    holding : (k : Identifier) → Identifies k old l.state → Holding base.untagged (held_by k) k old l
    holding (by_index n) h = h
    holding (by_name b) h = h
    holding (by_descriptor d) h = h
    holding (by_code x) h = h

pub untagged_refused : (buffers : Bool) (old new : Decoding) (e : Error) → Stops {A = OwnIdentifier} old (Err e) new → Missed any_item true buffers old new e → (old.ended ≡ false → Exact identifier_of true buffers (identifier_at (stands_under old)) old.reading (Err e) new.reading) → NoVariant base.untagged buffers old new e
unfolding variant_at
untagged_refused buffers old new e s m g = no_variant base.untagged buffers old new e (if_stopped old new s) s.err (missed_less any_item (has_variant base.untagged) true buffers old new e (λ i h. h) m) (λ a custom n t at honest. tell custom t ((g a).answer t at honest))
  where
    tell : (custom : Error) (t : List ℕ) → (identifier_at (stands_under old) t ≡ Err e) ⊎ Excused true buffers old.reading new.reading e → (variant_at base.untagged custom (stands_under old) t ≡ Err e) ⊎ Excused true buffers old.reading new.reading e
    tell custom t (inl p) = inl (rw p refl)
    tell custom t (inr y) = inr y

pub value_here : (x : EncodingCodes) (old : Decoding) (l : Listing) → old.ended ≡ false → Looks old l.state x → VariantRead base.of_value (by_code x) base.itself old l
unfolding variant_at
value_here x old l a n = record {
  before = a;
  holding = n;
  exact = λ s at honest. let k = n.exact s at in (s, keeps_known old.reading.to_come l.state.reading.to_come s n.looked.stays.to_come at, λ custom. rw k.1 refl);
}

-- no code stands there
value_none : (custom : Error) (c : Constructor) (s : List ℕ) (e : Error) → code_at c s ≡ Err e → variant_at base.of_value custom c s ≡ Err e
unfolding variant_at
value_none custom c s e h = rw h refl

tagged_none : (custom : Error) (c : Constructor) (s : List ℕ) (e : Error) → code_at c s ≡ Err e → variant_at base.tagged custom c s ≡ Err e
unfolding variant_at
tagged_none custom c s e h = rw h refl

unlooked : (t : base.Tagging) → ((custom : Error) (c : Constructor) (s : List ℕ) (e : Error) → code_at c s ≡ Err e → variant_at t custom c s ≡ Err e) → (buffers : Bool) (old new : Decoding) (e : Error) → Stops {A = EncodingCodes} old (Err e) new → LooksNot buffers old new e → NoVariant t buffers old new e
unlooked t fails buffers old new e s n = no_variant t buffers old new e (if_stopped old new s) s.err (missed_unseen (has_variant t) true buffers old new e (λ _. refl) n) (λ a custom _ u at honest. tell custom u ((n.rejects a).why u at honest))
  where
    tell : (custom : Error) (u : List ℕ) → (code_at (stands_under old) u ≡ Err e) ⊎ Excused buffers buffers old.reading new.reading e → (variant_at t custom (stands_under old) u ≡ Err e) ⊎ Excused true buffers old.reading new.reading e
    tell custom u (inl p) = inl (fails custom (stands_under old) u e p)
    tell custom u (inr y) = inr (excused_more_true y)
      where
        excused_more_true : Excused buffers buffers old.reading new.reading e → Excused true buffers old.reading new.reading e
        excused_more_true y = excused_more old.reading new.reading e (λ _. refl) y

pub value_unlooked : (buffers : Bool) (old new : Decoding) (e : Error) → Stops {A = EncodingCodes} old (Err e) new → LooksNot buffers old new e → NoVariant base.of_value buffers old new e
value_unlooked buffers old new e s n = unlooked base.of_value value_none buffers old new e s n

pub tagged_unlooked : (buffers : Bool) (old new : Decoding) (e : Error) → Stops {A = EncodingCodes} old (Err e) new → LooksNot buffers old new e → NoVariant base.tagged buffers old new e
tagged_unlooked buffers old new e s n = unlooked base.tagged tagged_none buffers old new e s n

-- ---- what a tagged enum tells by an index or a name

or_none : (b : Bool) → IsTrue (b || false) → IsTrue b
or_none true h = refl
or_none false h = absurd cc

key_parse : (custom : Error) (c : Constructor) (s r rest : List ℕ) (x : EncodingCodes) (v : Scalar) (k : Identifier) → is_key_kind (row x).kind ≡ true → key_of v ≡ Some k → code_at c s ≡ Ok (x, r) → item_at key_data c s ≡ Ok (v, rest) → variant_at base.tagged custom c s ≡ Ok (base.is k base.nothing, rest)
unfolding variant_at
key_parse custom c s r rest x v k q n h g = rw (h, q, g, n) refl

key_fails : (custom : Error) (c : Constructor) (s r : List ℕ) (x : EncodingCodes) (e : Error) → is_key_kind (row x).kind ≡ true → code_at c s ≡ Ok (x, r) → item_at key_data c s ≡ Err e → variant_at base.tagged custom c s ≡ Err e
unfolding variant_at
key_fails custom c s r x e q h g = rw (h, q, g) refl

descriptor_parse : (custom : Error) (c : Constructor) (s r rest : List ℕ) (d : Descriptor) (stands : Constructor) → code_at c s ≡ Ok (DescribedType, r) → describing_at InvalidFormatCode c s ≡ Ok (record { descriptor = d; stands = stands }, rest) → variant_at base.tagged custom c s ≡ Ok (base.is (by_descriptor d) base.itself, s)
unfolding variant_at row same_kind place
descriptor_parse custom c s r rest d stands h g = rw (h, g) refl

descriptor_fails : (custom : Error) (c : Constructor) (s r : List ℕ) (e : Error) → code_at c s ≡ Ok (DescribedType, r) → describing_at InvalidFormatCode c s ≡ Err e → variant_at base.tagged custom c s ≡ Err e
unfolding variant_at row same_kind place
descriptor_fails custom c s r e h g = rw (h, g) refl

pair_parse : (custom : Error) (c : Constructor) (s r : List ℕ) (x : EncodingCodes) → is_key_kind (row x).kind ≡ false → same_kind (row x).kind Kind.described ≡ false → code_at c s ≡ Ok (x, r) → variant_at base.tagged custom c s ≡ pair_at c s
unfolding variant_at
pair_parse custom c s r x q d h = rw (h, q, d) refl

pair_same : (parse : EncodingCodes → List ℕ → Parsed ℕ) (c : Constructor) (s r : List ℕ) (x : EncodingCodes) → code_at c s ≡ Ok (x, r) → pair_data x r ≡ two_of parse x r → pair_at c s ≡ pair_by parse c s
pair_same parse c s r x h q = ap (λ (y : Parsed ℕ). y >>= λ n. key_at bare n.1 >>= λ k. Ok (base.is k.0 base.second, k.1)) (item_data pair_data c s x r h ∙ (q ∙ sym (item_data (two_of parse) c s x r h)))

pair_not : (c : Constructor) (s r : List ℕ) (x : EncodingCodes) (e : Error) → code_at c s ≡ Ok (x, r) → pair_data x r ≡ Err e → pair_at c s ≡ Err e
pair_not c s r x e h q = ap (λ (y : Parsed ℕ). y >>= λ n. key_at bare n.1 >>= λ k. Ok (base.is k.0 base.second, k.1)) (item_data pair_data c s x r h ∙ q)

-- the codes of pairs
pub record PairCode (kind : Kind) (parse : EncodingCodes → List ℕ → Parsed ℕ) (x : EncodingCodes) : Type 0 where
  pub no_key : is_key_kind (row x).kind ≡ false
  pub plain : same_kind (row x).kind Kind.described ≡ false
  pub kind_is : (row x).kind ≡ kind
  pub parses : (r : List ℕ) → pair_data x r ≡ two_of parse x r

pub list_code : (x : EncodingCodes) → (x ≡ List8) ⊎ (x ≡ List32) → PairCode Kind.list list_data x
unfolding row same_kind place pair_data
list_code x (inl h) = rw h (record { no_key = refl; plain = refl; kind_is = refl; parses = λ r. refl })
list_code x (inr h) = rw h (record { no_key = refl; plain = refl; kind_is = refl; parses = λ r. refl })

pub map_code : (x : EncodingCodes) → (x ≡ Map8) ⊎ (x ≡ Map32) → PairCode Kind.map map_data x
unfolding row same_kind place pair_data
map_code x (inl h) = rw h (record { no_key = refl; plain = refl; kind_is = refl; parses = λ r. refl })
map_code x (inr h) = rw h (record { no_key = refl; plain = refl; kind_is = refl; parses = λ r. refl })

-- ---- the items of pairs

is_listed : Item → Bool
is_listed (list is) = is_pair (list is)
is_listed (scalar v) = false
is_listed (map ps) = false
is_listed (array is) = false
is_listed (described d v) = false

is_mapped : Item → Bool
is_mapped (map ps) = is_pair (map ps)
is_mapped (scalar v) = false
is_mapped (list is) = false
is_mapped (array is) = false
is_mapped (described d v) = false

listed : (i : Item) → Kind.list ≡ item_kind i → IsTrue (has_variant base.tagged i) → IsTrue (is_listed i)
unfolding same_kind place is_listed
listed (scalar v) k h = let n : is_key_kind (kind_of v) ≡ false = ap is_key_kind (sym k) in absurd cc (rw n at h)
listed (list is) k h = or_none (is_pair (list is)) h
listed (map ps) k h = absurd cc
listed (array is) k h = absurd cc
listed (described d v) k h = absurd cc

mapped : (i : Item) → Kind.map ≡ item_kind i → IsTrue (has_variant base.tagged i) → IsTrue (is_mapped i)
unfolding same_kind place is_mapped
mapped (scalar v) k h = let n : is_key_kind (kind_of v) ≡ false = ap is_key_kind (sym k) in absurd cc (rw n at h)
mapped (map ps) k h = or_none (is_pair (map ps)) h
mapped (list is) k h = absurd cc
mapped (array is) k h = absurd cc
mapped (described d v) k h = absurd cc

sorts_list : (i : Item) → IsTrue (is_listed i) → (is : Items) × HasParts i is × KeyFirst is
unfolding is_listed
sorts_list (list (more a (more b none))) t = (more a (more b none), refl, record { key = a; held = b; two = refl; is_key = t })
sorts_list (list none) t = absurd cc
sorts_list (list (more a none)) t = absurd cc
sorts_list (list (more a (more b (more c is)))) t = absurd cc
sorts_list (scalar v) t = absurd cc
sorts_list (map ps) t = absurd cc
sorts_list (array is) t = absurd cc
sorts_list (described d v) t = absurd cc

sorts_map : (i : Item) → IsTrue (is_mapped i) → (is : Items) × HasPairs i is × KeyFirst is
unfolding is_mapped
sorts_map (map (pair a b no_pairs)) t = (more a (more b none), refl, record { key = a; held = b; two = refl; is_key = t })
sorts_map (map no_pairs) t = absurd cc
sorts_map (map (pair a b (pair c d ps))) t = absurd cc
sorts_map (scalar v) t = absurd cc
sorts_map (list is) t = absurd cc
sorts_map (array is) t = absurd cc
sorts_map (described d v) t = absurd cc

list_only : (i : Item) (is : Items) → Kind.list ≡ item_kind i → HasItems i is → HasParts i is
list_only (list js) is k h = h
list_only (map ps) is k h = absurd cc
list_only (scalar v) is k h = absurd h
list_only (array js) is k h = absurd h
list_only (described d v) is k h = absurd h

list_whole : (i : Item) (is : Items) → HasParts i is → HasItems i is
list_whole (list js) is h = h
list_whole (map ps) is h = absurd h
list_whole (scalar v) is h = absurd h
list_whole (array js) is h = absurd h
list_whole (described d v) is h = absurd h

map_only : (i : Item) (is : Items) → Kind.map ≡ item_kind i → HasItems i is → HasPairs i is
map_only (map ps) is k h = h
map_only (list js) is k h = absurd cc
map_only (scalar v) is k h = absurd h
map_only (array js) is k h = absurd h
map_only (described d v) is k h = absurd h

map_whole : (i : Item) (is : Items) → HasPairs i is → HasItems i is
map_whole (map ps) is h = h
map_whole (list js) is h = absurd h
map_whole (scalar v) is h = absurd h
map_whole (array js) is h = absurd h
map_whole (described d v) is h = absurd h

-- an empty list without a header is no pair
list0_items : {e : EncodingCodes} {k : Kind} {c : Category} {b : List ℕ} {i : Item} → Data lenient e k c b i → k ≡ Kind.list → c ≡ Fixed 0 → IsTrue (is_pair i) → ⊥
list0_items (of_fixed h) m n t = absurd cc
list0_items (of_variable h) m n t = absurd cc
list0_items list0 m n t = absurd cc
list0_items (of_list z k b lz lk nk h f) m n t = absurd cc
list0_items (of_map z k b lz lk nk h f) m n t = absurd cc
list0_items (of_array z k m b lz lk nk g h f) o n t = absurd cc
list0_items (empty_array z k b lz lk nk f) m n t = absurd cc

under_list0 : (t : List ℕ) (i : Item) → Wire lenient (under List0) t i → IsTrue (is_pair i) → ⊥
unfolding row
under_list0 t i (of_data h) p = list0_items h refl refl p

code_item : (c : Constructor) (t rest r : List ℕ) (i : Item) (e : EncodingCodes) → Wire lenient c t i → code_at c (t ++ rest) ≡ Ok (e, r) → (e ≡ DescribedType → ⊥) → (b : List ℕ) × Wire lenient (under e) b i
code_item bare _ rest r i e (of_code {x = x} {e = f} {b = b} p w) h n = (b, rw (at_byte x f e (b ++ rest) r (any_code_is x f p) h) at w)
code_item bare _ rest r _ e (of_described a b g w) h n = absurd (n (sym (at_byte 0 DescribedType e ((a ++ b) ++ rest) r zero_any h)))
code_item (under f) t rest r i e w h n = (t, rw (same_ok f e (t ++ rest) r (code_at (under f) (t ++ rest)) (inherited_code f (t ++ rest)) h) at w)
code_item (under_pair d f) t rest r _ e (of_pair w) h n = absurd (n (sym (same_ok DescribedType e (t ++ rest) r (code_at (under_pair d f) (t ++ rest)) (pair_code d f (t ++ rest)) h)))

list_codes : (x : EncodingCodes) → (row x).kind ≡ Kind.list → (x ≡ List8 → ⊥) → (x ≡ List32 → ⊥) → x ≡ List0
unfolding row
list_codes List0 h a b = refl
list_codes List8 h a b = absurd (a refl)
list_codes List32 h a b = absurd (b refl)
list_codes _ h a b = absurd cc

no_pair_data : (x : EncodingCodes) (r : List ℕ) → (x ≡ List8 → ⊥) → (x ≡ List32 → ⊥) → (x ≡ Map8 → ⊥) → (x ≡ Map32 → ⊥) → pair_data x r ≡ Err InvalidFormatCode
unfolding pair_data
no_pair_data List8 r a b c d = absurd (a refl)
no_pair_data List32 r a b c d = absurd (b refl)
no_pair_data Map8 r a b c d = absurd (c refl)
no_pair_data Map32 r a b c d = absurd (d refl)
no_pair_data _ r a b c d = refl

plain_code : (x : EncodingCodes) → (x ≡ DescribedType → ⊥) → same_kind (row x).kind Kind.described ≡ false
unfolding row same_kind place
plain_code DescribedType n = absurd (n refl)
plain_code _ n = refl

map_not : (x : EncodingCodes) → (x ≡ Map8 → ⊥) → (x ≡ Map32 → ⊥) → (x ≡ Map8) ⊎ (x ≡ Map32) → ⊥
map_not x a b (inl h) = a h
map_not x a b (inr h) = b h

-- ---- behind the look at a tagged enum's item

module _ (old mid : Decoding) (x : EncodingCodes) (l : Looks old mid x) (a : old.ended ≡ false) where
  known : (s : List ℕ) → old.reading.to_come ≡ Some s → mid.reading.to_come ≡ Some s
  known s at = keeps_known old.reading.to_come mid.reading.to_come s l.looked.stays.to_come at

  same : stands_under mid ≡ stands_under old
  same = same_place old mid x l

  pub key_told : (k : Identifier) (key : Key) (buffers : Bool) (now : Listing) → is_key_kind (row x).kind ≡ true → key_of (key_scalar key) ≡ Some k → Found is_key (λ i. i ≡ scalar (key_scalar key)) mid now.state
      → (mid.ended ≡ false → Exact key_scalar true buffers (item_at key_data (stands_under mid)) mid.reading (Ok key) now.state.reading) → VariantRead base.tagged k base.nothing old now
  key_told k key buffers now q n f e = record {
    before = a;
    holding = found_behind is_key (IsKey k) old mid now.state x l (named_key k (key_scalar key) mid now.state n f);
    exact = λ s at honest.
        let c = l.exact s at in
        let y = (e l.not_ended).answer s (known s at) (l.looked.stays.steady.honest ∙ honest) in
        (y.0, y.1, λ custom. key_parse custom (stands_under old) s c.0 y.0 x (key_scalar key) k q n c.1 (rw same at y.2));
  }

  pub key_untold : (buffers : Bool) (new : Decoding) (e : Error) → is_key_kind (row x).kind ≡ true → IsTrue new.ended → Missed is_key true buffers mid new e
      → (mid.ended ≡ false → Exact {V = Key} key_scalar true buffers (item_at key_data (stands_under mid)) mid.reading (Err e) new.reading) → NoVariant base.tagged buffers old new e
  key_untold buffers new e q z m g =
      no_variant base.tagged buffers old new e (answered_not old a) z (missed_of_kind is_key (has_variant base.tagged) true true buffers old mid new x e (λ h. h) (λ i k _. of_key_kind x i q k) l m)
      (λ _ custom _ s at honest. let c = l.exact s at in tell custom s c.0 c.1 ((g l.not_ended).answer s (known s at) (l.looked.stays.steady.honest ∙ honest)))
    where
      tell : (custom : Error) (s r : List ℕ) → code_at (stands_under old) s ≡ Ok (x, r) → (item_at key_data (stands_under mid) s ≡ Err e) ⊎ Excused true buffers mid.reading new.reading e → (variant_at base.tagged custom (stands_under old) s ≡ Err e) ⊎ Excused true buffers old.reading new.reading e
      tell custom s r c (inl p) = inl (key_fails custom (stands_under old) s r x e q c (rw same at p))
      tell custom s r c (inr y) = inr (excused_kept old.reading mid.reading new.reading e l.looked.stays y)

  module _ {kind : Kind} {parse : EncodingCodes → List ℕ → Parsed ℕ} (code : PairCode kind parse x) where
    parse_is : (custom : Error) (s r : List ℕ) → code_at (stands_under old) s ≡ Ok (x, r) → variant_at base.tagged custom (stands_under old) s ≡ pair_by parse (stands_under old) s
    parse_is custom s r h = pair_parse custom (stands_under old) s r x code.no_key code.plain h ∙ pair_same parse (stands_under old) s r x h (code.parses r)

    items_behind : {Has : Item → Items → Type 0} → ((i : Item) (is : Items) → kind ≡ item_kind i → HasItems i is → Has i is) → ((i : Item) (is : Items) → Has i is → HasItems i is) → (from : Listing) → Opens Has mid from → Opens HasItems old from
    items_behind only whole from o =
        let b = opens_behind old mid x l from a o in
        record {
          text = b.text;
          step = b.step;
          whole = λ t is p n w. let q = b.whole t is p n w in (q.0, q.1, whole q.0 is q.2, q.3);
          only = λ t rest i is h w at. b.only t rest i is (only i is (sym code.kind_is ∙ l.kind i t w (may_known mid.reading t rest (known (t ++ rest) at))) h) w at;
          own = b.own;
          before = b.before;
          outer = b.outer;
          described = b.described;
          not_ended = b.not_ended;
          starts = b.starts;
          spent = b.spent;
        }

    pub pair_told : {Has : Item → Items → Type 0} → ((i : Item) (is : Items) → kind ≡ item_kind i → HasItems i is → Has i is) → ((i : Item) (is : Items) → Has i is → HasItems i is) → (k : Identifier) (p : base.Payload) (now : Listing) → PairOpened Has parse k p mid now → VariantRead base.tagged k p old now
    pair_told only whole k p now o = rw o.payload (record {
      before = a;
      holding = record { from = o.pair.from; opened = items_behind only whole o.pair.from o.pair.opened; plain = o.pair.plain; key = o.pair.key; is_key = o.pair.is_key; reads = o.pair.reads; left = o.pair.left };
      exact = λ s at honest.
          let c = l.exact s at in
          let y = o.exact s (known s at) (l.looked.stays.steady.honest ∙ honest) in
          (y.0, y.1, λ custom. parse_is custom s c.0 c.1 ∙ rw same at y.2);
    })

    pub pair_untold : {Has : Item → Items → Type 0} (takes : Item → Bool) → ((i : Item) → kind ≡ item_kind i → IsTrue (has_variant base.tagged i) → IsTrue (takes i)) → ((i : Item) → IsTrue (takes i) → (is : Items) × Has i is × KeyFirst is)
        → (buffers : Bool) (new : Decoding) (e : Error) → NoPair Has parse buffers mid new e → NoVariant base.tagged buffers old new e
    pair_untold takes sure sorts buffers new e n =
        no_variant base.tagged buffers old new e (answered_not old a) n.ended (missed_of_kind takes (has_variant base.tagged) true true buffers old mid new x e (λ h. h) (λ i k q. sure i (sym code.kind_is ∙ k) q) l (n.missed takes sorts))
        (λ _ custom _ s at honest. let c = l.exact s at in tell custom s c.0 c.1 ((n.rejects l.not_ended).why s (known s at) (l.looked.stays.steady.honest ∙ honest)))
      where
        tell : (custom : Error) (s r : List ℕ) → code_at (stands_under old) s ≡ Ok (x, r) → (pair_by parse (stands_under mid) s ≡ Err e) ⊎ Excused true buffers mid.reading new.reading e → (variant_at base.tagged custom (stands_under old) s ≡ Err e) ⊎ Excused true buffers old.reading new.reading e
        tell custom s r c (inl p) = inl (parse_is custom s r c ∙ rw same at p)
        tell custom s r c (inr y) = inr (excused_kept old.reading mid.reading new.reading e l.looked.stays y)

  pub list_told : (k : Identifier) (p : base.Payload) (now : Listing) → (x ≡ List8) ⊎ (x ≡ List32) → PairOpened HasParts list_data k p mid now → VariantRead base.tagged k p old now
  list_told k p now c o = pair_told (list_code x c) list_only list_whole k p now o

  pub map_told : (k : Identifier) (p : base.Payload) (now : Listing) → (x ≡ Map8) ⊎ (x ≡ Map32) → PairOpened HasPairs map_data k p mid now → VariantRead base.tagged k p old now
  map_told k p now c o = pair_told (map_code x c) map_only map_whole k p now o

  pub list_untold : (buffers : Bool) (new : Decoding) (e : Error) → (x ≡ List8) ⊎ (x ≡ List32) → NoPair HasParts list_data buffers mid new e → NoVariant base.tagged buffers old new e
  list_untold buffers new e c n = pair_untold (list_code x c) is_listed listed sorts_list buffers new e n

  pub map_untold : (buffers : Bool) (new : Decoding) (e : Error) → (x ≡ Map8) ⊎ (x ≡ Map32) → NoPair HasPairs map_data buffers mid new e → NoVariant base.tagged buffers old new e
  map_untold buffers new e c n = pair_untold (map_code x c) is_mapped mapped sorts_map buffers new e n

  -- no code of these
  pub other_untold : (buffers : Bool) → (is_key_kind (row x).kind ≡ false) × (x ≡ DescribedType → ⊥) × (x ≡ List8 → ⊥) × (x ≡ List32 → ⊥) × (x ≡ Map8 → ⊥) × (x ≡ Map32 → ⊥) → NoVariant base.tagged buffers old (as_ended mid) InvalidFormatCode
  other_untold buffers n =
      no_variant base.tagged buffers old (as_ended mid) InvalidFormatCode (answered_not old a) refl missed
      (λ _ custom _ s at honest. let c = l.exact s at in inl (pair_parse custom (stands_under old) s c.0 x n.0 (plain_code x n.1) c.1 ∙ pair_not (stands_under old) s c.0 x InvalidFormatCode c.1 (no_pair_data x c.0 n.2 n.3 n.4 n.5)))
    where
      excluded : (i : Item) (t rest : List ℕ) → Wire lenient (stands_under old) t i → old.reading.to_come ≡ Some (t ++ rest) → (row x).kind ≡ item_kind i → IsTrue (has_variant base.tagged i) → ⊥
      excluded (scalar v) t rest w at k h = let m : is_key_kind (kind_of v) ≡ false = ap is_key_kind (sym k) ∙ n.0 in cc (rw m at h)
      excluded (list is) t rest w at k h =
          let z = list_codes x k n.2 n.3 in
          let c = l.exact (t ++ rest) at in
          let b = code_item (stands_under old) t rest c.0 (list is) x w c.1 n.1 in
          under_list0 b.0 (list is) (subst (λ (e : EncodingCodes). Wire lenient (under e) b.0 (list is)) z b.1) (or_none (is_pair (list is)) h)
      excluded (map ps) t rest w at k h = map_not x n.4 n.5 (map_codes x k)
      excluded (array is) t rest w at k h = cc
      excluded (described d v) t rest w at k h = n.1 (described_code x k)

      missed : Missed (has_variant base.tagged) true buffers old (as_ended mid) InvalidFormatCode
      missed = record {
        why = λ _ i t rest w q at h. absurd (excluded i t rest w at (l.kind i t w (may_known mid.reading t rest (known (t ++ rest) at))) q);
        spent = λ _. record { most = omega (arith, l.begun, l.looked.stays.taken) };
        steady = stayed l.looked.stays;
        device = λ d. absurd d;
        memory = λ m. absurd cc;
      }

-- ---- a descriptor

pub descriptor_told : (d : Descriptor) (old mid : Decoding) (now : Listing) → old.ended ≡ false → Looks old mid DescribedType → DescriptorSeen d mid now.state → VariantRead base.tagged (by_descriptor d) base.itself old now
descriptor_told d old mid now a l n =
    let w = shows_described d old mid now.state l n in
    record {
      before = a;
      holding = w;
      exact = λ s at honest.
          let c = l.exact s at in
          let y = w.exact s at in
          (s, keeps_known old.reading.to_come now.state.reading.to_come s w.stays.to_come at, λ custom. descriptor_parse custom (stands_under old) s c.0 y.1 d y.0 c.1 y.2);
    }

pub descriptor_untold : (buffers : Bool) (old mid new : Decoding) (e : Error) → old.ended ≡ false → Looks old mid DescribedType → DescriptorUnseen buffers mid new e → NoVariant base.tagged buffers old new e
descriptor_untold buffers old mid new e a l n =
    no_variant base.tagged buffers old new e (answered_not old a) n.ended (missed_less any_item (has_variant base.tagged) true buffers old new e (λ i h. refl) (missed_unseen_descriptor buffers old mid new e l n))
    (λ _ custom _ s at honest. let c = l.exact s at in tell custom s c.0 c.1 (unseen_here buffers old mid new e l n s at honest))
  where
    tell : (custom : Error) (s r : List ℕ) → code_at (stands_under old) s ≡ Ok (DescribedType, r) → (describing_at InvalidFormatCode (stands_under old) s ≡ Err e) ⊎ Excused true buffers old.reading new.reading e → (variant_at base.tagged custom (stands_under old) s ≡ Err e) ⊎ Excused true buffers old.reading new.reading e
    tell custom s r c (inl p) = inl (descriptor_fails custom (stands_under old) s r e c p)
    tell custom s r c (inr y) = inr y

-- ---- what the code of a descriptor tells

zero_first : (old mid : Decoding) → ZeroTaken old mid → (s : List ℕ) → old.reading.to_come ≡ Some s → (t : List ℕ) × (mid.reading.to_come ≡ Some t) × (s ≡ 0 ∷ t)
zero_first old mid z s at = behind old.reading mid.reading s (0 ∷ []) z.step at

bare_then : (old mid : Decoding) → ZeroTaken old mid → stands_under mid ≡ bare
bare_then old mid z = rw (z.inherited, z.described) z.bare_before

code_told : (custom : Error) (t r : List ℕ) (x : EncodingCodes) → code_at bare t ≡ Ok (x, r) → is_descriptor_kind (row x).kind ≡ true → variant_at base.of_descriptor custom bare (0 ∷ t) ≡ Ok (base.is (by_code x) base.itself, t)
unfolding variant_at
code_told custom t r x h q = rw (h, q) refl

code_other : (custom : Error) (t r : List ℕ) (x : EncodingCodes) → code_at bare t ≡ Ok (x, r) → is_descriptor_kind (row x).kind ≡ false → variant_at base.of_descriptor custom bare (0 ∷ t) ≡ Err custom
unfolding variant_at
code_other custom t r x h q = rw (h, q) refl

code_fails : (custom : Error) (t : List ℕ) (e : Error) → code_at bare t ≡ Err e → variant_at base.of_descriptor custom bare (0 ∷ t) ≡ Err e
unfolding variant_at
code_fails custom t e h = rw h refl

suc_is : (n : ℕ) → (suc n == 0) ≡ false
suc_is n = ne_eqb (suc n) 0 (λ q. absurd (omega arith))

zero_fails : (custom : Error) (c : Constructor) (s : List ℕ) (e : Error) → zero_at c s ≡ Err e → variant_at base.of_descriptor custom c s ≡ Err e
unfolding variant_at
zero_fails custom bare [] e h = let q : Io UnexpectedEof ≡ e = cc in ap Err q
zero_fails custom bare (zero ∷ t) e h = absurd cc
zero_fails custom bare (suc n ∷ t) e h =
    let f : ◌≡◌ {A = Parsed ℕ} (Err InvalidFormatCode) (Err e) = rw (suc_is n) at h in
    let q : InvalidFormatCode ≡ e = cc in
    ap Err q
zero_fails custom (under x) s e h = let q : InvalidFormatCode ≡ e = cc in ap Err q
zero_fails custom (under_pair d x) s e h = let q : InvalidFormatCode ≡ e = cc in ap Err q

missed_none : (buffers : Bool) (old new : Decoding) (e : Error) → new.begun ≤ old.begun + 1 → Advances old.reading new.reading → (IsDevice e → old.reading.faults < new.reading.faults) → Missed (has_variant base.of_descriptor) true buffers old new e
missed_none buffers old new e few s d = record {
  why = λ a i t rest w q at h. absurd cc (q);
  spent = λ a. record { most = omega (arith, few, s.taken, one_refused (stands_under old)) };
  steady = s;
  device = d;
  memory = λ _. refl;
}

pub code_here : (x : EncodingCodes) (old mid : Decoding) (l : Listing) → ZeroTaken old mid → Looks mid l.state x → is_descriptor_kind (row x).kind ≡ true → VariantRead base.of_descriptor (by_code x) base.itself old l
code_here x old mid l z n q = record {
  before = z.before;
  holding = (mid, z, n);
  exact = λ s at honest.
      let f = zero_first old mid z s at in
      let k = n.exact f.0 f.1 in (
        f.0,
        keeps_known mid.reading.to_come l.state.reading.to_come f.0 n.looked.stays.to_come f.1,
        λ custom.
            ap (λ (c : Constructor). variant_at base.of_descriptor custom c s) z.bare_before ∙ (ap (λ (u : List ℕ). variant_at base.of_descriptor custom bare u) f.2 ∙ code_told custom f.0 k.0 x (subst (λ (c : Constructor). code_at c f.0 ≡ Ok (x, k.0)) (bare_then old mid z) k.1) q),
      );
}

pub code_not : (buffers : Bool) (x : EncodingCodes) (text : List ℕ) (old mid new : Decoding) (e : Error) → ZeroTaken old mid → Looks mid new x → is_descriptor_kind (row x).kind ≡ false → IsCustom text e → NoVariant base.of_descriptor buffers old (as_ended new) e
code_not buffers x text old mid new e z n q m =
    no_variant base.of_descriptor buffers old (as_ended new) e (answered_not old z.before) refl
    (missed_none buffers old (as_ended new) e (omega (arith, n.begun, z.begun)) (advances_then old.reading mid.reading new.reading (onward z.step) (stayed n.looked.stays)) (λ d. absurd (custom_device text e m d)))
    (λ _ custom h s at honest. tell custom e refl m h s at)
  where
    parsed : (custom : Error) (s : List ℕ) → old.reading.to_come ≡ Some s → variant_at base.of_descriptor custom (stands_under old) s ≡ Err custom
    parsed custom s at =
        let f = zero_first old mid z s at in
        let k = n.exact f.0 f.1 in
        ap (λ (c : Constructor). variant_at base.of_descriptor custom c s) z.bare_before ∙ (ap (λ (u : List ℕ). variant_at base.of_descriptor custom bare u) f.2 ∙ code_other custom f.0 k.0 x (subst (λ (c : Constructor). code_at c f.0 ≡ Ok (x, k.0)) (bare_then old mid z) k.1) q)

    tell : (custom y : Error) → y ≡ e → IsCustom text y → StandsFor custom y → (s : List ℕ) → old.reading.to_come ≡ Some s → (variant_at base.of_descriptor custom (stands_under old) s ≡ Err e) ⊎ Excused true buffers old.reading new.reading e
    tell custom (Message t) p i j s at = inl (parsed custom s at ∙ ap Err (j tt ∙ p))
    tell custom OutOfMemory p i j s at = inr (no_memory (sym p) refl)
    tell custom _ p i j s at = absurd i

pub code_unlooked : (buffers : Bool) (old mid new : Decoding) (e : Error) → ZeroTaken old mid → IsTrue new.ended → LooksNot buffers mid new e → NoVariant base.of_descriptor buffers old new e
code_unlooked buffers old mid new e z u n =
    no_variant base.of_descriptor buffers old new e (answered_not old z.before) u
    (missed_none buffers old new e (omega (arith, n.begun, z.begun)) (advances_then old.reading mid.reading new.reading (onward z.step) (stayed n.stays)) (λ d. let f = z.step.steady.faults in let g = n.device d in omega (arith, f, g)))
    (λ _ custom _ s at honest. let f = zero_first old mid z s at in tell custom s f.0 f.2 ((n.rejects z.not_ended).why f.0 f.1 (z.step.steady.honest ∙ honest)))
  where
    tell : (custom : Error) (s t : List ℕ) → s ≡ 0 ∷ t → (code_at (stands_under mid) t ≡ Err e) ⊎ Excused buffers buffers mid.reading new.reading e → (variant_at base.of_descriptor custom (stands_under old) s ≡ Err e) ⊎ Excused true buffers old.reading new.reading e
    tell custom s t q (inl p) = inl (ap (λ (c : Constructor). variant_at base.of_descriptor custom c s) z.bare_before ∙ (ap (λ (u : List ℕ). variant_at base.of_descriptor custom bare u) q ∙ code_fails custom t e (subst (λ (c : Constructor). code_at c t ≡ Err e) (bare_then old mid z) p)))
    tell custom s t q (inr y) = inr (excused_before old.reading mid.reading new.reading (0 ∷ []) e z.step (excused_more mid.reading new.reading e (λ _. refl) y))

pub zero_untold : (buffers : Bool) (old new : Decoding) (e : Error) → NoZero buffers old new e → NoVariant base.of_descriptor buffers old new e
zero_untold buffers old new e n = no_variant base.of_descriptor buffers old new e n.if_ended n.ended (missed_none buffers old new e n.few n.steady n.device) (λ a custom _ s at honest. tell custom s ((n.rejects a).why s at honest))
  where
    tell : (custom : Error) (s : List ℕ) → (zero_at (stands_under old) s ≡ Err e) ⊎ Excused buffers buffers old.reading new.reading e → (variant_at base.of_descriptor custom (stands_under old) s ≡ Err e) ⊎ Excused true buffers old.reading new.reading e
    tell custom s (inl p) = inl (zero_fails custom (stands_under old) s e p)
    tell custom s (inr y) = inr (excused_more old.reading new.reading e (λ _. refl) y)
