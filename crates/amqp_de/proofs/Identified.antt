-- What says which variant of an enum stands next.
use Rattle.std.proofs.Common.{◌≡◌, ℕ, ◌+◌, ◌^◌, ◌<◌, ◌≤◌, max, Bool, true, false, IsTrue, List, [], ◌∷◌, ◌++◌, length, take, drop, Option, Some, Ok, Err, refl, sym, ap, subst, ◌∙◌, arith, inl, inr, ◌⊎◌, append_assoc}
use Rattle.std.proofs.lemmas.List.{length-append, length-drop, append-nil, take-append-drop}
use Rattle.amqp_base.specs.declared.error.Error.{Error}
use Rattle.amqp_base.specs.declared.error.Error.TheVariants.{InvalidFormatCode, OutOfMemory}
use Rattle.amqp_base.specs.declared.format_code.EncodingCodes.{EncodingCodes}
use Rattle.amqp_base.specs.declared.format_code.EncodingCodes.TheVariants.{DescribedType, Uint, SmallUint, Uint0, Ulong, SmallUlong, Ulong0, Str8, Str32, Sym8, Sym32}
use Rattle.amqp_base.specs.Codes.{Kind, row}
use Rattle.amqp_base.specs.Describing.{BehindDescriptor, describing_at}
use Rattle.amqp_base.specs.Refusals.{IsDevice}
use Rattle.amqp_base.specs.Identifiers.{Identifier, by_index, by_name, by_descriptor, by_code, is_key, IsKey, is_key_kind, key_data, key_of, ignored_at, identifier_at}
use Rattle.amqp_base.specs.Item.{Scalar, uint, ulong, string, symbol, Item, scalar, list, map, array, described, Descriptor}
use Rattle.amqp_base.specs.Parse.{Parsed, code_at, item_at, descriptor_at}
use Rattle.amqp_base.specs.SameKind.{same_kind, place}
use Rattle.amqp_base.specs.Wire.{Constructor, bare, under, under_pair, Wire, lenient, of_code, of_described, of_pair, DescriptorText}
use Rattle.amqp_base.proofs.Lists.{cons_parts}
use Rattle.amqp_base.proofs.OneFront.{no_code, same_descriptor_text}
use Rattle.amqp_read.specs.Raw.{MayBeTaken}
use Rattle.amqp_read.specs.Reading.{Reading, Agree, Stays}
use Rattle.amqp_data.specs.Ahead.{past, known_past}
use Rattle.amqp_data.specs.Excuses.{Excused, Overfull, no_memory, faulted, uncounted}
use Rattle.amqp_data.specs.Keys.{key_scalar}
use Rattle.amqp_data.specs.declared.keys.Key.{Key}
use Rattle.amqp_data.proofs.Data.{by_category_is, kind_under, scalar_under}
use Rattle.amqp_data.proofs.LooksAhead.{stays_then, looked_then}
use Rattle.amqp_data.proofs.Readings.{stayed, excused_more}
use Rattle.amqp_data.proofs.Received.{keeps_known, shown_known, shown_first, may_before, agree_joins}
use Rattle.amqp_de.specs.declared.identifiers.Identifier.{Identifier as OwnIdentifier}
use Rattle.amqp_de.specs.Decoding.{Decoding, stands_under}
use Rattle.amqp_de.specs.Identifies.{identifier_of, any_item, SeenUnder, UnseenUnder, DescriptorSeen, DescriptorUnseen, IsBehind, ShowsDescribed, Identifies, Ignores}
use Rattle.amqp_de.specs.Law.{Found, Missed}
use Rattle.amqp_de.specs.Look.{item_kind, looked_at, ByteShown, Looks, LooksNot}
use Rattle.amqp_de.specs.Steps.{Exact}
use Rattle.amqp_de.proofs.Answered.{Reads, not_refused}
use Rattle.amqp_de.proofs.Begun.{under_described}
use Rattle.amqp_de.proofs.BehindDescriptor.{front_parses, pair_parses, no_pair}
use Rattle.amqp_de.proofs.LookedFirst.{same_place, keeps_overfull, found_behind, missed_unseen, missed_of_kind, missed_behind, excused_kept}
use Rattle.amqp_de.proofs.Looking.{stays_same, same_ok, inherited_code, own_byte}
use Rattle.amqp_de.proofs.Weaker.{found_as}

-- ---- an index or a name

key_item : (i : Item) → IsTrue (is_key i) → (v : Scalar) × (i ≡ scalar v)
key_item (scalar v) t = (v, refl)
key_item (list is) t = absurd cc
key_item (map ps) t = absurd cc
key_item (array is) t = absurd cc
key_item (described d v) t = absurd cc

key_parsed : (e : EncodingCodes) (t rest : List ℕ) (v : Scalar) → IsTrue (is_key (scalar v)) → Wire lenient (under e) t (scalar v) → key_data e (t ++ rest) ≡ Ok (v, rest)
unfolding key_data
key_parsed e t rest v h w =
    let q : is_key_kind (row e).kind ≡ true = ap is_key_kind (kind_under w) ∙ h in
    rw q (by_category_is (scalar_under w) rest)

pub reads_key : Reads is_key key_data
reads_key = record { scalars = key_item; understands = key_parsed }

pub other_code : (e : EncodingCodes) → (e ≡ Uint → ⊥) → (e ≡ SmallUint → ⊥) → (e ≡ Uint0 → ⊥) → (e ≡ Ulong → ⊥) → (e ≡ SmallUlong → ⊥) → (e ≡ Ulong0 → ⊥) → (e ≡ Str8 → ⊥) → (e ≡ Str32 → ⊥) → (e ≡ Sym8 → ⊥) → (e ≡ Sym32 → ⊥) → is_key_kind (row e).kind ≡ false
unfolding row same_kind place
other_code Uint a b c d f g h i j k = absurd (a refl)
other_code SmallUint a b c d f g h i j k = absurd (b refl)
other_code Uint0 a b c d f g h i j k = absurd (c refl)
other_code Ulong a b c d f g h i j k = absurd (d refl)
other_code SmallUlong a b c d f g h i j k = absurd (f refl)
other_code Ulong0 a b c d f g h i j k = absurd (g refl)
other_code Str8 a b c d f g h i j k = absurd (h refl)
other_code Str32 a b c d f g h i j k = absurd (i refl)
other_code Sym8 a b c d f g h i j k = absurd (j refl)
other_code Sym32 a b c d f g h i j k = absurd (k refl)
other_code _ a b c d f g h i j k = refl

-- what it says
pub named_key : (k : Identifier) (v : Scalar) (old new : Decoding) → key_of v ≡ Some k → Found is_key (λ i. i ≡ scalar v) old new → Found is_key (IsKey k) old new
named_key k v old new h f = found_as is_key is_key (λ i. i ≡ scalar v) (IsKey k) old new (λ i t m. (t, rw m h)) f

-- ---- the parse

plain_code : (x : EncodingCodes) → (x ≡ DescribedType → ⊥) → same_kind (row x).kind Kind.described ≡ false
unfolding row same_kind place
plain_code DescribedType n = absurd (n refl)
plain_code _ n = refl

pub ignored_seen : (c : Constructor) (s r rest : List ℕ) (d : Descriptor) (stands : Constructor) → code_at c s ≡ Ok (DescribedType, r) → describing_at InvalidFormatCode c s ≡ Ok (record { descriptor = d; stands = stands }, rest) → ignored_at c s ≡ Ok (by_descriptor d, s)
unfolding ignored_at row same_kind place
ignored_seen c s r rest d stands h g = rw (h, g) refl

ignored_unseen : (c : Constructor) (s r : List ℕ) (e : Error) → code_at c s ≡ Ok (DescribedType, r) → describing_at InvalidFormatCode c s ≡ Err e → ignored_at c s ≡ Err e
unfolding ignored_at row same_kind place
ignored_unseen c s r e h g = rw (h, g) refl

ignored_other : (c : Constructor) (s r : List ℕ) (x : EncodingCodes) → (x ≡ DescribedType → ⊥) → code_at c s ≡ Ok (x, r) → ignored_at c s ≡ Ok (by_code x, s)
unfolding ignored_at
ignored_other c s r x n h = rw (h, plain_code x n) refl

ignored_none : (c : Constructor) (s : List ℕ) (e : Error) → code_at c s ≡ Err e → ignored_at c s ≡ Err e
unfolding ignored_at
ignored_none c s e h = rw h refl

identified_key : (c : Constructor) (s r rest : List ℕ) (x : EncodingCodes) (v : Scalar) (k : Identifier) → is_key_kind (row x).kind ≡ true → key_of v ≡ Some k → code_at c s ≡ Ok (x, r) → item_at key_data c s ≡ Ok (v, rest) → identifier_at c s ≡ Ok (k, rest)
unfolding identifier_at
identified_key c s r rest x v k q n h g = rw (h, q, g, n) refl

identified_not : (c : Constructor) (s r : List ℕ) (x : EncodingCodes) (e : Error) → is_key_kind (row x).kind ≡ true → code_at c s ≡ Ok (x, r) → item_at key_data c s ≡ Err e → identifier_at c s ≡ Err e
unfolding identifier_at
identified_not c s r x e q h g = rw (h, q, g) refl

identified_other : (c : Constructor) (s r : List ℕ) (x : EncodingCodes) (p : Parsed Identifier) → is_key_kind (row x).kind ≡ false → code_at c s ≡ Ok (x, r) → ignored_at c s ≡ p → identifier_at c s ≡ p
unfolding identifier_at ignored_at
identified_other c s r x p q h g = rw (h, q) (rw h at g)

identified_none : (c : Constructor) (s : List ℕ) (e : Error) → code_at c s ≡ Err e → identifier_at c s ≡ Err e
unfolding identifier_at
identified_none c s e h = rw h refl

-- ---- a descriptor that is seen

described_byte : (row DescribedType).byte ≡ 0
unfolding row
described_byte = refl

first_zero : (old mid : Decoding) → Looks old mid DescribedType → stands_under old ≡ bare → (s : List ℕ) → old.reading.to_come ≡ Some s → (t : List ℕ) × (s ≡ 0 ∷ t)
first_zero old mid l c s at =
    let shown : ByteShown bare DescribedType mid.reading = rw c at l.shown in
    let f = shown_known mid.reading s (row DescribedType).byte shown (keeps_known old.reading.to_come mid.reading.to_come s l.looked.stays.to_come at) in
    (f.0, f.1 ∙ ap (λ (b : ℕ). b ∷ f.0) described_byte)

-- what begins with 0x00 is described
zero_item : (t rest r : List ℕ) (i : Item) → Wire lenient bare t i → t ++ rest ≡ 0 ∷ r → (d : Descriptor) × (a : List ℕ) × (b : List ℕ) × (t ≡ 0 ∷ (a ++ b)) × DescriptorText a d × (v : Item) × (i ≡ described d v)
zero_item _ rest r i (of_code {x = x} {e = e} {b = b} p h) q =
    let z : x ≡ 0 = (cons_parts x 0 (b ++ rest) r q).0 in
    absurd (no_code (rw z at p))
zero_item _ rest r _ (of_described a b {d = d} {v = v} g w) q = (d, a, b, refl, g, v, refl)

-- under the constructor of a pair its data are described
pair_item : (d : Descriptor) (e : EncodingCodes) (t : List ℕ) (i : Item) → Wire lenient (under_pair d e) t i → (v : Item) × (i ≡ described d v)
pair_item d e t _ (of_pair {v = v} w) = (v, refl)

seen_stays : (c : Constructor) (d : Descriptor) (old new : Reading) → SeenUnder c d old new → Stays old new
seen_stays bare d old new h = h.ahead.looked.stays
seen_stays (under e) d old new h = absurd h
seen_stays (under_pair f e) d old new h = rw h.1 (stays_same old).stays

seen_exact : (c : Constructor) (d : Descriptor) (old new : Reading) → SeenUnder c d old new → (s : List ℕ) → old.to_come ≡ Some s → (c ≡ bare → (t : List ℕ) × (s ≡ 0 ∷ t))
    → (stands : Constructor) × (rest : List ℕ) × (describing_at InvalidFormatCode c s ≡ Ok (record { descriptor = d; stands = stands }, rest))
seen_exact bare d old new h s at z =
    let f = z refl in
    let shown : take (length h.text) f.0 ≡ h.text = subst (λ (u : List ℕ). take (length h.text) (drop 1 u) ≡ h.text) f.1 (h.ahead.shown s at) in
    let split : f.0 ≡ h.text ++ drop (length h.text) f.0 = sym (take-append-drop (length h.text) f.0) ∙ ap (λ (u : List ℕ). u ++ drop (length h.text) f.0) shown in
    (bare, drop (length h.text) f.0, ap (λ (u : List ℕ). describing_at InvalidFormatCode bare u) (f.1 ∙ ap (λ (u : List ℕ). 0 ∷ u) split) ∙ front_parses InvalidFormatCode h.text (drop (length h.text) f.0) d h.spelled)
seen_exact (under e) d old new h s at z = absurd h
seen_exact (under_pair f e) d old new h s at z = (under e, s, pair_parses InvalidFormatCode f e s ∙ ap (λ (x : Descriptor). Ok (record { descriptor = x; stands = under e }, s)) h.0)

pair_seen : (f : Descriptor) (e : EncodingCodes) (d : Descriptor) (old mid new : Reading) → (f ≡ d) × (new ≡ mid) → length mid.received ≤ max (length old.received) 0 → (t : List ℕ) (i : Item) → Wire lenient (under_pair f e) t i → IsBehind d t i old new
pair_seen f e d old mid new h few t i w =
    let o = pair_item f e t i w in
    record { value = o.0; is = o.1 ∙ ap (λ (u : Descriptor). described u o.0) h.0; received = rw h.1 (omega (arith, few)) }

seen_own : (c : Constructor) (d : Descriptor) (old mid new : Reading) → SeenUnder c d mid new → length mid.received ≤ max (length old.received) (looked_at c) → (t rest : List ℕ) (i : Item) → Wire lenient c t i → mid.to_come ≡ Some (t ++ rest) → (c ≡ bare → (r : List ℕ) × (t ++ rest ≡ 0 ∷ r))
    → IsBehind d t i old new
seen_own bare d old mid new h few t rest i w at z =
    let f = z refl in
    let o = zero_item t rest f.0 i w f.1 in
    let whole : t ++ rest ≡ 0 ∷ (o.1 ++ (o.2 ++ rest)) = ap (λ (u : List ℕ). u ++ rest) o.3 ∙ ap (λ (u : List ℕ). 0 ∷ u) (append_assoc o.1 o.2 rest) in
    let shown : take (length h.text) (o.1 ++ (o.2 ++ rest)) ≡ h.text = subst (λ (u : List ℕ). take (length h.text) (drop 1 u) ≡ h.text) whole (h.ahead.shown (t ++ rest) at) in
    let split : o.1 ++ (o.2 ++ rest) ≡ h.text ++ drop (length h.text) (o.1 ++ (o.2 ++ rest)) = sym (take-append-drop (length h.text) (o.1 ++ (o.2 ++ rest))) ∙ ap (λ (u : List ℕ). u ++ drop (length h.text) (o.1 ++ (o.2 ++ rest))) shown in
    let same = same_descriptor_text o.1 h.text o.0 d o.4 h.spelled (o.2 ++ rest) (drop (length h.text) (o.1 ++ (o.2 ++ rest))) split in
    let more = h.ahead.looked.received in
    record {
      value = o.5;
      is = o.6 ∙ ap (λ (u : Descriptor). described u o.5) same.1;
      received = omega (arith, ap (λ (u : List ℕ). length u) o.3, length-append o.1 o.2, ap (λ (u : List ℕ). length u) same.0, few, more);
    }
seen_own (under e) d old mid new h few t rest i w at z = absurd h
seen_own (under_pair f e) d old mid new h few t rest i w at z = pair_seen f e d old mid new h few t i w

-- the same of whatever is taken next
seen_next : (c : Constructor) (d : Descriptor) (old mid new : Reading) → SeenUnder c d mid new → length mid.received ≤ max (length old.received) (looked_at c) → (t : List ℕ) (i : Item) → Wire lenient c t i → MayBeTaken new t → (c ≡ bare → (r : List ℕ) × (t ≡ 0 ∷ r))
    → IsBehind d t i old new
seen_next bare d old mid new h few t i w m z =
    let f = z refl in
    let o = zero_item t [] f.0 i w (append-nil t ∙ f.1) in
    let j = agree_joins (o.1 ++ o.2) h.text (subst (λ (u : List ℕ). Agree (drop 1 u) h.text) o.3 (h.ahead.next t m)) in
    let same = same_descriptor_text o.1 h.text o.0 d o.4 h.spelled (o.2 ++ j.0) j.1 (sym (append_assoc o.1 o.2 j.0) ∙ j.2) in
    let more = h.ahead.looked.received in
    record {
      value = o.5;
      is = o.6 ∙ ap (λ (u : Descriptor). described u o.5) same.1;
      received = omega (arith, ap (λ (u : List ℕ). length u) o.3, length-append o.1 o.2, ap (λ (u : List ℕ). length u) same.0, few, more);
    }
seen_next (under e) d old mid new h few t i w m z = absurd h
seen_next (under_pair f e) d old mid new h few t i w m z = pair_seen f e d old mid new h few t i w

-- the first byte of whatever is taken next
next_zero : (old mid new : Decoding) → Looks old mid DescribedType → Stays mid.reading new.reading → stands_under old ≡ bare → (t : List ℕ) (i : Item) → Wire lenient (stands_under old) t i → MayBeTaken new.reading t → (r : List ℕ) × (t ≡ 0 ∷ r)
next_zero old mid new l s c t i w m =
    let shown : ByteShown bare DescribedType mid.reading = rw c at l.shown in
    let f = shown_first mid.reading t (row DescribedType).byte shown (may_before mid.reading new.reading t s m).1 (own_byte bare t i (rw c at w)) in
    (f.0, f.1 ∙ ap (λ (b : ℕ). b ∷ f.0) described_byte)

pub shows_described : (d : Descriptor) (old mid new : Decoding) → Looks old mid DescribedType → DescriptorSeen d mid new → ShowsDescribed d old new
shows_described d old mid new l n =
    let same = same_place old mid DescribedType l in
    let seen : SeenUnder (stands_under old) d mid.reading new.reading = rw same at n.seen in
    record {
      stays = stays_then old.reading mid.reading new.reading l.looked.stays (seen_stays (stands_under old) d mid.reading new.reading seen);
      not_ended = n.not_ended;
      inherited = n.inherited ∙ l.inherited;
      described = n.described ∙ l.described;
      begun = n.begun ∙ l.begun;
      exact = λ s at. seen_exact (stands_under old) d mid.reading new.reading seen s (keeps_known old.reading.to_come mid.reading.to_come s l.looked.stays.to_come at) (λ c. first_zero old mid l c s at);
      own = λ t rest i w at.
          seen_own (stands_under old) d old.reading mid.reading new.reading seen l.looked.received t rest i w (keeps_known old.reading.to_come mid.reading.to_come (t ++ rest) l.looked.stays.to_come at)
          (λ c. first_zero old mid l c (t ++ rest) at);
      next = λ t i w m.
          seen_next (stands_under old) d old.reading mid.reading new.reading seen l.looked.received t i w m
          (λ c. next_zero old mid new l (seen_stays (stands_under old) d mid.reading new.reading seen) c t i w m);
    }

pub exact_described : (i : OwnIdentifier) (d : Descriptor) (buffers : Bool) (old mid new : Decoding) → identifier_of i ≡ by_descriptor d → Looks old mid DescribedType → DescriptorSeen d mid new → Exact identifier_of true buffers (ignored_at (stands_under old)) old.reading (Ok i) new.reading
exact_described i d buffers old mid new q l n =
    let w = shows_described d old mid new l n in
    record {
      answer = λ s at h.
          let k = l.exact s at in
          let p = w.exact s at in
          (s, keeps_known old.reading.to_come new.reading.to_come s w.stays.to_come at, ignored_seen (stands_under old) s k.0 p.1 d p.0 k.1 p.2 ∙ ap (λ (x : Identifier). Ok (x, s)) (sym q));
    }

pub exact_code : (x : EncodingCodes) (buffers : Bool) (i : OwnIdentifier) (old new : Decoding) → identifier_of i ≡ by_code x → (x ≡ DescribedType → ⊥) → Looks old new x → Exact identifier_of true buffers (ignored_at (stands_under old)) old.reading (Ok i) new.reading
exact_code x buffers i old new q n l = record {
  answer = λ s at h.
      let k = l.exact s at in
      (s, keeps_known old.reading.to_come new.reading.to_come s l.looked.stays.to_come at, ignored_other (stands_under old) s k.0 x n k.1 ∙ ap (λ (y : Identifier). Ok (y, s)) (sym q));
}

-- ---- refusals

past_overfull : (n : ℕ) (old mid : Reading) (s : List ℕ) → Stays old mid → mid.to_come ≡ Some s → n ≤ length s → Overfull (mid.taken + n) (known_past n mid.to_come) → Overfull old.taken old.to_come
past_overfull n old mid s h at l o =
    let m : 2 ^ 64 ≤ mid.taken + n + length (drop n s) = rw at at o in
    keeps_overfull old.taken old.to_come mid.to_come h.to_come (rw at (omega (arith, length-drop n s, h.taken, m)))

excused_past : (n : ℕ) {grows buffers : Bool} (old mid new : Reading) (e : Error) (s : List ℕ) → Stays old mid → mid.to_come ≡ Some s → n ≤ length s → Excused grows buffers (past n mid) (past n new) e → Excused grows buffers old new e
excused_past n old mid new e s h at l (no_memory p q) = no_memory p q
excused_past n old mid new e s h at l (faulted i p q) = faulted i (let f = h.steady.faults in omega (arith, f, p)) q
excused_past n old mid new e s h at l (uncounted p q o) = uncounted p q (past_overfull n old mid s h at l o)

describing_fails : (t : List ℕ) (e : Error) → descriptor_at InvalidFormatCode t ≡ Err e → describing_at InvalidFormatCode bare (0 ∷ t) ≡ Err e
unfolding describing_at
describing_fails t e h = rw h refl

unseen_answer : (c : Constructor) {buffers : Bool} (old mid new : Decoding) (e : Error) → stands_under old ≡ c → Looks old mid DescribedType → UnseenUnder c buffers mid.reading new.reading e → (s : List ℕ) → old.reading.to_come ≡ Some s → IsTrue old.reading.honest
    → (describing_at InvalidFormatCode c s ≡ Err e) ⊎ Excused true buffers old.reading new.reading e
unseen_answer bare {buffers} old mid new e p l h s at honest =
    let f = first_zero old mid l p s at in
    let same = keeps_known old.reading.to_come mid.reading.to_come s l.looked.stays.to_come at ∙ ap (λ (u : List ℕ). Some u) f.1 in
    tell f.0 f.1 same (h.rejects.why f.0 (ap (λ (k : Option (List ℕ)). known_past 1 k) same) (l.looked.stays.steady.honest ∙ honest))
  where
    tell : (t : List ℕ) → s ≡ 0 ∷ t → mid.reading.to_come ≡ Some (0 ∷ t) → (descriptor_at InvalidFormatCode t ≡ Err e) ⊎ Excused true buffers (past 1 mid.reading) (past 1 new.reading) e → (describing_at InvalidFormatCode bare s ≡ Err e) ⊎ Excused true buffers old.reading new.reading e
    tell t q m (inl x) = inl (rw q (describing_fails t e x))
    tell t q m (inr y) = inr (excused_past 1 old.reading mid.reading new.reading e (0 ∷ t) l.looked.stays m (omega arith) y)
unseen_answer (under x) old mid new e p l h s at honest = inl (rw h.0 (no_pair InvalidFormatCode x s))
unseen_answer (under_pair d x) old mid new e p l h s at honest = inr (no_memory h.0 refl)

unseen_stays : (c : Constructor) (buffers : Bool) (old new : Reading) (e : Error) → UnseenUnder c buffers old new e → Stays old new
unseen_stays bare buffers old new e h = h.stays
unseen_stays (under x) buffers old new e h = rw h.1 (stays_same old).stays
unseen_stays (under_pair d x) buffers old new e h = rw h.1 (stays_same old).stays

unseen_device : (c : Constructor) (buffers : Bool) (old new : Reading) (e : Error) → UnseenUnder c buffers old new e → IsDevice e → old.faults < new.faults
unseen_device bare buffers old new e h d = h.rejects.device d
unseen_device (under x) buffers old new e h d = let f : IsDevice InvalidFormatCode = rw h.0 at d in absurd f
unseen_device (under_pair y x) buffers old new e h d = let f : IsDevice OutOfMemory = rw h.0 at d in absurd f

pub exact_unseen : {V : Type 0} (view : V → Identifier) (buffers : Bool) (old mid new : Decoding) (e : Error) → Looks old mid DescribedType → DescriptorUnseen buffers mid new e → Exact view true buffers (ignored_at (stands_under old)) old.reading (Err e) new.reading
exact_unseen view buffers old mid new e l n =
    let unseen : UnseenUnder (stands_under old) buffers mid.reading new.reading e = rw (same_place old mid DescribedType l) at n.unseen in
    record { answer = λ s at h. let k = l.exact s at in tell s k.0 k.1 (unseen_answer (stands_under old) old mid new e refl l unseen s at h) }
  where
    tell : (s r : List ℕ) → code_at (stands_under old) s ≡ Ok (DescribedType, r) → (describing_at InvalidFormatCode (stands_under old) s ≡ Err e) ⊎ Excused true buffers old.reading new.reading e → (ignored_at (stands_under old) s ≡ Err e) ⊎ Excused true buffers old.reading new.reading e
    tell s r q (inl p) = inl (ignored_unseen (stands_under old) s r e q p)
    tell s r q (inr y) = inr y

pub unseen_here : (buffers : Bool) (old mid new : Decoding) (e : Error) → Looks old mid DescribedType → DescriptorUnseen buffers mid new e → (s : List ℕ) → old.reading.to_come ≡ Some s → IsTrue old.reading.honest
    → (describing_at InvalidFormatCode (stands_under old) s ≡ Err e) ⊎ Excused true buffers old.reading new.reading e
unseen_here buffers old mid new e l n s at h = unseen_answer (stands_under old) old mid new e refl l (rw (same_place old mid DescribedType l) at n.unseen) s at h

-- a described item has a descriptor
described_stands : (c : Constructor) (t rest r : List ℕ) (i : Item) → Wire lenient c t i → code_at c (t ++ rest) ≡ Ok (DescribedType, r) → (c ≡ bare → (u : List ℕ) × (t ++ rest ≡ 0 ∷ u)) → (x : BehindDescriptor × List ℕ) × (describing_at InvalidFormatCode c (t ++ rest) ≡ Ok x)
described_stands bare t rest r i w h z =
    let f = z refl in
    let o = zero_item t rest f.0 i w f.1 in
    let whole : t ++ rest ≡ 0 ∷ (o.1 ++ (o.2 ++ rest)) = ap (λ (u : List ℕ). u ++ rest) o.3 ∙ ap (λ (u : List ℕ). 0 ∷ u) (append_assoc o.1 o.2 rest) in
    ((record { descriptor = o.0; stands = bare }, o.2 ++ rest), ap (λ (u : List ℕ). describing_at InvalidFormatCode bare u) whole ∙ front_parses InvalidFormatCode o.1 (o.2 ++ rest) o.0 o.4)
described_stands (under e) t rest r i w h z =
    let q : e ≡ DescribedType = same_ok e DescribedType (t ++ rest) r (code_at (under e) (t ++ rest)) (inherited_code e (t ++ rest)) h in
    absurd (under_described t i (rw q at w))
described_stands (under_pair d e) t rest r i w h z = ((record { descriptor = d; stands = under e }, t ++ rest), pair_parses InvalidFormatCode d e (t ++ rest))

pub missed_unseen_descriptor : (buffers : Bool) (old mid new : Decoding) (e : Error) → Looks old mid DescribedType → DescriptorUnseen buffers mid new e → Missed any_item true buffers old new e
missed_unseen_descriptor buffers old mid new e l n = record {
  why = λ a i t rest w q at h.
      let k = l.exact (t ++ rest) at in
      let x = described_stands (stands_under old) t rest k.0 i w k.1 (λ c. first_zero old mid l c (t ++ rest) at) in
      not_refused old.reading new.reading (describing_at InvalidFormatCode (stands_under old) (t ++ rest)) x.0 e x.1 (unseen_answer (stands_under old) old mid new e refl l unseen (t ++ rest) at h);
  spent = λ a. record { most = omega (arith, n.begun, l.begun, stays.taken) };
  steady = stayed stays;
  device = λ d. let f = l.looked.stays.steady.faults in let g = unseen_device (stands_under old) buffers mid.reading new.reading e unseen d in omega (arith, f, g);
  memory = λ _. refl;
}
  where
    unseen : UnseenUnder (stands_under old) buffers mid.reading new.reading e
    unseen = rw (same_place old mid DescribedType l) at n.unseen

    stays : Stays old.reading new.reading
    stays = stays_then old.reading mid.reading new.reading l.looked.stays (unseen_stays (stands_under old) buffers mid.reading new.reading e unseen)

pub exact_unlooked : {V : Type 0} (view : V → Identifier) (parse : Constructor → List ℕ → Parsed Identifier) (none : (c : Constructor) (s : List ℕ) (e : Error) → code_at c s ≡ Err e → parse c s ≡ Err e) (buffers : Bool) (old new : Decoding) (e : Error) → old.ended ≡ false → LooksNot buffers old new e → Exact view true buffers (parse (stands_under old)) old.reading (Err e) new.reading
exact_unlooked view parse none buffers old new e a n = record { answer = λ s at h. tell s ((n.rejects a).why s at h) }
  where
    tell : (s : List ℕ) → (code_at (stands_under old) s ≡ Err e) ⊎ Excused buffers buffers old.reading new.reading e → (parse (stands_under old) s ≡ Err e) ⊎ Excused true buffers old.reading new.reading e
    tell s (inl p) = inl (none (stands_under old) s e p)
    tell s (inr y) = inr (excused_more old.reading new.reading e (λ _. refl) y)

pub ignored_unlooked : {V : Type 0} (view : V → Identifier) (buffers : Bool) (old new : Decoding) (e : Error) → old.ended ≡ false → LooksNot buffers old new e → Exact view true buffers (ignored_at (stands_under old)) old.reading (Err e) new.reading
ignored_unlooked view buffers old new e a n = exact_unlooked view ignored_at ignored_none buffers old new e a n

pub identified_unlooked : {V : Type 0} (view : V → Identifier) (buffers : Bool) (old new : Decoding) (e : Error) → old.ended ≡ false → LooksNot buffers old new e → Exact view true buffers (identifier_at (stands_under old)) old.reading (Err e) new.reading
identified_unlooked view buffers old new e a n = exact_unlooked view identifier_at identified_none buffers old new e a n

pub missed_unlooked : (buffers : Bool) (old new : Decoding) (e : Error) → LooksNot buffers old new e → Missed any_item true buffers old new e
missed_unlooked buffers old new e n = missed_unseen any_item true buffers old new e (λ _. refl) n

-- ---- behind a look

looks_twice : (old mid new : Decoding) (x y : EncodingCodes) → Looks old mid x → Looks mid new y → Looks old new y
looks_twice old mid new x y l m =
    let same = same_place old mid x l in
    record {
      looked = looked_then (looked_at (stands_under old)) (looked_at (stands_under old)) old.reading mid.reading new.reading (omega arith) l.looked (rw same at m.looked);
      not_ended = m.not_ended;
      inherited = m.inherited ∙ l.inherited;
      described = m.described ∙ l.described;
      begun = m.begun ∙ l.begun;
      exact = λ s at. rw same at m.exact s (keeps_known old.reading.to_come mid.reading.to_come s l.looked.stays.to_come at);
      shown = rw same at m.shown;
      kind = λ i t w h. m.kind i t (rw same w) h;
    }

shows_behind : (d : Descriptor) (old mid new : Decoding) (x : EncodingCodes) → Looks old mid x → ShowsDescribed d mid new → ShowsDescribed d old new
shows_behind d old mid new x l m =
    let same = same_place old mid x l in
    record {
      stays = stays_then old.reading mid.reading new.reading l.looked.stays m.stays;
      not_ended = m.not_ended;
      inherited = m.inherited ∙ l.inherited;
      described = m.described ∙ l.described;
      begun = m.begun ∙ l.begun;
      exact = λ s at. rw same at m.exact s (keeps_known old.reading.to_come mid.reading.to_come s l.looked.stays.to_come at);
      own = λ t rest i w at.
          let f = m.own t rest i (rw same w) (keeps_known old.reading.to_come mid.reading.to_come (t ++ rest) l.looked.stays.to_come at) in
          let g = l.looked.received in
          let h = own_byte (stands_under old) t i w in
          record { value = f.value; is = f.is; received = let r = f.received in omega arith };
      next = λ t i w q.
          let f = m.next t i (rw same w) q in
          let g = l.looked.received in
          let h = own_byte (stands_under old) t i w in
          record { value = f.value; is = f.is; received = let r = f.received in omega arith };
    }

pub identifies_behind : (i : Identifier) (old mid new : Decoding) (x : EncodingCodes) → Looks old mid x → Ignores i mid new → Identifies i old new
identifies_behind (by_index n) old mid new x l h = absurd h
identifies_behind (by_name b) old mid new x l h = absurd h
identifies_behind (by_descriptor d) old mid new x l h = shows_behind d old mid new x l h
identifies_behind (by_code y) old mid new x l h = looks_twice old mid new x y l h

identifies_key : (k : Identifier) (v : Scalar) (old new : Decoding) → key_of v ≡ Some k → Found is_key (IsKey k) old new → Identifies k old new
identifies_key (by_index n) v old new h f = f
identifies_key (by_name b) v old new h f = f
identifies_key (by_descriptor d) (uint n) old new h f = absurd cc
identifies_key (by_descriptor d) (ulong n) old new h f = absurd cc
identifies_key (by_descriptor d) (string b) old new h f = absurd cc
identifies_key (by_descriptor d) (symbol b) old new h f = absurd cc
identifies_key (by_descriptor d) _ old new h f = absurd cc
identifies_key (by_code e) (uint n) old new h f = absurd cc
identifies_key (by_code e) (ulong n) old new h f = absurd cc
identifies_key (by_code e) (string b) old new h f = absurd cc
identifies_key (by_code e) (symbol b) old new h f = absurd cc
identifies_key (by_code e) _ old new h f = absurd cc

pub key_behind : (k : Identifier) (v : Scalar) (old mid new : Decoding) (x : EncodingCodes) → key_of v ≡ Some k → Looks old mid x → Found is_key (λ i. i ≡ scalar v) mid new → Identifies k old new
key_behind k v old mid new x h l f = identifies_key k v old new h (found_behind is_key (IsKey k) old mid new x l (named_key k v mid new h f))

pub exact_key : (i : OwnIdentifier) (key : Key) (buffers : Bool) (old mid : Decoding) (new : Reading) (x : EncodingCodes) → is_key_kind (row x).kind ≡ true → key_of (key_scalar key) ≡ Some (identifier_of i) → Looks old mid x
    → (mid.ended ≡ false → Exact key_scalar true buffers (item_at key_data (stands_under mid)) mid.reading (Ok key) new) → Exact identifier_of true buffers (identifier_at (stands_under old)) old.reading (Ok i) new
exact_key i key buffers old mid new x q n l e = record {
  answer = λ s at h.
      let k = l.exact s at in
      let m = (e l.not_ended).answer s (keeps_known old.reading.to_come mid.reading.to_come s l.looked.stays.to_come at) (l.looked.stays.steady.honest ∙ h) in
      (m.0, m.1, identified_key (stands_under old) s k.0 m.0 x (key_scalar key) (identifier_of i) q n k.1 (rw (same_place old mid x l) at m.2));
}

pub exact_no_key : (buffers : Bool) (old mid : Decoding) (new : Reading) (x : EncodingCodes) (e : Error) → is_key_kind (row x).kind ≡ true → Looks old mid x → (mid.ended ≡ false → Exact {V = Key} key_scalar true buffers (item_at key_data (stands_under mid)) mid.reading (Err e) new)
    → Exact identifier_of true buffers (identifier_at (stands_under old)) old.reading (Err e) new
exact_no_key buffers old mid new x e q l n = record {
  answer = λ s at h.
      let k = l.exact s at in
      tell s k.0 k.1 (rw (same_place old mid x l) at (n l.not_ended).answer s (keeps_known old.reading.to_come mid.reading.to_come s l.looked.stays.to_come at) (l.looked.stays.steady.honest ∙ h));
}
  where
    tell : (s r : List ℕ) → code_at (stands_under old) s ≡ Ok (x, r) → (item_at key_data (stands_under old) s ≡ Err e) ⊎ Excused true buffers mid.reading new e → (identifier_at (stands_under old) s ≡ Err e) ⊎ Excused true buffers old.reading new e
    tell s r c (inl p) = inl (identified_not (stands_under old) s r x e q c p)
    tell s r c (inr y) = inr (excused_kept old.reading mid.reading new e l.looked.stays y)

pub exact_other : (i : OwnIdentifier) (buffers : Bool) (old mid : Decoding) (new : Reading) (x : EncodingCodes) → is_key_kind (row x).kind ≡ false → Looks old mid x → (mid.ended ≡ false → Exact identifier_of true buffers (ignored_at (stands_under mid)) mid.reading (Ok i) new)
    → Exact identifier_of true buffers (identifier_at (stands_under old)) old.reading (Ok i) new
exact_other i buffers old mid new x q l e = record {
  answer = λ s at h.
      let k = l.exact s at in
      let m = (e l.not_ended).answer s (keeps_known old.reading.to_come mid.reading.to_come s l.looked.stays.to_come at) (l.looked.stays.steady.honest ∙ h) in
      (m.0, m.1, identified_other (stands_under old) s k.0 x (Ok (identifier_of i, m.0)) q k.1 (rw (same_place old mid x l) at m.2));
}

pub exact_no_other : (buffers : Bool) (old mid : Decoding) (new : Reading) (x : EncodingCodes) (e : Error) → is_key_kind (row x).kind ≡ false → Looks old mid x → (mid.ended ≡ false → Exact identifier_of true buffers (ignored_at (stands_under mid)) mid.reading (Err e) new)
    → Exact identifier_of true buffers (identifier_at (stands_under old)) old.reading (Err e) new
exact_no_other buffers old mid new x e q l n = record {
  answer = λ s at h.
      let k = l.exact s at in
      tell s k.0 k.1 (rw (same_place old mid x l) at (n l.not_ended).answer s (keeps_known old.reading.to_come mid.reading.to_come s l.looked.stays.to_come at) (l.looked.stays.steady.honest ∙ h));
}
  where
    tell : (s r : List ℕ) → code_at (stands_under old) s ≡ Ok (x, r) → (ignored_at (stands_under old) s ≡ Err e) ⊎ Excused true buffers mid.reading new e → (identifier_at (stands_under old) s ≡ Err e) ⊎ Excused true buffers old.reading new e
    tell s r c (inl p) = inl (identified_other (stands_under old) s r x (Err e) q c p)
    tell s r c (inr y) = inr (excused_kept old.reading mid.reading new e l.looked.stays y)

pub of_key_kind : (x : EncodingCodes) (i : Item) → is_key_kind (row x).kind ≡ true → (row x).kind ≡ item_kind i → IsTrue (is_key i)
unfolding same_kind place
of_key_kind x (scalar v) q h = ap is_key_kind (sym h) ∙ q
of_key_kind x (list is) q h = let p : is_key_kind Kind.list ≡ true = ap is_key_kind (sym h) ∙ q in absurd cc
of_key_kind x (map ps) q h = let p : is_key_kind Kind.map ≡ true = ap is_key_kind (sym h) ∙ q in absurd cc
of_key_kind x (array is) q h = let p : is_key_kind Kind.array ≡ true = ap is_key_kind (sym h) ∙ q in absurd cc
of_key_kind x (described d v) q h = let p : is_key_kind Kind.described ≡ true = ap is_key_kind (sym h) ∙ q in absurd cc

pub missed_key : (buffers : Bool) (old mid new : Decoding) (x : EncodingCodes) (e : Error) → is_key_kind (row x).kind ≡ true → Looks old mid x → Missed is_key true buffers mid new e → Missed any_item true buffers old new e
missed_key buffers old mid new x e q l m = missed_of_kind is_key any_item true true buffers old mid new x e (λ h. h) (λ i k _. of_key_kind x i q k) l m

pub missed_other : (buffers : Bool) (old mid new : Decoding) (x : EncodingCodes) (e : Error) → Looks old mid x → Missed any_item true buffers mid new e → Missed any_item true buffers old new e
missed_other buffers old mid new x e l m = missed_behind any_item any_item true true buffers old mid new x e (λ h. h) (λ i h. h) l m
