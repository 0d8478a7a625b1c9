-- An item without parts: its byte, then its data.
use Rattle.std.proofs.Common.{◌≡◌, ℕ, ◌+◌, ◌≤◌, Bool, true, false, ◌||◌, List, ◌++◌, Some, Ok, Err, refl, sym, ap, subst, ◌∙◌, arith, inl, inr, ◌⊎◌, IsTrue}
use Rattle.amqp_base.specs.declared.error.Error.{Error}
use Rattle.amqp_base.specs.declared.error.Error.TheVariants.{Io}
use Rattle.std.specs.declared.io.ErrorKind.TheVariants.{UnexpectedEof}
use Rattle.amqp_base.specs.declared.format_code.EncodingCodes.{EncodingCodes}
use Rattle.amqp_base.specs.Codes.{Kind, row}
use Rattle.amqp_base.specs.Item.{Item, Scalar, scalar, list, map, array, described}
use Rattle.amqp_base.specs.Canon.{kind_of}
use Rattle.amqp_base.specs.Wire.{Constructor, bare, under, under_pair, Wire, lenient, of_code, of_described}
use Rattle.amqp_base.specs.Typing.{is_of}
use Rattle.amqp_base.proofs.KindPlaces.{same_kind_is}
use Rattle.amqp_read.specs.Reading.{Reading}
use Rattle.amqp_de.specs.Decoding.{Decoding, stands_under}
use Rattle.amqp_base.specs.Refusing.{Refusing, scalar_refusal}
use Rattle.amqp_de.specs.Law.{Found, Missed, Named, Spent, free, refused_free}
use Rattle.amqp_data.specs.Excuses.{Excused, Advances}
use Rattle.amqp_base.specs.Parse.{Parsed, byte_under, behind_byte, item_at, data_at}
use Rattle.amqp_de.specs.Steps.{Begins, BeginsNot, Exact, IsDescribed, Stops}
use Rattle.amqp_data.specs.Steps.{IsData, Rejects, BytesFirst}
use Rattle.amqp_data.proofs.Readings.{advances_then, onward, takes_then, behind, excused_before, excused_more}
use Rattle.amqp_data.proofs.Data.{understands, behind_code}

-- the state once the item's data were consumed
abbrev pub answered : Decoding → Reading → Decoding
answered mid r = record { reading = r; ended = false; inherited = mid.inherited; described = mid.described; begun = mid.begun }

-- and where they were refused
abbrev pub refused : Decoding → Reading → Decoding
refused mid r = record { reading = r; ended = mid.ended; inherited = mid.inherited; described = mid.described; begun = mid.begun }

pub free_refused : (c : Constructor) (n m : ℕ) → n ≤ m + free c → n ≤ m + refused_free c
free_refused bare n m h = omega (arith, h)
free_refused (under e) n m h = h
free_refused (under_pair d e) n m h = h

pub one_refused : (c : Constructor) → 1 ≤ refused_free c
one_refused bare = omega arith
one_refused (under e) = omega arith
one_refused (under_pair d e) = omega arith

pub spent_refused : (old new : Decoding) → Spent (free (stands_under old)) old new → Spent (refused_free (stands_under old)) old new
spent_refused old new s = record { most = free_refused (stands_under old) _ _ s.most }

pub begun_spent : (old mid new : Decoding) (b : ℕ) → Begins old mid b → Advances mid.reading new.reading → new.begun ≡ mid.begun → Spent (free (stands_under old)) old new
begun_spent old mid new x b s q = record { most = omega (arith, b.begun, b.room, b.step.taken, s.taken, q) }

-- an item of a kind has no parts
pub of_kind_is : (k : Kind) (i : Item) → IsTrue (is_of k i) → (v : Scalar) × (i ≡ scalar v) × (kind_of v ≡ k)
of_kind_is k (scalar v) t = (v, refl, same_kind_is (kind_of v) k t)
of_kind_is k (list is) t = absurd cc
of_kind_is k (map ps) t = absurd cc
of_kind_is k (array is) t = absurd cc
of_kind_is k (described d v) t = absurd cc

-- where an item stands that isn't described, its byte stands
pub byte_stands : (c : Constructor) (t rest : List ℕ) (i : Item) → (IsDescribed i → ⊥) → Wire lenient c t i → (x : ℕ × List ℕ) × (byte_under c (t ++ rest) ≡ Ok x)
byte_stands bare t rest i d (of_code {x = x} {b = b} p h) = ((x, b ++ rest), refl)
byte_stands bare t rest i d (of_described a b g h) = absurd (d tt)
byte_stands (under e) t rest i d w = (((row e).byte, t ++ rest), refl)
byte_stands (under_pair x e) t rest i d w = ((0, t ++ rest), refl)

-- what was parsed isn't refused
pub not_refused : {A : Type 0} {grows buffers : Bool} (old new : Reading) (p : Parsed A) (x : A × List ℕ) (e : Error) → p ≡ Ok x → (p ≡ Err e) ⊎ Excused grows buffers old new e → Excused grows buffers old new e
not_refused old new p x e h (inl q) = absurd cc (h, q)
not_refused old new p x e h (inr y) = y

or_right : (a b : Bool) → IsTrue b → IsTrue (a || b)
or_right true b h = refl
or_right false b h = h

-- what a call takes has no parts, and its data parse as what is shown of it
pub record ReadsAs {A : Type 0} (takes : Item → Bool) (shown : Scalar → A) (parse : EncodingCodes → List ℕ → Parsed A) : Type 0 where
  pub scalars : (i : Item) → IsTrue (takes i) → (v : Scalar) × (i ≡ scalar v)
  pub understands : (e : EncodingCodes) (t rest : List ℕ) (v : Scalar) → IsTrue (takes (scalar v)) → Wire lenient (under e) t (scalar v) → parse e (t ++ rest) ≡ Ok (shown v, rest)

-- as the item itself
abbrev pub Reads : (Item → Bool) → (EncodingCodes → List ℕ → Parsed Scalar) → Type 0
Reads takes parse = ReadsAs takes (λ v. v) parse

pub reads_kind : (k : Kind) → Reads (is_of k) (data_at k)
reads_kind k = record {
  scalars = λ i t. let p = of_kind_is k i t in (p.0, p.1);
  understands = λ e t rest v h w. understands k e t rest v (same_kind_is (kind_of v) k h) w;
}

scalar_bare : (i : Item) (v : Scalar) → i ≡ scalar v → IsDescribed i → ⊥
scalar_bare i v p d = let q : IsDescribed (scalar v) = rw p at d in q

pub found : (takes : Item → Bool) (v : Scalar) (old mid : Decoding) (r : Reading) (b : ℕ) → IsTrue (takes (scalar v)) → Begins old mid b → IsData b (scalar v) mid.reading r → Found takes (λ i. i ≡ scalar v) old (answered mid r)
found takes v old mid r x h b d = record {
  front = λ a. record {
    item = scalar v;
    text = b.text ++ d.text;
    spelled = b.whole d.code d.text (scalar v) d.code_is d.spelled;
    taken = h;
    value = refl;
    step = takes_then old.reading mid.reading r b.text d.text b.step d.step;
    not_ended = refl;
    inherited = b.inherited;
    described = b.described;
    begun = b.begun ∙ ap (λ (n : ℕ). old.begun + n) (sym (b.counts d.code (scalar v) d.code_is));
  };
  spent = λ a. begun_spent old mid (answered mid r) x b (onward d.step) refl;
  steady = advances_then old.reading mid.reading r (onward b.step) (onward d.step);
}

-- no byte
pub missed_byte : {A : Type 0} {takes : Item → Bool} {shown : Scalar → A} {parse : EncodingCodes → List ℕ → Parsed A} (grows buffers : Bool) (old new : Decoding) (e : Error) → ReadsAs takes shown parse → BeginsNot buffers old new e → Missed takes (grows || buffers) buffers old new e
missed_byte grows buffers old new e g n = record {
  why = λ a i t rest w q at h.
      let p = g.scalars i q in
      let s = byte_stands (stands_under old) t rest i (scalar_bare i p.0 p.1) w in
      excused_more old.reading new.reading e (or_right grows buffers) (not_refused old.reading new.reading _ s.0 e s.1 (n.rejects.why (t ++ rest) at h));
  spent = λ a. record { most = let f = n.few in let t = n.rejects.steady.taken in omega (arith, f, t, one_refused (stands_under old)) };
  steady = n.rejects.steady;
  device = n.rejects.device;
  memory = λ m. or_right grows buffers (n.rejects.memory m);
}

-- no data
pub missed_data : {A : Type 0} {takes : Item → Bool} {shown : Scalar → A} (parse : EncodingCodes → List ℕ → Parsed A) (grows buffers : Bool) (old mid : Decoding) (r : Reading) (b : ℕ) (e : Error) → ReadsAs takes shown parse → Begins old mid b → Rejects grows buffers (behind_byte parse b) mid.reading r e
    → Missed takes grows buffers old (refused mid r) e
missed_data {takes = takes} parse grows buffers old mid r x e g b n = record {
  why = λ a i t rest w q at h.
      let p = g.scalars i q in
      let o = b.only t rest i (scalar_bare i p.0 p.1) w at in
      let v : Wire lenient (under o.0) o.1 (scalar p.0) = subst (λ (z : Item). Wire lenient (under o.0) o.1 z) p.1 o.3 in
      let taken : IsTrue (takes (scalar p.0)) = rw p.1 at q in
      let parsed = behind_code parse x o.0 (o.1 ++ rest) o.2 ∙ g.understands o.0 o.1 rest p.0 taken v in
      excused_before old.reading mid.reading r b.text e b.step (not_refused mid.reading r _ _ e parsed (n.why (o.1 ++ rest) o.4 (b.step.steady.honest ∙ h)));
  spent = λ a. spent_refused old (refused mid r) (begun_spent old mid (refused mid r) x b n.steady refl);
  steady = advances_then old.reading mid.reading r (onward b.step) n.steady;
  device = λ d. let f = b.step.steady.faults in let g = n.device d in omega (arith, f, g);
  memory = n.memory;
}

-- the exact answers
parsed_item : {A : Type 0} (parse : EncodingCodes → List ℕ → Parsed A) (c : Constructor) (s : List ℕ) (b : ℕ) (rest : List ℕ) (z : Parsed A) → byte_under c s ≡ Ok (b, rest) → behind_byte parse b rest ≡ z → item_at parse c s ≡ z
parsed_item parse c s b rest z p q = rw p q

pub exact_shown : {V A : Type 0} {takes : Item → Bool} {shown : Scalar → A} (view : V → A) (parse : EncodingCodes → List ℕ → Parsed A) (grows buffers : Bool) (u : V) (v : Scalar) (old mid : Decoding) (r : Reading) (b : ℕ) → ReadsAs takes shown parse → IsTrue (takes (scalar v))
    → shown v ≡ view u → Begins old mid b → IsData b (scalar v) mid.reading r → Exact view grows buffers (item_at parse (stands_under old)) old.reading (Ok u) r
exact_shown {A = A} view parse grows buffers u v old mid r x g h q b d = record {
  answer = λ s at honest.
      let o = b.exact s at in
      let p = behind mid.reading r o.0 d.text d.step o.1 in
      (p.0, p.1, parsed_item parse (stands_under old) s x o.0 _ o.2 (behind_code parse x d.code o.0 d.code_is ∙ (ap (parse d.code) p.2 ∙ (g.understands d.code d.text p.0 v h d.spelled ∙ ap (λ (a : A). Ok (a, p.0)) q))));
}

pub exact_data : {V : Type 0} {takes : Item → Bool} (view : V → Scalar) (parse : EncodingCodes → List ℕ → Parsed Scalar) (grows buffers : Bool) (u : V) (old mid : Decoding) (r : Reading) (b : ℕ) → Reads takes parse → IsTrue (takes (scalar (view u))) → Begins old mid b
    → IsData b (scalar (view u)) mid.reading r → Exact view grows buffers (item_at parse (stands_under old)) old.reading (Ok u) r
exact_data view parse grows buffers u old mid r x g h b d = exact_shown view parse grows buffers u (view u) old mid r x g h refl b d

-- ---- memory is asked for only where no bytes are missing

pub byte_first : {A : Type 0} (parse : EncodingCodes → List ℕ → Parsed A) (buffers : Bool) (old new : Decoding) (e : Error) → BeginsNot buffers old new e → BytesFirst buffers (item_at parse (stands_under old)) old.reading e
byte_first parse buffers old new e n = record { there = λ m. inl (n.rejects.memory m) }

pub item_first : (parse : EncodingCodes → List ℕ → Parsed Scalar) (buffers : Bool) (old mid : Decoding) (x : ℕ) (e : Error) → Begins old mid x → BytesFirst buffers (behind_byte parse x) mid.reading e → BytesFirst buffers (item_at parse (stands_under old)) old.reading e
item_first parse buffers old mid x e b f = record { there = λ m. tell (f.there m) }
  where
    tell : IsTrue buffers ⊎ ((s : List ℕ) → mid.reading.to_come ≡ Some s → behind_byte parse x s ≡ Err (Io UnexpectedEof) → ⊥) → IsTrue buffers ⊎ ((s : List ℕ) → old.reading.to_come ≡ Some s → item_at parse (stands_under old) s ≡ Err (Io UnexpectedEof) → ⊥)
    tell (inl y) = inl y
    tell (inr h) = inr (λ s at p. let o = b.exact s at in h o.0 o.1 (sym (parsed_item parse (stands_under old) s x o.0 _ o.2 refl) ∙ p))

-- ---- refusals by name

unread_item : {A : Type 0} (parse : EncodingCodes → List ℕ → Parsed A) (c : Constructor) (s : List ℕ) (e : Error) → byte_under c s ≡ Err e → item_at parse c s ≡ Err e
unread_item parse c s e p = rw p refl

-- an item is refused by its parse
abbrev pub parse_refusal : {A : Type 0} → (EncodingCodes → List ℕ → Parsed A) → Refusing
parse_refusal parse c s e = item_at parse c s ≡ Err e

pub byte_refused : {A : Type 0} (parse : EncodingCodes → List ℕ → Parsed A) (grows buffers : Bool) (old new : Decoding) (e : Error) → BeginsNot buffers old new e → Named (parse_refusal parse) (grows || buffers) buffers old new e
byte_refused parse grows buffers old new e n = record { why = λ a s at h. tell s (n.rejects.why s at h) }
  where
    tell : (s : List ℕ) → (byte_under (stands_under old) s ≡ Err e) ⊎ Excused buffers buffers old.reading new.reading e → (item_at parse (stands_under old) s ≡ Err e) ⊎ Excused (grows || buffers) buffers old.reading new.reading e
    tell s (inl p) = inl (unread_item parse (stands_under old) s e p)
    tell s (inr y) = inr (excused_more old.reading new.reading e (or_right grows buffers) y)

pub data_refused : {A : Type 0} (parse : EncodingCodes → List ℕ → Parsed A) (grows buffers : Bool) (old mid : Decoding) (r : Reading) (x : ℕ) (e : Error) → Begins old mid x → Rejects grows buffers (behind_byte parse x) mid.reading r e → Named (parse_refusal parse) grows buffers old (refused mid r) e
data_refused parse grows buffers old mid r x e b n = record {
  why = λ a s at h.
      let o = b.exact s at in
      tell s o.0 o.2 (n.why o.0 o.1 (b.step.steady.honest ∙ h));
}
  where
    tell : (s rest : List ℕ) → byte_under (stands_under old) s ≡ Ok (x, rest) → (behind_byte parse x rest ≡ Err e) ⊎ Excused grows buffers mid.reading r e → (item_at parse (stands_under old) s ≡ Err e) ⊎ Excused grows buffers old.reading r e
    tell s rest u (inl p) = inl (parsed_item parse (stands_under old) s x rest _ u p)
    tell s rest u (inr y) = inr (excused_before old.reading mid.reading r b.text e b.step y)

-- so the answer is what the bytes call for
pub refused_exactly : {V A : Type 0} {shows : V → A} (parse : EncodingCodes → List ℕ → Parsed A) (grows buffers : Bool) (old new : Decoding) (e : Error) → old.ended ≡ false → Named (parse_refusal parse) grows buffers old new e
    → Exact shows grows buffers (item_at parse (stands_under old)) old.reading (Err e) new.reading
refused_exactly parse grows buffers old new e a n = record { answer = λ s at h. n.why a s at h }

-- of a kind
pub byte_named : (k : Kind) (grows buffers : Bool) (old new : Decoding) (e : Error) → BeginsNot buffers old new e → Named (scalar_refusal k) (grows || buffers) buffers old new e
unfolding scalar_refusal
byte_named k grows buffers old new e n = byte_refused (data_at k) grows buffers old new e n

pub data_named : (k : Kind) (grows buffers : Bool) (old mid : Decoding) (r : Reading) (x : ℕ) (e : Error) → Begins old mid x → Rejects grows buffers (behind_byte (data_at k) x) mid.reading r e → Named (scalar_refusal k) grows buffers old (refused mid r) e
unfolding scalar_refusal
data_named k grows buffers old mid r x e b n = data_refused (data_at k) grows buffers old mid r x e b n

-- ---- a call of the deserializer's own, which isn't ended

pub goes_on : {A : Type 0} (old new : Decoding) (v : A) → old.ended ≡ false → Stops old (Ok v) new
goes_on old new v n = record { err = tt; if_ended = λ h. absurd cc (n, h) }

pub stops_there : {A : Type 0} (old new : Decoding) (e : Error) → old.ended ≡ false → IsTrue new.ended → Stops {A = A} old (Err e) new
stops_there old new e n h = record { err = h; if_ended = λ g. absurd cc (n, g) }
