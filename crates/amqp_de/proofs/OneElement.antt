-- An array, or any other item as its one element.
use Rattle.std.proofs.Common.{◌≡◌, ◌⊎◌, ℕ, Bool, true, List, [], ◌∷◌, Ok, Err, IsTrue, refl, sym, inl, inr, ◌∙◌}
use Rattle.amqp_base.specs.declared.error.Error.{Error}
use Rattle.amqp_base.specs.declared.error.Error.TheVariants.{OutOfMemory}
use Rattle.amqp_base.specs.declared.format_code.EncodingCodes.{EncodingCodes}
use Rattle.amqp_base.specs.Codes.{Kind, row}
use Rattle.amqp_base.specs.Canon.{kind_of}
use Rattle.amqp_base.specs.Item.{Scalar, null, boolean, ubyte, ushort, uint, ulong, byte, short, int, long, float, double, decimal32, decimal64, decimal128, char, timestamp, uuid, binary, string, symbol, Item, scalar, list, map, array, described}
use Rattle.amqp_base.specs.Refusals.{IsDevice}
use Rattle.amqp_base.specs.Typing.{is_seq_of, means_seq, takes_array, means_array}
use Rattle.amqp_base.specs.Wire.{Wire, lenient}
use Rattle.amqp_de.specs.Decoding.{Decoding, stands_under}
use Rattle.amqp_de.specs.Law.{Front, Found, Missed, Named}
use Rattle.amqp_data.specs.Excuses.{Excused, no_memory}
use Rattle.amqp_de.specs.Look.{item_kind, Looks, LooksNot}
use Rattle.amqp_base.specs.Parse.{code_at}
use Rattle.amqp_base.specs.Refusing.{Refusing, array_refusal, seq_refusal, no_code, of_array, of_one}
use Rattle.amqp_de.proofs.Answered.{spent_refused}
use Rattle.amqp_de.proofs.Naming.{named_behind}
use Rattle.amqp_data.proofs.Readings.{excused_more}
use Rattle.amqp_data.proofs.Received.{may_taken}
use Rattle.amqp_de.proofs.LookedFirst.{same_place, found_behind, missed_of_kind, missed_unseen}
use Rattle.amqp_de.proofs.Weaker.{found_of}

scalar_kind : (v : Scalar) → kind_of v ≡ Kind.array → ⊥
scalar_kind null h = absurd cc
scalar_kind (boolean x) h = absurd cc
scalar_kind (ubyte x) h = absurd cc
scalar_kind (ushort x) h = absurd cc
scalar_kind (uint x) h = absurd cc
scalar_kind (ulong x) h = absurd cc
scalar_kind (byte x) h = absurd cc
scalar_kind (short x) h = absurd cc
scalar_kind (int x) h = absurd cc
scalar_kind (long x) h = absurd cc
scalar_kind (float x) h = absurd cc
scalar_kind (double x) h = absurd cc
scalar_kind (decimal32 x) h = absurd cc
scalar_kind (decimal64 x) h = absurd cc
scalar_kind (decimal128 x) h = absurd cc
scalar_kind (char x) h = absurd cc
scalar_kind (timestamp x) h = absurd cc
scalar_kind (uuid x) h = absurd cc
scalar_kind (binary x) h = absurd cc
scalar_kind (string x) h = absurd cc
scalar_kind (symbol x) h = absurd cc

as_array : {T : Type 0} (takes : Item → Bool) (means : Item → T → Type 0) (vs : List T) (i : Item) → item_kind i ≡ Kind.array → IsTrue (is_seq_of takes i) → means_seq means i vs → IsTrue (takes_array takes i) × means_array means i vs
as_array takes means vs (array is) k t m = (t, m)
as_array takes means vs (list is) k t m = absurd cc
as_array takes means vs (map ps) k t m = absurd cc
as_array takes means vs (scalar v) k t m = absurd cc
as_array takes means vs (described d v) k t m = absurd cc

pub array_found : {T : Type 0} (takes : Item → Bool) (means : Item → T → Type 0) (vs : List T) (old mid new : Decoding) (x : EncodingCodes) → (row x).kind ≡ Kind.array → Looks old mid x → Found (is_seq_of takes) (λ i. means_seq means i vs) mid new → Found (takes_array takes) (λ i. means_array means i vs) old new
array_found takes means vs old mid new x n l f = found_behind (takes_array takes) (λ i. means_array means i vs) old mid new x l (found_of (is_seq_of takes) (takes_array takes) (λ i. means_seq means i vs) (λ i. means_array means i vs) mid new here f)
  where
    here : (o : Front (is_seq_of takes) (λ i. means_seq means i vs) mid new) → IsTrue (takes_array takes o.item) × means_array means o.item vs
    here o =
        let w : Wire lenient (stands_under old) o.text o.item = rw (same_place old mid x l) at (o.spelled) in
        as_array takes means vs o.item (sym (l.kind o.item o.text w (may_taken mid.reading new.reading o.text o.step)) ∙ n) o.taken o.value

as_one : {T : Type 0} (takes : Item → Bool) (means : Item → T → Type 0) (v : T) (i : Item) → (item_kind i ≡ Kind.array → ⊥) → IsTrue (takes i) → means i v → IsTrue (takes_array takes i) × means_array means i (v ∷ [])
as_one takes means v (array is) n t m = absurd (n refl)
as_one takes means v (list is) n t m = (t, (m, tt))
as_one takes means v (map ps) n t m = (t, (m, tt))
as_one takes means v (scalar s) n t m = (t, (m, tt))
as_one takes means v (described d j) n t m = (t, (m, tt))

pub one_found : {T : Type 0} (takes : Item → Bool) (means : Item → T → Type 0) (v : T) (vs : List T) (old mid new : Decoding) (x : EncodingCodes) → ((row x).kind ≡ Kind.array → ⊥) → vs ≡ v ∷ [] → Looks old mid x → Found takes (λ i. means i v) mid new → Found (takes_array takes) (λ i. means_array means i vs) old new
one_found takes means v vs old mid new x n h l f = rw h (found_behind (takes_array takes) (λ i. means_array means i (v ∷ [])) old mid new x l (found_of takes (takes_array takes) (λ i. means i v) (λ i. means_array means i (v ∷ [])) mid new here f))
  where
    here : (o : Front takes (λ i. means i v) mid new) → IsTrue (takes_array takes o.item) × means_array means o.item (v ∷ [])
    here o =
        let w : Wire lenient (stands_under old) o.text o.item = rw (same_place old mid x l) at (o.spelled) in
        as_one takes means v o.item (λ k. n (l.kind o.item o.text w (may_taken mid.reading new.reading o.text o.step) ∙ k)) o.taken o.value

as_seq : (takes : Item → Bool) (i : Item) → item_kind i ≡ Kind.array → IsTrue (takes_array takes i) → IsTrue (is_seq_of takes i)
as_seq takes (array is) k t = t
as_seq takes (list is) k t = absurd cc
as_seq takes (map ps) k t = absurd cc
as_seq takes (scalar v) k t = absurd (scalar_kind v k)
as_seq takes (described d v) k t = absurd cc

as_itself : (takes : Item → Bool) (i : Item) → (item_kind i ≡ Kind.array → ⊥) → IsTrue (takes_array takes i) → IsTrue (takes i)
as_itself takes (array is) n t = absurd (n refl)
as_itself takes (list is) n t = t
as_itself takes (map ps) n t = t
as_itself takes (scalar v) n t = t
as_itself takes (described d v) n t = t

pub array_missed : (takes : Item → Bool) (buffers : Bool) (old mid new : Decoding) (x : EncodingCodes) (e : Error) → (row x).kind ≡ Kind.array → Looks old mid x → Missed (is_seq_of takes) true buffers mid new e → Missed (takes_array takes) true buffers old new e
array_missed takes buffers old mid new x e n l m = missed_of_kind (is_seq_of takes) (takes_array takes) true true buffers old mid new x e (λ h. h) (λ i k q. as_seq takes i (sym k ∙ n) q) l m

pub one_missed : (takes : Item → Bool) (grows buffers : Bool) (old mid new : Decoding) (x : EncodingCodes) (e : Error) → ((row x).kind ≡ Kind.array → ⊥) → Looks old mid x → Missed takes grows buffers mid new e → Missed (takes_array takes) true buffers old new e
one_missed takes grows buffers old mid new x e n l m = missed_of_kind takes (takes_array takes) grows true buffers old mid new x e (λ _. refl) (λ i k q. as_itself takes i (λ h. n (k ∙ h)) q) l m

-- no memory was there for the one element
pub no_room : (takes : Item → Bool) (means : Item → Type 0) (buffers : Bool) (old mid new : Decoding) (x : EncodingCodes) (e : Error) → e ≡ OutOfMemory → Looks old mid x → Found takes means mid new → Missed (takes_array takes) true buffers old new e
no_room takes means buffers old mid new x e h l f =
    let g = found_behind takes means old mid new x l f in
    record {
      why = λ a i t rest w q at o. no_memory h refl;
      spent = λ a. spent_refused old new (g.spent a);
      steady = g.steady;
      device = λ d. absurd (let z : IsDevice OutOfMemory = rw h at d in z);
      memory = λ _. refl;
    }

pub unseen : (takes : Item → Bool) (buffers : Bool) (old new : Decoding) (e : Error) → LooksNot buffers old new e → Missed (takes_array takes) true buffers old new e
unseen takes buffers old new e n = missed_unseen (takes_array takes) true buffers old new e (λ _. refl) n

-- ---- refusals by name

pub unseen_as : (takes : Item → Bool) (refuses : Refusing) (buffers : Bool) (old new : Decoding) (e : Error) → LooksNot buffers old new e → Named (array_refusal takes refuses) true buffers old new e
unseen_as takes refuses buffers old new e n = record { why = λ a s at h. tell s ((n.rejects a).why s at h) }
  where
    tell : (s : List ℕ) → (code_at (stands_under old) s ≡ Err e) ⊎ Excused buffers buffers old.reading new.reading e → array_refusal takes refuses (stands_under old) s e ⊎ Excused true buffers old.reading new.reading e
    tell s (inl p) = inl (no_code p)
    tell s (inr y) = inr (excused_more old.reading new.reading e (λ _. refl) y)

-- behind a look
pub named_looked : {refuses some : Refusing} {grows buffers : Bool} (old mid new : Decoding) (x : EncodingCodes) (e : Error) → Looks old mid x → ((s rest : List ℕ) → code_at (stands_under old) s ≡ Ok (x, rest) → refuses (stands_under old) s e → some (stands_under old) s e)
    → Named refuses grows buffers mid new e → Named some true buffers old new e
named_looked {refuses} {some} {grows} {buffers} old mid new x e l hand n =
    let m = named_behind refuses grows buffers old mid new x e l n in
    record { why = λ a s at h. let k = l.exact s at in tell s k.0 k.1 (m.why a s at h) }
  where
    tell : (s rest : List ℕ) → code_at (stands_under old) s ≡ Ok (x, rest) → refuses (stands_under old) s e ⊎ Excused grows buffers old.reading new.reading e → some (stands_under old) s e ⊎ Excused true buffers old.reading new.reading e
    tell s rest k (inl p) = inl (hand s rest k p)
    tell s rest k (inr y) = inr (excused_more old.reading new.reading e (λ _. refl) y)

pub array_as : (takes : Item → Bool) (refuses : Refusing) (buffers : Bool) (old mid new : Decoding) (x : EncodingCodes) (e : Error) → (row x).kind ≡ Kind.array → Looks old mid x → Named (seq_refusal takes refuses) true buffers mid new e → Named (array_refusal takes refuses) true buffers old new e
array_as takes refuses buffers old mid new x e k l n = named_looked old mid new x e l (λ s rest q p. of_array x rest q k p) n

pub one_as : {grows : Bool} (takes : Item → Bool) (refuses : Refusing) (buffers : Bool) (old mid new : Decoding) (x : EncodingCodes) (e : Error) → ((row x).kind ≡ Kind.array → ⊥) → Looks old mid x → Named refuses grows buffers mid new e → Named (array_refusal takes refuses) true buffers old new e
one_as takes refuses buffers old mid new x e k l n = named_looked old mid new x e l (λ s rest q p. of_one x rest q k p) n
