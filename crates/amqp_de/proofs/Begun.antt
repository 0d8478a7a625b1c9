-- An item is begun by the byte of its code.
use Rattle.std.proofs.Common.{◌≡◌, ℕ, ◌+◌, ◌<◌, false, List, [], ◌∷◌, ◌++◌, length, Some, Result, Ok, Err, refl, sym, ap, ◌∙◌, arith, inl, inr, ◌⊎◌, true}
use Rattle.std.specs.Prelude.{IfOk}
use Rattle.std.specs.declared.io.ErrorKind.TheVariants.{UnexpectedEof}
use Rattle.amqp_base.specs.declared.error.Error.{Error}
use Rattle.amqp_base.specs.declared.error.Error.TheVariants.{Io}
use Rattle.amqp_base.specs.declared.format_code.EncodingCodes.{EncodingCodes}
use Rattle.amqp_base.specs.declared.format_code.EncodingCodes.TheVariants.{DescribedType}
use Rattle.amqp_base.specs.declared.format_code.Category.{Category}
use Rattle.amqp_base.specs.declared.format_code.Category.TheVariants.{Fixed}
use Rattle.amqp_base.specs.Codes.{Kind, row, code_of}
use Rattle.amqp_base.specs.Value.{payload, read}
use Rattle.amqp_base.proofs.CodeAgain.{code_again}
use Rattle.amqp_base.specs.Item.{Item, Descriptor}
use Rattle.amqp_base.specs.Wire.{bare, under, under_pair, Wire, lenient, of_code, of_described, of_data, of_pair, Data, of_fixed, of_variable, list0, of_list, of_map, of_array, empty_array, fixed}
use Rattle.amqp_base.proofs.Lists.{cons_parts}
use Rattle.amqp_base.proofs.OneFront.{no_code}
use Rattle.amqp_read.specs.Reading.{Reading, Takes}
use Rattle.amqp_de.specs.Decoding.{Decoding, stands_under}
use Rattle.amqp_base.specs.Parse.{byte_at}
use Rattle.amqp_de.specs.Steps.{Begins, IsDescribed}
use Rattle.amqp_data.proofs.Readings.{takes_nothing, behind}

-- data under the described constructor are none
no_described_data : {e : EncodingCodes} {k : Kind} {c : Category} {b : List ℕ} {i : Item} → Data lenient e k c b i → e ≡ DescribedType → k ≡ Kind.described → c ≡ Fixed 0 → ⊥
unfolding payload read row
no_described_data (of_fixed (fixed {b = b} {v = v} l p)) q m n = let f : payload DescribedType b ≡ Some v = rw q at p in absurd cc
no_described_data (of_variable h) q m n = absurd cc
no_described_data list0 q m n = absurd cc
no_described_data (of_list z k b lz lk nk h f) q m n = absurd cc
no_described_data (of_map z k b lz lk nk h f) q m n = absurd cc
no_described_data (of_array z k m b lz lk nk g h f) q o n = absurd cc
no_described_data (empty_array z k b lz lk nk f) q m n = absurd cc

pub under_described : (b : List ℕ) (i : Item) → Wire lenient (under DescribedType) b i → ⊥
unfolding row
under_described b i (of_data h) = no_described_data h refl refl refl

-- the code of a code's byte
pub under_code : (e : EncodingCodes) (b : List ℕ) (i : Item) → Wire lenient (under e) b i → code_of (row e).byte ≡ Some e
under_code e b i w = tell (code_again e)
  where
    tell : (code_of (row e).byte ≡ Some e) ⊎ (e ≡ DescribedType) → code_of (row e).byte ≡ Some e
    tell (inl p) = p
    tell (inr p) = let d : Wire lenient (under DescribedType) b i = rw p at w in absurd (under_described b i d)

some_code : {f e : EncodingCodes} → Some f ≡ Some e → f ≡ e
some_code h = cc

zero_byte : {f : EncodingCodes} → code_of (row DescribedType).byte ≡ Some f → code_of 0 ≡ Some f
unfolding row
zero_byte h = h

-- a byte of its own, which is consumed
wire_code : (t : List ℕ) (i : Item) → (IsDescribed i → ⊥) → Wire lenient bare t i → (x : ℕ) × (e : EncodingCodes) × (b : List ℕ) × (t ≡ x ∷ b) × (code_of x ≡ Some e) × Wire lenient (under e) b i
wire_code t i d (of_code {x = x} {e = e} {b = b} p h) = (x, e, b, refl, p, h)
wire_code t i d (of_described a b g h) = absurd (d tt)

not_pair : (t : List ℕ) (d : Descriptor) (e : EncodingCodes) (i : Item) → (IsDescribed i → ⊥) → Wire lenient (under_pair d e) t i → ⊥
not_pair t d e i n (of_pair h) = n tt

-- the state once an item was begun
abbrev pub begun_from : Decoding → Reading → Decoding
begun_from old r = record { reading = r; ended = true; inherited = old.inherited; described = false; begun = old.begun + 1 }

at_front : (s : List ℕ) (x : ℕ) (r : List ℕ) → s ≡ x ∷ r → byte_at s ≡ Ok (x, r)
at_front s x r h = rw h refl

pub begins_front : (old : Decoding) (r : Reading) (x : ℕ) → stands_under old ≡ bare → Takes old.reading r (x ∷ []) → Begins old (begun_from old r) x
begins_front old r x c t = record {
  text = x ∷ [];
  step = t;
  whole = λ e b i p h. rw c (of_code p h);
  only = λ s rest i d w at.
      let p = wire_code s i d (rw c at w) in
      let k = behind old.reading r (s ++ rest) (x ∷ []) t at in
      let parts = cons_parts p.0 x (p.2 ++ rest) k.0 (ap (λ (z : List ℕ). z ++ rest) (sym p.3) ∙ k.2) in
      (p.1, p.2, ap code_of (sym parts.0) ∙ p.4, p.5, k.1 ∙ ap Some (sym parts.1));
  exact = λ s at. let k = behind old.reading r s (x ∷ []) t at in (k.0, k.1, rw c (at_front s x k.0 k.2));
  inherited = refl;
  described = refl;
  begun = refl;
  ended = refl;
  counts = λ e i p. rw c refl;
  room = rw c (omega arith);
}

pub begins_under : (old : Decoding) (e : EncodingCodes) → stands_under old ≡ under e → Begins old (begun_from old old.reading) (row e).byte
begins_under old e c = record {
  text = [];
  step = takes_nothing old.reading;
  whole = λ f b i p h. let q : f ≡ e = same p (under_code f b i h) (code_again e) in rw (c, ← q) h;
  only = λ s rest i d w at. let v : Wire lenient (under e) s i = rw c at w in (e, s, under_code e s i v, v, at);
  exact = λ s at. (s, at, rw c refl);
  inherited = refl;
  described = refl;
  begun = refl;
  ended = refl;
  counts = λ f i p. rw c refl;
  room = rw c (omega arith);
}
  where
    same : {f : EncodingCodes} → code_of (row e).byte ≡ Some f → code_of (row f).byte ≡ Some f → (code_of (row e).byte ≡ Some e) ⊎ (e ≡ DescribedType) → f ≡ e
    same p q (inl k) = some_code (sym p ∙ k)
    same p q (inr k) = absurd (no_code (let z : code_of (row DescribedType).byte ≡ Some _ = rw k at p in zero_byte z))

pub begins_pair : (old : Decoding) (d : Descriptor) (e : EncodingCodes) → stands_under old ≡ under_pair d e → Begins old (begun_from old old.reading) 0
begins_pair old d e c = record {
  text = [];
  step = takes_nothing old.reading;
  whole = λ f b i p h. absurd (no_code p);
  only = λ s rest i n w at. absurd (not_pair s d e i n (rw c at w));
  exact = λ s at. (s, at, rw c refl);
  inherited = refl;
  described = refl;
  begun = refl;
  ended = refl;
  counts = λ f i p. absurd (no_code p);
  room = rw c (omega arith);
}

-- for each answer of the reader
pub front_ok : (old : Decoding) (r : Reading) (b : Result ℕ Error) → stands_under old ≡ bare → IfOk b (λ x. Takes old.reading r (x ∷ [])) → IfOk b (λ x. Begins old (begun_from old r) x)
front_ok old r (Ok x) c t = begins_front old r x c t
front_ok old r (Err e) c t = tt

no_byte : (s : List ℕ) → length s < 1 → byte_at s ≡ Err (Io UnexpectedEof)
no_byte [] l = refl
no_byte (x ∷ s) l = absurd (omega arith)
