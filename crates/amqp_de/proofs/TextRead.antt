-- Strings and symbols, read as their texts.
use Rattle.std.proofs.Common.{◌≡◌, ℕ, Bool, true, false, ◌||◌, List, ◌++◌, Ok, Err, refl, IsTrue}
use Rattle.amqp_base.specs.declared.error.Error.{Error}
use Rattle.amqp_base.specs.declared.format_code.EncodingCodes.{EncodingCodes}
use Rattle.amqp_base.specs.Canon.{kind_of}
use Rattle.amqp_base.specs.Codes.{Kind, row}
use Rattle.amqp_base.specs.Item.{Item, Scalar, scalar, list, map, array, described, string, symbol}
use Rattle.amqp_base.specs.OneValue.{bytes_in}
use Rattle.amqp_base.specs.SameKind.{same_kind, place}
use Rattle.amqp_base.specs.Wire.{under, Wire, lenient}
use Rattle.amqp_base.proofs.KindPlaces.{same_kind_is}
use Rattle.amqp_types.specs.Texts.{is_text, means_text, text_kind, text_data, text_refusal}
use Rattle.amqp_data.specs.LentTexts.{IsText}
use Rattle.amqp_data.specs.Steps.{Rejects}
use Rattle.amqp_data.proofs.Data.{kind_under, understands}
use Rattle.amqp_base.specs.Parse.{behind_byte}
use Rattle.amqp_read.specs.Reading.{Reading}
use Rattle.amqp_de.specs.Decoding.{Decoding}
use Rattle.amqp_de.specs.Law.{Found, Named}
use Rattle.amqp_de.specs.Scalars.{ReadsText}
use Rattle.amqp_de.specs.Steps.{Begins, BeginsNot}
use Rattle.amqp_de.proofs.Answered.{ReadsAs, answered, refused, found, missed_byte, missed_data, exact_shown, refused_exactly, byte_refused, data_refused, goes_on, stops_there}
use Rattle.amqp_de.proofs.Weaker.{found_as}

text_scalar : (i : Item) → IsTrue (is_text i) → (v : Scalar) × (i ≡ scalar v)
text_scalar (scalar v) t = (v, refl)
text_scalar (list is) t = absurd cc
text_scalar (map ps) t = absurd cc
text_scalar (array is) t = absurd cc
text_scalar (described d v) t = absurd cc

-- the kind of a text's code
own_kind : (e : EncodingCodes) (k : Kind) → (row e).kind ≡ k → IsTrue (same_kind k Kind.string || same_kind k Kind.symbol) → k ≡ text_kind e
own_kind e k h t = tell (same_kind k Kind.symbol) refl
  where
    tell : (b : Bool) → same_kind k Kind.symbol ≡ b → k ≡ text_kind e
    tell true p = rw (h, p) (same_kind_is k Kind.symbol p)
    tell false p = rw (h, p) (same_kind_is k Kind.string (left (same_kind k Kind.string) (rw p at t)))
      where
        left : (b : Bool) → IsTrue (b || false) → b ≡ true
        left true q = refl
        left false q = absurd cc

text_parsed : (e : EncodingCodes) (t rest : List ℕ) (v : Scalar) → IsTrue (is_text (scalar v)) → Wire lenient (under e) t (scalar v) → text_data e (t ++ rest) ≡ Ok (bytes_in (scalar v), rest)
unfolding text_data
text_parsed e t rest v h w = rw (understands (text_kind e) e t rest v (own_kind e (kind_of v) (kind_under w) h) w) refl

pub reads_text : ReadsAs is_text (λ v. bytes_in (scalar v)) text_data
reads_text = record { scalars = text_scalar; understands = text_parsed }

pub text_taken : (v : Scalar) (b : List ℕ) → means_text (scalar v) b → IsTrue (is_text (scalar v))
unfolding same_kind place
text_taken (string x) b m = refl
text_taken (symbol x) b m = refl
text_taken v b m = absurd m

pub text_bytes : (v : Scalar) (b : List ℕ) → means_text (scalar v) b → bytes_in (scalar v) ≡ b
text_bytes (string x) b m = m
text_bytes (symbol x) b m = m
text_bytes v b m = absurd m

pub text_found : (b : List ℕ) (old mid : Decoding) (r : Reading) (x : ℕ) → Begins old mid x → IsText x b mid.reading r → Found is_text (λ i. means_text i b) old (answered mid r)
text_found b old mid r x g d = found_as is_text is_text (λ i. i ≡ scalar d.value) (λ i. means_text i b) old (answered mid r) (λ i t q. (t, rw q d.text)) (found is_text d.value old mid r x (text_taken d.value b d.text) g d.is)

-- refusals by name
pub byte_text : (old new : Decoding) (e : Error) → BeginsNot false old new e → Named text_refusal false false old new e
unfolding text_refusal
byte_text old new e n = byte_refused text_data false false old new e n

pub data_text : (old mid : Decoding) (r : Reading) (x : ℕ) (e : Error) → Begins old mid x → Rejects false false (behind_byte text_data x) mid.reading r e → Named text_refusal false false old (refused mid r) e
unfolding text_refusal
data_text old mid r x e b n = data_refused text_data false false old mid r x e b n

-- ---- what the call answers

pub text_answered : {V : Type 0} (shows : V → List ℕ) (u : V) (old mid : Decoding) (r : Reading) (x : ℕ) → old.ended ≡ false → Begins old mid x → IsText x (shows u) mid.reading r → ReadsText shows old (Ok u) (answered mid r)
text_answered shows u old mid r x n b d = record {
  ok = text_found (shows u) old mid r x b d;
  err = tt;
  named = tt;
  exact = λ _. exact_shown shows text_data false false u d.value old mid r x reads_text (text_taken d.value (shows u) d.text) (text_bytes d.value (shows u) d.text) b d.is;
  stops = goes_on old (answered mid r) u n;
}

pub text_unread : {V : Type 0} (shows : V → List ℕ) (old mid : Decoding) (r : Reading) (x : ℕ) (e : Error) → old.ended ≡ false → Begins old mid x → Rejects false false (behind_byte text_data x) mid.reading r e → ReadsText shows old (Err e) (refused mid r)
text_unread shows old mid r x e n b d = record {
  ok = tt;
  err = missed_data text_data false false old mid r x e reads_text b d;
  named = data_text old mid r x e b d;
  exact = λ a. refused_exactly text_data false false old (refused mid r) e a (data_refused text_data false false old mid r x e b d);
  stops = stops_there old (refused mid r) e n b.ended;
}

pub no_text_byte : {V : Type 0} (shows : V → List ℕ) (old new : Decoding) (e : Error) → old.ended ≡ false → BeginsNot false old new e → ReadsText shows old (Err e) new
no_text_byte shows old new e n b = record {
  ok = tt;
  err = missed_byte false false old new e reads_text b;
  named = byte_text old new e b;
  exact = λ a. refused_exactly text_data false false old new e a (byte_refused text_data false false old new e b);
  stops = stops_there old new e n b.ended;
}
