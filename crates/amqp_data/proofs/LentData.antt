-- Payloads that a slice lends.
use Rattle.std.proofs.Common.{◌≡◌, ℕ, Bool, true, false, if◌then◌else◌, List, Some, None, Result, Ok, Err, refl, inl, inr, ◌⊎◌}
use Rattle.std.specs.Prelude.{IfOk, IfErr}
use Rattle.std.specs.Str.{is_utf8}
use Rattle.std.specs.declared.io.ErrorKind.TheVariants.{UnexpectedEof}
use Rattle.amqp_base.specs.declared.error.Error.{Error}
use Rattle.amqp_base.specs.declared.error.Error.TheVariants.{Io, InvalidFormatCode, InvalidUtf8Encoding}
use Rattle.amqp_base.specs.declared.format_code.EncodingCodes.{EncodingCodes}
use Rattle.amqp_base.specs.declared.format_code.EncodingCodes.TheVariants.{DescribedType}
use Rattle.amqp_base.specs.declared.format_code.Category.TheVariants.{Variable}
use Rattle.amqp_base.specs.Codes.{Kind, row, code_of}
use Rattle.amqp_base.specs.SameKind.{same_kind, place}
use Rattle.amqp_base.specs.Item.{Scalar, scalar}
use Rattle.amqp_base.specs.Parse.{sized_at, text_at, bad_payload, data_at, behind_byte}
use Rattle.amqp_base.specs.Value.{payload}
use Rattle.amqp_base.proofs.KindPlaces.{same_kind_is}
use Rattle.amqp_read.specs.Reading.{Reading}
use Rattle.amqp_read.specs.Steps.{ShortOf}
use Rattle.amqp_types.specs.Texts.{means_text, text_kind, its_bytes, text_data}
use Rattle.amqp_data.specs.LentTexts.{IsText}
use Rattle.amqp_data.specs.Steps.{Rejects, Number, Text}
use Rattle.amqp_data.proofs.FixedWidth.{other_byte, other_kind, not_device}
use Rattle.amqp_data.proofs.Readings.{stays_same, rejects_here}
use Rattle.amqp_data.proofs.Sized.{payload_refused, text_ok, refused_data, text_data_refused, passed_on}

-- the length isn't followed by as many bytes
pub lent_err : {V : Type 0} (w n : ℕ) (old mid new : Reading) (r : Result V Error) → Number w n old mid → IfErr r (λ e. (e ≡ Io UnexpectedEof) × ShortOf n mid.to_come × (new ≡ mid)) → IfErr r (λ e. Rejects false false (sized_at w) old new e)
lent_err w n old mid new (Ok v) d t = tt
lent_err w n old mid new (Err e) d t = payload_refused false w n old mid new e d (rw t.2 (stays_same mid)) (inl (t.0, λ h. t.1))

-- ---- of a string or a symbol

pub is_text_ok : {V : Type 0} (view : V → List ℕ) (con : List ℕ → Scalar) (x : ℕ) (e : EncodingCodes) (w : ℕ) (r : Result V Error) (old new : Reading) → code_of x ≡ Some e → (row e).category ≡ Variable w → ((b : List ℕ) → payload e b ≡ (if is_utf8 b then Some (con b) else None))
    → ((b : List ℕ) → means_text (scalar (con b)) b) → IfOk r (λ v. Text w (view v) old new) → IfOk r (λ v. IsText x (view v) old new)
is_text_ok view con x e w (Ok v) old new c k p m t = record { value = con (view v); text = m (view v); is = text_ok view con x e w (Ok v) old new c k p t }
is_text_ok view con x e w (Err f) old new c k p m t = tt

-- data of a string's or a symbol's code are refused as its kind's
text_of_kind : (k : Kind) (e : EncodingCodes) (s : List ℕ) (err : Error) → text_kind e ≡ k → data_at k e s ≡ Err err → text_data e s ≡ Err err
unfolding text_data
text_of_kind k e s err h p = rw h (passed_on (data_at k e s) its_bytes err p)

pub text_data_err : {V : Type 0} (k : Kind) (con : List ℕ → Scalar) (x : ℕ) (e : EncodingCodes) (w : ℕ) (r : Result V Error) (old new : Reading) → code_of x ≡ Some e → (row e).kind ≡ k → text_kind e ≡ k → (row e).category ≡ Variable w
    → bad_payload (row e).kind ≡ InvalidUtf8Encoding → ((b : List ℕ) → payload e b ≡ (if is_utf8 b then Some (con b) else None))
    → IfErr r (λ err. Rejects false false (text_at w) old new err) → IfErr r (λ err. Rejects false false (behind_byte text_data x) old new err)
text_data_err k con x e w r old new c h t l n f q = refused_data text_data false false x e (text_at w) r old new c (λ s err p. text_of_kind k e s err t (text_data_refused k e con w h l n f s err p)) q

-- a byte of another code, or of none
other_text : (e : EncodingCodes) (s : List ℕ) → ((row e).kind ≡ Kind.string → ⊥) → ((row e).kind ≡ Kind.symbol → ⊥) → text_data e s ≡ Err InvalidFormatCode
other_text e s m n = tell (same_kind (row e).kind Kind.symbol) refl
  where
    tell : (t : Bool) → same_kind (row e).kind Kind.symbol ≡ t → text_data e s ≡ Err InvalidFormatCode
    tell true h = absurd (n (same_kind_is (row e).kind Kind.symbol h))
    tell false h = text_of_kind Kind.string e s InvalidFormatCode (rw h refl) (other_kind Kind.string e s m)

described_text : (s : List ℕ) → text_data DescribedType s ≡ Err InvalidFormatCode
unfolding text_data data_at row same_kind place
described_text s = refl

pub no_text : {grows buffers : Bool} (b : ℕ) (r : Reading) → ((e : EncodingCodes) → code_of b ≡ Some e → (row e).kind ≡ Kind.string → ⊥) → ((e : EncodingCodes) → code_of b ≡ Some e → (row e).kind ≡ Kind.symbol → ⊥) → Rejects grows buffers (behind_byte text_data b) r r InvalidFormatCode
no_text b r m n = rejects_here (behind_byte text_data b) r InvalidFormatCode not_device (λ s. other_byte text_data b s (tell s))
  where
    tell : (s : List ℕ) (e : EncodingCodes) → (code_of b ≡ Some e) ⊎ (e ≡ DescribedType) → text_data e s ≡ Err InvalidFormatCode
    tell s e (inl h) = other_text e s (m e h) (n e h)
    tell s e (inr h) = rw h (described_text s)
