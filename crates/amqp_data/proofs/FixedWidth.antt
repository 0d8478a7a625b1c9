-- Data of a fixed width.
use Rattle.std.proofs.Common.{◌≡◌, ℕ, zero, suc, ◌<◌, Bool, true, false, if◌then◌else◌, List, ◌++◌, length, Option, Some, None, Ok, Err, refl, sym, subst, ◌∙◌, inl, inr, ◌⊎◌}
use Rattle.std.specs.declared.io.ErrorKind.TheVariants.{UnexpectedEof}
use Rattle.amqp_base.specs.declared.error.Error.{Error}
use Rattle.amqp_base.specs.declared.error.Error.TheVariants.{Io, InvalidFormatCode, Message, OutOfMemory}
use Rattle.amqp_base.specs.declared.format_code.EncodingCodes.{EncodingCodes}
use Rattle.amqp_base.specs.declared.format_code.EncodingCodes.TheVariants.{DescribedType}
use Rattle.amqp_base.specs.declared.format_code.Category.{Category}
use Rattle.amqp_base.specs.declared.format_code.Category.TheVariants.{Fixed}
use Rattle.amqp_base.specs.Codes.{Kind, row, code_of}
use Rattle.amqp_base.specs.SameKind.{same_kind}
use Rattle.amqp_base.specs.Item.{Scalar, scalar}
use Rattle.amqp_base.specs.Value.{payload}
use Rattle.amqp_base.specs.Wire.{lenient, under, Wire, of_data, Data, of_fixed, fixed}
use Rattle.amqp_base.proofs.KindPlaces.{same_kind_is, kind_same}
use Rattle.amqp_data.specs.Excuses.{IsCause}
use Rattle.amqp_read.specs.Reading.{Reading, Takes, Stays}
use Rattle.amqp_read.specs.Steps.{NotTaken}
use Rattle.amqp_base.specs.Parse.{Parsed, any_code, behind_byte, bad_payload, data_at, by_category}
use Rattle.amqp_data.specs.Steps.{IsData, Rejects}
use Rattle.amqp_data.proofs.Readings.{unread_rejects, rejects_here, rejects_after}
use Rattle.amqp_data.proofs.Data.{bytes_there, bytes_short, behind_code}
use Rattle.amqp_base.specs.Refusals.{IsCustom, IsDevice}

-- as many bytes as the code says spell an item
pub fixed_spells : (e : EncodingCodes) (w : ℕ) (x : List ℕ) (v : Scalar) → (row e).category ≡ Fixed w → length x ≡ w → payload e x ≡ Some v → Wire lenient (under e) x (scalar v)
fixed_spells e w x v k l p = of_data (subst (λ (z : Category). Data lenient e (row e).kind z x (scalar v)) (sym k) (of_fixed (fixed l p)))

pub fixed_is : (b : ℕ) (e : EncodingCodes) (w : ℕ) (x : List ℕ) (v : Scalar) (old new : Reading) → code_of b ≡ Some e → (row e).category ≡ Fixed w → length x ≡ w → payload e x ≡ Some v → Takes old new x → IsData b (scalar v) old new
fixed_is b e w x v old new c k l p t = record {
  code = e;
  code_is = c;
  text = x;
  spelled = fixed_spells e w x v k l p;
  step = t;
}

short_data : (k : Kind) (e : EncodingCodes) (w : ℕ) (s : List ℕ) → (row e).kind ≡ k → (row e).category ≡ Fixed w → length s < w → data_at k e s ≡ Err (Io UnexpectedEof)
unfolding data_at
short_data k e w s h c l = rw (kind_same (row e).kind k h, c, bytes_short w s l) refl

pub fixed_refused : {grows buffers : Bool} (k : Kind) (b : ℕ) (e : EncodingCodes) (w : ℕ) (old new : Reading) (err : Error) → code_of b ≡ Some e → (row e).kind ≡ k → (row e).category ≡ Fixed w
    → Stays old new → NotTaken grows buffers w old new err → Rejects grows buffers (behind_byte (data_at k) b) old new err
fixed_refused k b e w old new err c h f s u =
    unread_rejects (behind_byte (data_at k) b) w old new err (λ t l. behind_code (data_at k) b e t c ∙ short_data k e w t h f l) (record { stays = s; why = u })

-- bytes that are no payload of their code
bad_data : (k : Kind) (e : EncodingCodes) (w : ℕ) (x s : List ℕ) → (row e).kind ≡ k → (row e).category ≡ Fixed w → length x ≡ w → payload e x ≡ None → data_at k e (x ++ s) ≡ Err (bad_payload (row e).kind)
unfolding data_at
bad_data k e w x s h c l p = rw (kind_same (row e).kind k h, c, bytes_there w x s l, p) refl

pub fixed_bad : {grows buffers : Bool} (k : Kind) (b : ℕ) (e : EncodingCodes) (w : ℕ) (x : List ℕ) (old new : Reading) → code_of b ≡ Some e → (row e).kind ≡ k → (row e).category ≡ Fixed w → length x ≡ w → payload e x ≡ None → (IsCause (bad_payload (row e).kind) → ⊥)
    → Takes old new x → Rejects grows buffers (behind_byte (data_at k) b) old new (bad_payload (row e).kind)
fixed_bad k b e w x old new c h f l p d t = rejects_after (behind_byte (data_at k) b) old new x (bad_payload (row e).kind) t d (λ s. behind_code (data_at k) b e (x ++ s) c ∙ bad_data k e w x s h f l p)

-- a byte of no code, or of a code of another kind
pub other_kind : (k : Kind) (e : EncodingCodes) (s : List ℕ) → ((row e).kind ≡ k → ⊥) → data_at k e s ≡ Err InvalidFormatCode
unfolding data_at
other_kind k e s n = tell (same_kind (row e).kind k) refl
  where
    tell : (t : Bool) → same_kind (row e).kind k ≡ t → (if same_kind (row e).kind k then by_category e (row e).category s else Err InvalidFormatCode) ≡ Err InvalidFormatCode
    tell true h = absurd (n (same_kind_is (row e).kind k h))
    tell false h = rw h refl

described_kind : (k : Kind) (s : List ℕ) → (k ≡ Kind.described → ⊥) → data_at k DescribedType s ≡ Err InvalidFormatCode
unfolding row
described_kind k s n = other_kind k DescribedType s (λ h. n (sym h))

no_code_here : {A : Type 0} (parse : EncodingCodes → List ℕ → Parsed A) (b : ℕ) (s : List ℕ) → any_code b ≡ Err InvalidFormatCode → behind_byte parse b s ≡ Err InvalidFormatCode
no_code_here parse b s h = rw h refl

a_code_here : {A : Type 0} (parse : EncodingCodes → List ℕ → Parsed A) (b : ℕ) (e : EncodingCodes) (s : List ℕ) → any_code b ≡ Ok e → behind_byte parse b s ≡ parse e s
a_code_here parse b e s h = rw h refl

by_code : (b : ℕ) (o : Option EncodingCodes) → code_of b ≡ o → (any_code b ≡ Err InvalidFormatCode) ⊎ ((e : EncodingCodes) × (any_code b ≡ Ok e) × ((code_of b ≡ Some e) ⊎ (e ≡ DescribedType)))
unfolding any_code
by_code zero o h = inr (DescribedType, refl, inr refl)
by_code (suc n) (Some e) h = inr (e, rw h refl, inl h)
by_code (suc n) None h = inl (rw h refl)

pub other_byte : {A : Type 0} (parse : EncodingCodes → List ℕ → Parsed A) (b : ℕ) (s : List ℕ) → ((e : EncodingCodes) → (code_of b ≡ Some e) ⊎ (e ≡ DescribedType) → parse e s ≡ Err InvalidFormatCode) → behind_byte parse b s ≡ Err InvalidFormatCode
other_byte {A} parse b s n = tell (by_code b (code_of b) refl)
  where
    tell : (any_code b ≡ Err InvalidFormatCode) ⊎ ((e : EncodingCodes) × (any_code b ≡ Ok e) × ((code_of b ≡ Some e) ⊎ (e ≡ DescribedType))) → behind_byte parse b s ≡ Err InvalidFormatCode
    tell (inl h) = no_code_here parse b s h
    tell (inr h) = a_code_here parse b h.0 s h.1 ∙ n h.0 h.2

pub not_device : IsCause InvalidFormatCode → ⊥
not_device d = d

pub other_refused : {grows buffers : Bool} (k : Kind) (b : ℕ) (r : Reading) → (k ≡ Kind.described → ⊥) → ((e : EncodingCodes) → code_of b ≡ Some e → (row e).kind ≡ k → ⊥) → Rejects grows buffers (behind_byte (data_at k) b) r r InvalidFormatCode
other_refused k b r d n = rejects_here (behind_byte (data_at k) b) r InvalidFormatCode not_device (λ s. other_byte (data_at k) b s (tell s))
  where
    tell : (s : List ℕ) (e : EncodingCodes) → (code_of b ≡ Some e) ⊎ (e ≡ DescribedType) → data_at k e s ≡ Err InvalidFormatCode
    tell s e (inl h) = other_kind k e s (n e h)
    tell s e (inr h) = rw h (described_kind k s d)

pub custom_device : (text : List ℕ) (e : Error) → IsCustom text e → IsDevice e → ⊥
custom_device text (Message s) c d = d
custom_device text OutOfMemory c d = d
custom_device text (Io k) c d = c
custom_device text _ c d = d
