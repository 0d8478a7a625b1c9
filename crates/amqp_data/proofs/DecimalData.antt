-- The data of decimals.
use Rattle.std.proofs.Common.{◌≡◌, ℕ, ◌<◌, Bool, true, false, if◌then◌else◌, List, length, Some, Err, refl, ◌∙◌, inl, inr, ◌⊎◌}
use Rattle.std.specs.declared.io.ErrorKind.TheVariants.{UnexpectedEof}
use Rattle.amqp_base.specs.declared.error.Error.{Error}
use Rattle.amqp_base.specs.declared.error.Error.TheVariants.{Io, InvalidFormatCode}
use Rattle.amqp_base.specs.declared.format_code.EncodingCodes.{EncodingCodes}
use Rattle.amqp_base.specs.declared.format_code.EncodingCodes.TheVariants.{DescribedType}
use Rattle.amqp_base.specs.declared.format_code.Category.TheVariants.{Fixed}
use Rattle.amqp_base.specs.Codes.{Kind, row, code_of}
use Rattle.amqp_base.specs.SameKind.{same_kind, place, is_decimal_kind}
use Rattle.amqp_base.proofs.KindPlaces.{same_kind_is}
use Rattle.amqp_read.specs.Reading.{Reading, Stays}
use Rattle.amqp_read.specs.Steps.{NotTaken}
use Rattle.amqp_base.specs.Parse.{behind_byte, by_category}
use Rattle.amqp_data.specs.Steps.{Rejects}
use Rattle.amqp_data.specs.Decimals.{decimal_at}
use Rattle.amqp_data.proofs.Readings.{unread_rejects, rejects_here}
use Rattle.amqp_data.proofs.Data.{bytes_short, behind_code}
use Rattle.amqp_data.proofs.FixedWidth.{other_byte, not_device}

short_decimal : (e : EncodingCodes) (w : ℕ) (s : List ℕ) → is_decimal_kind (row e).kind ≡ true → (row e).category ≡ Fixed w → length s < w → decimal_at e s ≡ Err (Io UnexpectedEof)
unfolding decimal_at
short_decimal e w s h c l = rw (h, c, bytes_short w s l) refl

pub decimal_refused : {grows buffers : Bool} (b : ℕ) (e : EncodingCodes) (w : ℕ) (old new : Reading) (err : Error) → code_of b ≡ Some e → is_decimal_kind (row e).kind ≡ true → (row e).category ≡ Fixed w
    → Stays old new → NotTaken grows buffers w old new err → Rejects grows buffers (behind_byte decimal_at b) old new err
decimal_refused b e w old new err c h f s u = unread_rejects (behind_byte decimal_at b) w old new err (λ t l. behind_code decimal_at b e t c ∙ short_decimal e w t h f l) (record { stays = s; why = u })

pub one_of_three : (k : Kind) → is_decimal_kind k ≡ true → (k ≡ Kind.decimal32) ⊎ ((k ≡ Kind.decimal64) ⊎ (k ≡ Kind.decimal128))
one_of_three k h = tell (same_kind k Kind.decimal32) refl (same_kind k Kind.decimal64) refl (same_kind k Kind.decimal128) refl
  where
    tell : (x : Bool) → same_kind k Kind.decimal32 ≡ x → (y : Bool) → same_kind k Kind.decimal64 ≡ y → (z : Bool) → same_kind k Kind.decimal128 ≡ z → (k ≡ Kind.decimal32) ⊎ ((k ≡ Kind.decimal64) ⊎ (k ≡ Kind.decimal128))
    tell true p y q z r = inl (same_kind_is k Kind.decimal32 p)
    tell false p true q z r = inr (inl (same_kind_is k Kind.decimal64 q))
    tell false p false q true r = inr (inr (same_kind_is k Kind.decimal128 r))
    tell false p false q false r = let n : is_decimal_kind k ≡ false = rw (p, q, r) refl in absurd cc (h, n)

not_decimal : (e : EncodingCodes) (s : List ℕ) → ((row e).kind ≡ Kind.decimal32 → ⊥) → ((row e).kind ≡ Kind.decimal64 → ⊥) → ((row e).kind ≡ Kind.decimal128 → ⊥) → decimal_at e s ≡ Err InvalidFormatCode
unfolding decimal_at
not_decimal e s m n o = tell (is_decimal_kind (row e).kind) refl
  where
    no : (((row e).kind ≡ Kind.decimal32) ⊎ (((row e).kind ≡ Kind.decimal64) ⊎ ((row e).kind ≡ Kind.decimal128))) → ⊥
    no (inl p) = m p
    no (inr (inl p)) = n p
    no (inr (inr p)) = o p

    tell : (t : Bool) → is_decimal_kind (row e).kind ≡ t → (if is_decimal_kind (row e).kind then by_category e (row e).category s else Err InvalidFormatCode) ≡ Err InvalidFormatCode
    tell true h = absurd (no (one_of_three (row e).kind h))
    tell false h = rw h refl

described_decimal : (s : List ℕ) → decimal_at DescribedType s ≡ Err InvalidFormatCode
unfolding decimal_at row same_kind place
described_decimal s = refl

pub decimal_other : {grows buffers : Bool} (b : ℕ) (r : Reading) → ((e : EncodingCodes) → code_of b ≡ Some e → (row e).kind ≡ Kind.decimal32 → ⊥) → ((e : EncodingCodes) → code_of b ≡ Some e → (row e).kind ≡ Kind.decimal64 → ⊥)
    → ((e : EncodingCodes) → code_of b ≡ Some e → (row e).kind ≡ Kind.decimal128 → ⊥) → Rejects grows buffers (behind_byte decimal_at b) r r InvalidFormatCode
decimal_other b r m n o = rejects_here (behind_byte decimal_at b) r InvalidFormatCode not_device (λ s. other_byte decimal_at b s (tell s))
  where
    tell : (s : List ℕ) (e : EncodingCodes) → (code_of b ≡ Some e) ⊎ (e ≡ DescribedType) → decimal_at e s ≡ Err InvalidFormatCode
    tell s e (inl h) = not_decimal e s (m e h) (n e h) (o e h)
    tell s e (inr h) = rw h (described_decimal s)
