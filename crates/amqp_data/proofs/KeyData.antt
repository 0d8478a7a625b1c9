-- The data of an index or a name.
use Rattle.std.proofs.Common.{◌≡◌, ℕ, Bool, true, false, if◌then◌else◌, List, Some, Err, refl, sym, ◌∙◌, inl, inr, ◌⊎◌}
use Rattle.amqp_base.specs.declared.error.Error.{Error}
use Rattle.amqp_base.specs.declared.error.Error.TheVariants.{InvalidFormatCode}
use Rattle.amqp_base.specs.declared.format_code.EncodingCodes.{EncodingCodes}
use Rattle.amqp_base.specs.declared.format_code.EncodingCodes.TheVariants.{DescribedType, Uint, SmallUint, Uint0, Ulong, SmallUlong, Ulong0, Str8, Str32, Sym8, Sym32}
use Rattle.amqp_base.specs.Codes.{Kind, row, code_of}
use Rattle.amqp_base.specs.Identifiers.{is_key_kind, key_data}
use Rattle.amqp_base.specs.SameKind.{same_kind, place}
use Rattle.amqp_base.specs.Parse.{behind_byte, by_category, data_at}
use Rattle.amqp_base.proofs.KindPlaces.{kind_same, same_kind_is}
use Rattle.amqp_read.specs.Reading.{Reading}
use Rattle.amqp_data.specs.Excuses.{Excused}
use Rattle.amqp_data.specs.Steps.{Rejects}
use Rattle.amqp_data.proofs.Readings.{rejects_here, rejects_more}
use Rattle.amqp_data.proofs.Data.{behind_code}
use Rattle.amqp_data.proofs.FixedWidth.{other_byte, not_device}

-- a refusal of a kind's data is one of a key's
of_kind : (err : Error) (k : Kind) (e : EncodingCodes) (s : List ℕ) → (row e).kind ≡ k → is_key_kind k ≡ true → data_at k e s ≡ Err err → key_data e s ≡ Err err
unfolding data_at key_data
of_kind err k e s p q h =
    let f : by_category e (row e).category s ≡ Err err = rw (kind_same (row e).kind k p) at h in
    rw (p, q, f) refl

kind_refused : {grows buffers : Bool} (k : Kind) (x : ℕ) (e : EncodingCodes) (old new : Reading) (err : Error) → code_of x ≡ Some e → (row e).kind ≡ k → is_key_kind k ≡ true
    → Rejects grows buffers (behind_byte (data_at k) x) old new err → Rejects true buffers (behind_byte key_data x) old new err
kind_refused {grows} {buffers} k x e old new err c p q n = rejects_more (behind_byte key_data x) old new err (λ _. refl) (record { why = λ s at h. tell s (n.why s at h); steady = n.steady; device = n.device; memory = n.memory })
  where
    tell : (s : List ℕ) → (behind_byte (data_at k) x s ≡ Err err) ⊎ Excused grows buffers old new err → (behind_byte key_data x s ≡ Err err) ⊎ Excused grows buffers old new err
    tell s (inl h) = inl (behind_code key_data x e s c ∙ of_kind err k e s p q (sym (behind_code (data_at k) x e s c) ∙ h))
    tell s (inr y) = inr y

pub uint_refused : {grows buffers : Bool} (x : ℕ) (old new : Reading) (err : Error) → (x ≡ 0x70) ⊎ ((x ≡ 0x52) ⊎ (x ≡ 0x43)) → Rejects grows buffers (behind_byte (data_at Kind.uint) x) old new err → Rejects true buffers (behind_byte key_data x) old new err
unfolding code_of row same_kind place
uint_refused x old new err (inl h) n = kind_refused Kind.uint x Uint old new err (rw h refl) refl refl n
uint_refused x old new err (inr (inl h)) n = kind_refused Kind.uint x SmallUint old new err (rw h refl) refl refl n
uint_refused x old new err (inr (inr h)) n = kind_refused Kind.uint x Uint0 old new err (rw h refl) refl refl n

pub ulong_refused : {grows buffers : Bool} (x : ℕ) (old new : Reading) (err : Error) → (x ≡ 0x80) ⊎ ((x ≡ 0x53) ⊎ (x ≡ 0x44)) → Rejects grows buffers (behind_byte (data_at Kind.ulong) x) old new err → Rejects true buffers (behind_byte key_data x) old new err
unfolding code_of row same_kind place
ulong_refused x old new err (inl h) n = kind_refused Kind.ulong x Ulong old new err (rw h refl) refl refl n
ulong_refused x old new err (inr (inl h)) n = kind_refused Kind.ulong x SmallUlong old new err (rw h refl) refl refl n
ulong_refused x old new err (inr (inr h)) n = kind_refused Kind.ulong x Ulong0 old new err (rw h refl) refl refl n

pub string_refused : {grows buffers : Bool} (x : ℕ) (old new : Reading) (err : Error) → (x ≡ 0xa1) ⊎ (x ≡ 0xb1) → Rejects grows buffers (behind_byte (data_at Kind.string) x) old new err → Rejects true buffers (behind_byte key_data x) old new err
unfolding code_of row same_kind place
string_refused x old new err (inl h) n = kind_refused Kind.string x Str8 old new err (rw h refl) refl refl n
string_refused x old new err (inr h) n = kind_refused Kind.string x Str32 old new err (rw h refl) refl refl n

pub symbol_refused : {grows buffers : Bool} (x : ℕ) (old new : Reading) (err : Error) → (x ≡ 0xa3) ⊎ (x ≡ 0xb3) → Rejects grows buffers (behind_byte (data_at Kind.symbol) x) old new err → Rejects true buffers (behind_byte key_data x) old new err
unfolding code_of row same_kind place
symbol_refused x old new err (inl h) n = kind_refused Kind.symbol x Sym8 old new err (rw h refl) refl refl n
symbol_refused x old new err (inr h) n = kind_refused Kind.symbol x Sym32 old new err (rw h refl) refl refl n

-- ---- a code of another kind

pub one_of_four : (k : Kind) → is_key_kind k ≡ true → (k ≡ Kind.uint) ⊎ ((k ≡ Kind.ulong) ⊎ ((k ≡ Kind.string) ⊎ (k ≡ Kind.symbol)))
one_of_four k h = tell (same_kind k Kind.uint) refl (same_kind k Kind.ulong) refl (same_kind k Kind.string) refl (same_kind k Kind.symbol) refl
  where
    tell : (x : Bool) → same_kind k Kind.uint ≡ x → (y : Bool) → same_kind k Kind.ulong ≡ y → (z : Bool) → same_kind k Kind.string ≡ z → (w : Bool) → same_kind k Kind.symbol ≡ w
        → (k ≡ Kind.uint) ⊎ ((k ≡ Kind.ulong) ⊎ ((k ≡ Kind.string) ⊎ (k ≡ Kind.symbol)))
    tell true p y q z r w s = inl (same_kind_is k Kind.uint p)
    tell false p true q z r w s = inr (inl (same_kind_is k Kind.ulong q))
    tell false p false q true r w s = inr (inr (inl (same_kind_is k Kind.string r)))
    tell false p false q false r true s = inr (inr (inr (same_kind_is k Kind.symbol s)))
    tell false p false q false r false s = let n : is_key_kind k ≡ false = rw (p, q, r, s) refl in absurd cc (h, n)

not_key : (e : EncodingCodes) (s : List ℕ) → ((row e).kind ≡ Kind.uint → ⊥) → ((row e).kind ≡ Kind.ulong → ⊥) → ((row e).kind ≡ Kind.string → ⊥) → ((row e).kind ≡ Kind.symbol → ⊥) → key_data e s ≡ Err InvalidFormatCode
unfolding key_data
not_key e s m n o p = tell (is_key_kind (row e).kind) refl
  where
    no : (((row e).kind ≡ Kind.uint) ⊎ (((row e).kind ≡ Kind.ulong) ⊎ (((row e).kind ≡ Kind.string) ⊎ ((row e).kind ≡ Kind.symbol)))) → ⊥
    no (inl h) = m h
    no (inr (inl h)) = n h
    no (inr (inr (inl h))) = o h
    no (inr (inr (inr h))) = p h

    tell : (t : Bool) → is_key_kind (row e).kind ≡ t → (if is_key_kind (row e).kind then by_category e (row e).category s else Err InvalidFormatCode) ≡ Err InvalidFormatCode
    tell true h = absurd (no (one_of_four (row e).kind h))
    tell false h = rw h refl

described_key : (s : List ℕ) → key_data DescribedType s ≡ Err InvalidFormatCode
unfolding key_data row same_kind place
described_key s = refl

pub other_key : {grows buffers : Bool} (b : ℕ) (r : Reading) → ((e : EncodingCodes) → code_of b ≡ Some e → (row e).kind ≡ Kind.uint → ⊥) → ((e : EncodingCodes) → code_of b ≡ Some e → (row e).kind ≡ Kind.ulong → ⊥)
    → ((e : EncodingCodes) → code_of b ≡ Some e → (row e).kind ≡ Kind.string → ⊥) → ((e : EncodingCodes) → code_of b ≡ Some e → (row e).kind ≡ Kind.symbol → ⊥) → Rejects grows buffers (behind_byte key_data b) r r InvalidFormatCode
other_key b r m n o p = rejects_here (behind_byte key_data b) r InvalidFormatCode not_device (λ s. other_byte key_data b s (tell s))
  where
    tell : (s : List ℕ) (e : EncodingCodes) → (code_of b ≡ Some e) ⊎ (e ≡ DescribedType) → key_data e s ≡ Err InvalidFormatCode
    tell s e (inl h) = not_key e s (m e h) (n e h) (o e h) (p e h)
    tell s e (inr h) = rw h (described_key s)
