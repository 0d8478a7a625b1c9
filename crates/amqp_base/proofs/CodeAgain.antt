-- Codes have bytes of their own.
use Rattle.std.proofs.Common.{◌≡◌, Some, None, refl, sym, ap, ◌∙◌, inl, inr, ◌⊎◌}
use Rattle.amqp_base.specs.declared.format_code.EncodingCodes.{EncodingCodes}
use Rattle.amqp_base.specs.declared.format_code.EncodingCodes.TheVariants.{DescribedType, Null, Boolean, BooleanTrue, BooleanFalse, Ubyte, Ushort, Uint, SmallUint, Uint0, Ulong, SmallUlong, Ulong0, Byte, Short, Int, SmallInt, Long, SmallLong, Float, Double, Decimal32, Decimal64, Decimal128, Char, Timestamp, Uuid, Vbin8, Vbin32, Str8, Str32, Sym8, Sym32, List0, List8, List32, Map8, Map32, Array8, Array32}
use Rattle.amqp_base.specs.Codes.{row, code_of}

pub code_again : (e : EncodingCodes) → (code_of (row e).byte ≡ Some e) ⊎ (e ≡ DescribedType)
unfolding row code_of
code_again DescribedType = inr refl
code_again Null = inl refl
code_again Boolean = inl refl
code_again BooleanTrue = inl refl
code_again BooleanFalse = inl refl
code_again Ubyte = inl refl
code_again Ushort = inl refl
code_again Uint = inl refl
code_again SmallUint = inl refl
code_again Uint0 = inl refl
code_again Ulong = inl refl
code_again SmallUlong = inl refl
code_again Ulong0 = inl refl
code_again Byte = inl refl
code_again Short = inl refl
code_again Int = inl refl
code_again SmallInt = inl refl
code_again Long = inl refl
code_again SmallLong = inl refl
code_again Float = inl refl
code_again Double = inl refl
code_again Decimal32 = inl refl
code_again Decimal64 = inl refl
code_again Decimal128 = inl refl
code_again Char = inl refl
code_again Timestamp = inl refl
code_again Uuid = inl refl
code_again Vbin8 = inl refl
code_again Vbin32 = inl refl
code_again Str8 = inl refl
code_again Str32 = inl refl
code_again Sym8 = inl refl
code_again Sym32 = inl refl
code_again List0 = inl refl
code_again List8 = inl refl
code_again List32 = inl refl
code_again Map8 = inl refl
code_again Map32 = inl refl
code_again Array8 = inl refl
code_again Array32 = inl refl

some_is : (e f : EncodingCodes) → Some e ≡ Some f → e ≡ f
some_is e f h = cc

described_none : code_of (row DescribedType).byte ≡ None
unfolding row code_of
described_none = refl

apart : (f : EncodingCodes) → Some f ≡ None → ⊥
apart f h = cc

-- the described constructor's byte is no other code's
pub other_byte : (e f : EncodingCodes) → (f ≡ DescribedType → ⊥) → (row e).byte ≡ (row f).byte → e ≡ f
other_byte e f k same = elim (code_again e) [
  | inl a ↦ elim (code_again f) [ inl b ↦ some_is e f (sym a ∙ (ap code_of same ∙ b)) | inr b ↦ absurd (k b) ]
  | inr a ↦ elim (code_again f) [ inl b ↦ absurd (apart f (sym b ∙ (ap code_of (sym same) ∙ (ap (λ x. code_of (row x).byte) a ∙ described_none)))) | inr b ↦ absurd (k b) ]
]
