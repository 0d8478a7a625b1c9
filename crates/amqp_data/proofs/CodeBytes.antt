-- Codes and their bytes.
use Rattle.std.proofs.Common.{◌≡◌, ℕ, zero, suc, Option, Some, None, Ok, Err, refl, inl, inr, ◌⊎◌}
use Rattle.amqp_base.specs.declared.error.Error.TheVariants.{InvalidFormatCode}
use Rattle.amqp_base.specs.declared.format_code.EncodingCodes.{EncodingCodes}
use Rattle.amqp_base.specs.declared.format_code.EncodingCodes.TheVariants.{DescribedType}
use Rattle.amqp_base.specs.Codes.{row, code_of}
use Rattle.amqp_base.proofs.CodeAgain.{code_again}
use Rattle.amqp_base.specs.Parse.{any_code, code_or_refusal}
use Rattle.amqp_data.proofs.Data.{any_code_is}
use Rattle.amqp_data.proofs.KindCodes.{code_byte}

described_byte : any_code (row DescribedType).byte ≡ Ok DescribedType
unfolding any_code row
described_byte = refl

pub any_again : (e : EncodingCodes) → any_code (row e).byte ≡ Ok e
any_again e = tell (code_again e)
  where
    tell : (code_of (row e).byte ≡ Some e) ⊎ (e ≡ DescribedType) → any_code (row e).byte ≡ Ok e
    tell (inl p) = any_code_is (row e).byte e p
    tell (inr p) = rw p described_byte

pub any_none : (b : ℕ) → ((d : EncodingCodes) → (row d).byte ≡ b → ⊥) → any_code b ≡ Err InvalidFormatCode
unfolding any_code row
any_none zero n = absurd (n DescribedType refl)
any_none (suc b) n = tell (code_of (suc b)) refl
  where
    tell : (o : Option EncodingCodes) → code_of (suc b) ≡ o → code_or_refusal (code_of (suc b)) ≡ Err InvalidFormatCode
    tell (Some e) h = absurd (n e (code_byte (suc b) e h))
    tell None h = rw h refl
