-- By what the variants of an enum are told.
use Rattle.std.proofs.Common.{◌≡◌, false, refl}
use Rattle.amqp_base.specs.declared.format_code.EncodingCodes.{EncodingCodes}
use Rattle.amqp_base.specs.declared.format_code.EncodingCodes.TheVariants.{Ulong, SmallUlong, Ulong0, Sym8, Sym32}
use Rattle.amqp_base.specs.Codes.{row}
use Rattle.amqp_base.specs.Parse.{is_descriptor_kind}
use Rattle.amqp_base.specs.SameKind.{same_kind, place}

pub no_descriptor_code : (e : EncodingCodes) → (e ≡ Ulong → ⊥) → (e ≡ SmallUlong → ⊥) → (e ≡ Ulong0 → ⊥) → (e ≡ Sym8 → ⊥) → (e ≡ Sym32 → ⊥) → false ≡ is_descriptor_kind (row e).kind
unfolding row same_kind place
no_descriptor_code Ulong a b c d f = absurd (a refl)
no_descriptor_code SmallUlong a b c d f = absurd (b refl)
no_descriptor_code Ulong0 a b c d f = absurd (c refl)
no_descriptor_code Sym8 a b c d f = absurd (d refl)
no_descriptor_code Sym32 a b c d f = absurd (f refl)
no_descriptor_code _ a b c d f = refl
