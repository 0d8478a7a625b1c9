-- Worked examples of 65,536 elements, the most that are read.
use Rattle.std.proofs.Common.{◌≡◌, ℕ, zero, suc, [], ◌∷◌, Some, refl}
use Rattle.amqp_base.specs.Codes.{row, code_of}
use Rattle.amqp_base.specs.Item.{null, scalar, code, array, described, Items, none, more}
use Rattle.amqp_base.specs.Value.{read, payload}
use Rattle.amqp_base.proofs.Decode.{decode, as_descriptor, is_list0}
use Rattle.amqp_base.specs.Wire.{lenient, bare}
use Rattle.amqp_base.proofs.Decides.{reading}
use Rattle.amqp_base.proofs.RowWords.{Reads, reads, Refused, refused, nulls}

nulls_there : reading lenient bare (0xf0 ∷ 0 ∷ 1 ∷ 0 ∷ 0 ∷ 0 ∷ 1 ∷ 0 ∷ 0 ∷ 0x40 ∷ []) ≡ Some (array (nulls 65536), [])
unfolding decode row code_of read payload is_list0 as_descriptor nulls
nulls_there = refl

most_nulls : Reads (0xf0 ∷ 0 ∷ 1 ∷ 0 ∷ 0 ∷ 0 ∷ 1 ∷ 0 ∷ 0 ∷ 0x40 ∷ []) (array (nulls 65536)) 10
most_nulls = reads _ (array (nulls 65536)) [] nulls_there

one_null_too_many : Refused (0xf0 ∷ 0 ∷ 1 ∷ 0 ∷ 1 ∷ 0 ∷ 1 ∷ 0 ∷ 1 ∷ 0x40 ∷ [])
unfolding decode row code_of read payload is_list0 as_descriptor
one_null_too_many = refused _ refl

-- n nulls behind the descriptor 0
described_nulls : ℕ → Items
described_nulls zero = none
described_nulls (suc n) = more (described (code 0) (scalar null)) (described_nulls n)

described_nulls_there : reading lenient bare (0xf0 ∷ 0 ∷ 1 ∷ 0 ∷ 0 ∷ 0 ∷ 1 ∷ 0 ∷ 0 ∷ 0 ∷ 0x44 ∷ 0x40 ∷ []) ≡ Some (array (described_nulls 65536), [])
unfolding decode row code_of read payload is_list0 as_descriptor described_nulls
described_nulls_there = refl

most_described_nulls : Reads (0xf0 ∷ 0 ∷ 1 ∷ 0 ∷ 0 ∷ 0 ∷ 1 ∷ 0 ∷ 0 ∷ 0 ∷ 0x44 ∷ 0x40 ∷ []) (array (described_nulls 65536)) 12
most_described_nulls = reads _ (array (described_nulls 65536)) [] described_nulls_there
