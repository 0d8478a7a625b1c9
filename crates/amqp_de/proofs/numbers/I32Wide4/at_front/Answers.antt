-- The number's own constructor, and its data.
use Rattle.std.proofs.Common.{[], ◌∷◌, refl, rules, slice_index_or, to_z, of_z, w8, w32}
use Rattle.std.proofs.lemmas.Int.{to_z-of_z}
use mir.Val.{SFits}
use Rattle.amqp_base.specs.Codes.{row, code_of}
use Rattle.amqp_base.specs.SameKind.{same_kind, place}
use Rattle.amqp_base.specs.Item.{int}
use Rattle.amqp_base.specs.Value.{payload, read}
use Rattle.amqp_base.specs.declared.format_code.EncodingCodes.TheVariants.{Int, SmallInt}
use Rattle.amqp_data.proofs.ByteNumbers.{be_widened}
use Rattle.amqp_de.proofs.ManyRead.{behind_code, one_byte}
use Rattle.amqp_de.proofs.numbers.I32Wide4.at_front.Goals as goal

pub returns-in-84-clause-number : goal.returns-in-84-clause-number
unfolding row code_of payload read same_kind place
returns-in-84-clause-number c = λ _.
    let z = c.from_be_bytes.result in
    let f : SFits w8 z = search rules in
    let n = slice_index_or c.args.bytes.now 1 0 in
    let v = to_z w32 (of_z w32 (to_z w8 (of_z w8 z))) in
    one_byte _ SmallInt 84 (int v) v c.args.bytes.now refl c.in-84.is c.if-bytes-ge2.true refl (rw (be_widened w32 (n ∷ []) z refl c.from_be_bytes.ensures f) refl) refl refl

pub returns-in-113-clause-number : goal.returns-in-113-clause-number
unfolding row code_of
returns-in-113-clause-number c =
    let v = c.of_data.result in
    let f : SFits w32 v = search rules in
    rw (to_z-of_z w32 v f) (λ _. behind_code _ Int 4 113 c.args.bytes.now v refl c.in-113.is c.requires c.of_data.ensures)
