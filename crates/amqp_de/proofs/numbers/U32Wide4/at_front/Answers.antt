-- The number's own constructor, and its data.
use Rattle.std.proofs.Common.{refl, slice_index_or}
use Rattle.amqp_base.specs.Codes.{row, code_of}
use Rattle.amqp_base.specs.SameKind.{same_kind, place}
use Rattle.amqp_base.specs.Item.{uint}
use Rattle.amqp_base.specs.Value.{payload, read}
use Rattle.amqp_base.specs.declared.format_code.EncodingCodes.TheVariants.{Uint, SmallUint, Uint0}
use Rattle.amqp_data.proofs.ByteNumbers.{number_1}
use Rattle.amqp_de.proofs.ManyRead.{behind_code, one_byte, no_byte}
use Rattle.amqp_de.proofs.numbers.U32Wide4.at_front.Goals as goal

pub returns-in-82-clause-number : goal.returns-in-82-clause-number
unfolding row code_of payload read same_kind place
returns-in-82-clause-number c = λ _.
    let n = slice_index_or c.args.bytes.now 1 0 in
    one_byte _ SmallUint 82 (uint n) n c.args.bytes.now refl c.in-82.is c.if-bytes-ge2.true refl (rw (number_1 n) refl) refl refl

pub returns-in-67-clause-number : goal.returns-in-67-clause-number
unfolding row code_of payload read same_kind place
returns-in-67-clause-number c = λ _. no_byte _ Uint0 67 (uint 0) 0 c.args.bytes.now refl c.in-67.is c.requires refl refl refl refl

pub returns-in-112-clause-number : goal.returns-in-112-clause-number
unfolding row code_of
returns-in-112-clause-number c = λ _. behind_code _ Uint 4 112 c.args.bytes.now c.of_data.result refl c.in-112.is c.requires c.of_data.ensures
