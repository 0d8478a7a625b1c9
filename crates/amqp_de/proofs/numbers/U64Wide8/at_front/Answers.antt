-- The number's own constructor, and its data.
use Rattle.std.proofs.Common.{refl, slice_index_or}
use Rattle.amqp_base.specs.Codes.{row, code_of}
use Rattle.amqp_base.specs.SameKind.{same_kind, place}
use Rattle.amqp_base.specs.Item.{ulong}
use Rattle.amqp_base.specs.Value.{payload, read}
use Rattle.amqp_base.specs.declared.format_code.EncodingCodes.TheVariants.{Ulong, SmallUlong, Ulong0}
use Rattle.amqp_data.proofs.ByteNumbers.{number_1}
use Rattle.amqp_de.proofs.ManyRead.{behind_code, one_byte, no_byte}
use Rattle.amqp_de.proofs.numbers.U64Wide8.at_front.Goals as goal

pub returns-in-83-clause-number : goal.returns-in-83-clause-number
unfolding row code_of payload read same_kind place
returns-in-83-clause-number c = λ _.
    let n = slice_index_or c.args.bytes.now 1 0 in
    one_byte _ SmallUlong 83 (ulong n) n c.args.bytes.now refl c.in-83.is c.if-bytes-ge2.true refl (rw (number_1 n) refl) refl refl

pub returns-in-68-clause-number : goal.returns-in-68-clause-number
unfolding row code_of payload read same_kind place
returns-in-68-clause-number c = λ _. no_byte _ Ulong0 68 (ulong 0) 0 c.args.bytes.now refl c.in-68.is c.requires refl refl refl refl

pub returns-in-128-clause-number : goal.returns-in-128-clause-number
unfolding row code_of
returns-in-128-clause-number c = λ _. behind_code _ Ulong 8 128 c.args.bytes.now c.of_data.result refl c.in-128.is c.requires c.of_data.ensures
