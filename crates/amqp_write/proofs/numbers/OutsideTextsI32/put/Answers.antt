use Rattle.std.proofs.Common.{arith}
use Rattle.std.proofs.lemmas.Int.{to_z-of_z}
use Rattle.std.specs.Int.{w32, bytes_high_first}
use mir.Val.{SFits}
use Rattle.amqp_write.proofs.ManyTexts.{puts_front}
use Rattle.amqp_write.proofs.numbers.OutsideTextsI32.put.Goals as goal

pub returns : goal.returns
returns c =
    let f : SFits w32 c.args.v = c.ranges.v in
    record { text = rw (c.copy_from_slice.ensures.after, c.to_be_bytes.ensures) (puts_front _ c.args.at c.int_text-code.result.2 _ _ c.args.block.now (bytes_high_first 4 c.int_text-code.result.1) c.requires.room (omega arith) (omega arith) (simp to_z-of_z at c.int_text-code.ensures.text)) }
