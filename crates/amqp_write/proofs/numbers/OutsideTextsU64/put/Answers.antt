use Rattle.std.proofs.Common.{arith}
use Rattle.std.specs.Int.{bytes_high_first}
use Rattle.amqp_write.proofs.ManyTexts.{puts_front}
use Rattle.amqp_write.proofs.numbers.OutsideTextsU64.put.Goals as goal

pub returns : goal.returns
returns c = record { text = rw (c.copy_from_slice.ensures.after, c.to_be_bytes.ensures) (puts_front _ c.args.at c.ulong_text-code.result.2 _ _ c.args.block.now (bytes_high_first 8 c.ulong_text-code.result.1) c.requires.room (omega arith) (omega arith) c.ulong_text-code.ensures.text) }
