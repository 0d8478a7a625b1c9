use Rattle.std.proofs.Common.{arith, ◌+◌, ◌-◌}
use Rattle.amqp_write.proofs.ManyTexts.{puts_data, uint_element}
use Rattle.amqp_write.proofs.numbers.ElementTextsU32.put.Goals as goal

pub returns : goal.returns
returns c = record { text = rw (c.copy_from_slice.ensures.after, c.to_be_bytes.ensures) (puts_data _ _ c.args.at 4 (c.args.at + 4 - c.args.at) c.args.block.now _ (omega (arith, c.requires.room)) (omega arith) (omega arith) (uint_element c.args.v (omega arith))) }
