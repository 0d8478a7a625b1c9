use Rattle.std.proofs.Common.{arith, ◌+◌, ◌-◌}
use Rattle.std.proofs.lemmas.Int.{to_z-of_z}
use Rattle.std.specs.Int.{w32}
use mir.Val.{SFits}
use Rattle.amqp_write.proofs.ManyTexts.{puts_data, int_element}
use Rattle.amqp_write.proofs.numbers.ElementTextsI32.put.Goals as goal

pub returns : goal.returns
returns c =
    let f : SFits w32 c.args.v = c.ranges.v in
    record { text = rw (c.copy_from_slice.ensures.after, c.to_be_bytes.ensures) (simp to_z-of_z (puts_data _ _ c.args.at 4 (c.args.at + 4 - c.args.at) c.args.block.now _ (omega (arith, c.requires.room)) (omega arith) (omega arith) (int_element c.args.v f))) }
