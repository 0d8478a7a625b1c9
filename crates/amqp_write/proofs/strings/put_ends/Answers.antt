use Rattle.std.proofs.Common.{◌-◌, ◌∙◌, drop, length, length-drop, arith}
use Rattle.std.proofs.lemmas.List.{take_all}
use Rattle.amqp_write.proofs.StringTexts.{puts_ends}
use Rattle.amqp_write.proofs.strings.put_ends.Goals as goal

pub returns : goal.returns
returns g c =
    let bytes = c.args.bytes.now in
    let behind = length bytes - g.row.N in
    record { put = puts_ends c.args.at g.row.N behind _ _ c.args.block.now bytes _ _ (omega (arith, c.requires.most)) (omega (arith, c.requires.least)) (omega arith) (omega arith) c.requires.room c.copy_from_slice.ensures.after (c.copy_from_slice-2.ensures.after ∙ take_all _ (drop behind bytes) (omega (arith, length-drop behind bytes))) }
