use Rattle.std.proofs.Common.{refl}
use Rattle.std.specs.Int.{w32, bytes_high_first, cast_unsigned}
use mir.Val.{SFits}
use Rattle.amqp_write.proofs.ManyTexts.{int_element}
use Rattle.amqp_write.proofs.numbers.ElementTextsI32.text_len.Goals as goal

pub returns : goal.returns
returns c =
    let f : SFits w32 c.args._v = c.ranges._v in
    record { text = (bytes_high_first 4 (cast_unsigned w32 c.args._v), int_element c.args._v f, refl) }
