use Rattle.std.proofs.Common.{refl, arith}
use Rattle.std.specs.Int.{bytes_high_first}
use Rattle.amqp_write.proofs.ManyTexts.{uint_element}
use Rattle.amqp_write.proofs.numbers.ElementTextsU32.text_len.Goals as goal

pub returns : goal.returns
returns c = record { text = (bytes_high_first 4 c.args._v, uint_element c.args._v (omega arith), refl) }
