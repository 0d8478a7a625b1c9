use Rattle.std.proofs.Common.{refl, arith}
use Rattle.std.specs.Int.{bytes_high_first}
use Rattle.amqp_write.proofs.ManyTexts.{ulong_element}
use Rattle.amqp_write.proofs.numbers.ElementTextsU64.text_len.Goals as goal

pub returns : goal.returns
returns c = record { text = (bytes_high_first 8 c.args._v, ulong_element c.args._v (omega arith), refl) }
