use Rattle.std.proofs.Common.{arith}
use Rattle.amqp_write.proofs.ManyTexts.{small_uint, wide_uint}
use Rattle.amqp_write.proofs.numbers.some_uint_text.Goals as goal

pub returns-then-v-lt256 : goal.returns-then-v-lt256
returns-then-v-lt256 c = record { text = λ some. (small_uint c.args.v some c.if-v-lt256.true, omega arith) }

pub returns : goal.returns
returns c = record { text = λ some. (wide_uint c.args.v c.if-v-lt256.false (omega arith), omega arith) }
