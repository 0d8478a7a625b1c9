use Rattle.std.proofs.Common.{arith}
use Rattle.amqp_write.proofs.ManyTexts.{zero_ulong}
use Rattle.amqp_write.proofs.numbers.ulong_text.Goals.{then-v-eq0, else-v-eq0}
use Rattle.amqp_write.proofs.numbers.ulong_text.Goals as goal

pub returns-then-v-eq0-2 : goal.returns-then-v-eq0-2
returns-then-v-eq0-2 c =
    let zero = c.if-v-eq0-2.true in
    elim c.if-v-eq0.branch [
      | then-v-eq0 w ↦ record { text = rw w.code-is (zero_ulong c.args.v zero, omega arith) }
      | else-v-eq0 w ↦ absurd (w.if-v-eq0.false zero)
    ]
