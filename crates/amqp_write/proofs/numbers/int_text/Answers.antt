use Rattle.std.proofs.Common.{arith}
use Rattle.std.proofs.lemmas.Int.{ints, to_z-of_z}
use Rattle.std.specs.Int.{w8, w32}
use mir.Val.{SFits}
use Rattle.amqp_write.proofs.ManyTexts.{small_int, wide_int}
use Rattle.amqp_write.proofs.numbers.int_text.Goals.{else-v-geminus128-via-then-v-geminus128+else-v-le127, else-v-geminus128-via-else-v-geminus128}
use Rattle.amqp_write.proofs.numbers.int_text.Goals as goal

pub returns-then-v-le127 : goal.returns-then-v-le127
returns-then-v-le127 c =
    let f : SFits w32 c.args.v = c.ranges.v in
    record { text = (small_int c.args.v _ (simp to_z-of_z at c.cast_unsigned-bits.ensures) (search (arith, ints)), omega arith) }

pub returns : goal.returns
returns c =
    let f : SFits w32 c.args.v = c.ranges.v in
    let wide : (SFits w8 c.args.v → ⊥) = λ h. elim c.else-v-geminus128.branch [ else-v-geminus128-via-then-v-geminus128+else-v-le127 w ↦ omega (arith, ints) | else-v-geminus128-via-else-v-geminus128 w ↦ omega (arith, ints) ] in
    record { text = (wide_int c.args.v _ (simp to_z-of_z at c.cast_unsigned-bits.ensures) wide f, omega arith) }
