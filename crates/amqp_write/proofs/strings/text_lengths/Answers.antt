use Rattle.std.proofs.Common.{[], refl, arith}
use Rattle.std.specs.Prelude.{string_bytes}
use Rattle.amqp_base.specs.Item.{scalar, string}
use Rattle.amqp_write.specs.State.{unmarked}
use Rattle.amqp_write.proofs.ManyTexts.{texts_none}
use Rattle.amqp_write.proofs.StringTexts.{lengths_next}
use Rattle.amqp_write.proofs.strings.text_lengths.Goals as goal

pub loop-value-init : goal.loop-value-init
loop-value-init c = record { counted = refl; texts = ([], texts_none unmarked, omega arith) }

pub loop-value-preserved : goal.loop-value-preserved
loop-value-preserved c = record {
  counted = omega (arith, c.loop-value.invariant.counted);
  texts = lengths_next unmarked (λ t. scalar (string (string_bytes t))) c.args.values.now c.loop-value.value-index c.value-item.result _ _ _ c.loop-value-test.true c.value-item.is c.saturating_add-sum.ensures c.loop-value.invariant.texts (rw c.as_str.ensures.value at c.in-Some.ensures.text);
}
