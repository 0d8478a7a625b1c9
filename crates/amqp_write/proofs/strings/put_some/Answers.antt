use Rattle.std.proofs.Common.{refl, sym, ◌∙◌, subst, map, take, ◌+◌, arith}
use Rattle.std.specs.Prelude.{string_bytes}
use Rattle.amqp_base.specs.Item.{scalar, string}
use Rattle.amqp_write.specs.State.{unmarked}
use Rattle.amqp_write.specs.ManyTexts.{AreTexts}
use Rattle.amqp_write.proofs.ManyTexts.{texts_none, texts_more}
use Rattle.amqp_write.proofs.strings.put_some.Goals as goal

pub loop-value-init : goal.loop-value-init
loop-value-init c = record { counted = refl; texts = texts_none unmarked; long = refl; within = omega arith }

pub loop-value-preserved : goal.loop-value-preserved
loop-value-preserved c =
    let vs = c.args.values.now in
    let k = c.loop-value.value-index in
    let p = rw c.as_str.ensures.value at c.in-Some.ensures.text in
    record {
      counted = omega (arith, c.loop-value.invariant.counted);
      texts = subst (λ b. AreTexts unmarked (map (λ t. scalar (string (string_bytes t))) (take (k + 1) vs)) b) (sym p.front) (texts_more unmarked (λ t. scalar (string (string_bytes t))) vs k c.value-item.result _ _ c.loop-value-test.true c.value-item.is c.loop-value.invariant.texts p.texts);
      long = p.long ∙ c.loop-value.invariant.long;
      within = p.within;
    }
