use Rattle.std.proofs.Common.{◌+◌, map, take, refl, sym, ◌∙◌, subst, arith}
use Rattle.amqp_base.specs.declared.shape.Setting.TheVariants.{Plain}
use Rattle.amqp_write.specs.ManyTexts.{AreTexts}
use Rattle.amqp_write.proofs.ManyTexts.{texts_none, texts_next}
use Rattle.amqp_write.proofs.blocks.put_all.Goals as goal

pub loop-value-init : goal.loop-value-init
loop-value-init g c = record { texts = texts_none g.P.Texts.mark; long = refl; within = omega arith }

pub loop-value-preserved : goal.loop-value-preserved
loop-value-preserved g c =
    let item = λ (x : g.row.T.Denot). g.T.Typed.meaning.item x Plain in
    let vs = c.args.values.now in
    let k = c.loop-value.value-index in
    let p = c.put-at.ensures.text in
    let small = p.text.short in
    record {
      texts = subst (λ b. AreTexts g.P.Texts.mark (map item (take (k + 1) vs)) b) (sym p.front) (texts_next g.P.Texts.mark item vs k c.value-item.result _ _ c.loop-value-test.true c.value-item.is c.loop-value.invariant.texts p.text);
      long = p.long ∙ c.loop-value.invariant.long;
      within = omega (arith, p.ends, small, c.loop-value.invariant.within);
    }
