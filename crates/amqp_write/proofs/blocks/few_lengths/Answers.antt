use Rattle.std.proofs.Common.{◌++◌, [], length-append, refl, arith}
use Rattle.amqp_base.specs.declared.shape.Setting.TheVariants.{Plain}
use Rattle.amqp_write.proofs.ManyTexts.{texts_none, texts_next}
use Rattle.amqp_write.proofs.blocks.few_lengths.Goals as goal

pub loop-value-init : goal.loop-value-init
loop-value-init g c = record { texts = ([], texts_none g.P.Texts.mark, refl); small = omega arith }

pub loop-value-preserved : goal.loop-value-preserved
loop-value-preserved g c =
    let item = λ (x : g.row.T.Denot). g.T.Typed.meaning.item x Plain in
    let a = c.loop-value.invariant.texts in
    let b = c.text_len-sum.ensures.text in
    let len = length-append a.0 b.0 in
    let small = b.1.short in
    record {
      texts = (a.0 ++ b.0, texts_next g.P.Texts.mark item c.args.values.now c.loop-value.value-index c.value-item.result a.0 b.0 c.loop-value-test.true c.value-item.is a.1 b.1, omega (arith, a.2, b.2, len));
      small = omega (arith, small, b.2, c.loop-value.invariant.small);
    }
