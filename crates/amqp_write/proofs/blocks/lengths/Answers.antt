use Rattle.std.proofs.Common.{◌++◌, [], refl, arith}
use Rattle.amqp_base.specs.declared.shape.Setting.TheVariants.{Plain}
use Rattle.amqp_write.proofs.ManyTexts.{texts_none, lengths_more, further}
use Rattle.amqp_write.proofs.blocks.lengths.Goals as goal

pub loop-rest-init : goal.loop-rest-init
loop-rest-init g c = ([], refl, ([], texts_none g.P.Texts.mark, omega arith))

pub loop-rest-preserved : goal.loop-rest-preserved
loop-rest-preserved g c =
    let item = λ (x : g.row.T.Denot). g.T.Typed.meaning.item x Plain in
    let done = c.loop-rest.invariant in
    let now = c.split_at.result.0.now in
    (done.0 ++ now, further _ done.0 _ now _ c.if-rest-gt-SUMMED.len done.1 c.split_at.ensures.front c.split_at.ensures.back, lengths_more g.P.Texts.mark item done.0 now _ _ _ c.saturating_add-sum.ensures done.2 c.few_lengths-in-loop-rest.ensures.texts)
