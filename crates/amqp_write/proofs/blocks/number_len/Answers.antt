use Rattle.std.proofs.Common.{arith}
use Rattle.amqp_base.specs.declared.shape.Setting.TheVariants.{Plain}
use Rattle.amqp_write.proofs.ManyTexts.{text_alone}
use Rattle.amqp_write.proofs.blocks.number_len.Goals as goal

pub returns : goal.returns
returns g c =
    let text = c.text_len.ensures.text in
    let is = text.1 in
    record { text = (text.0, text_alone g.P.Texts.mark (g.T.Typed.meaning.item c.args.value Plain) text.0 is.text is.flat, omega (arith, text.2, is.short)) }
