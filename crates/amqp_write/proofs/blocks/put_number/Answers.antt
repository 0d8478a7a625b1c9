use Rattle.std.proofs.Common.{arith}
use Rattle.amqp_base.specs.declared.shape.Setting.TheVariants.{Plain}
use Rattle.amqp_write.proofs.ManyTexts.{text_alone}
use Rattle.amqp_write.proofs.blocks.put_number.Goals as goal

pub returns-clause-text : goal.returns-clause-text
returns-clause-text g c =
    let p = c.put.ensures.text in
    record {
      bytes = p.bytes;
      texts = text_alone g.P.Texts.mark (g.T.Typed.meaning.item c.args.value Plain) p.bytes p.text.text p.text.flat;
      ends = p.ends;
      long = p.long;
      within = omega (arith, p.ends, p.long, p.text.short, c.in_ok-room.ensures, c.if-room-block.false);
      front = p.front;
    }
