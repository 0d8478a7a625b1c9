use Rattle.amqp_base.specs.declared.shape.Setting.TheVariants.{Plain}
use Rattle.amqp_ser.proofs.Gathered.{puts_two}
use Rattle.amqp_ser.proofs.entries.put_two.Goals as goal

pub returns-clause-texts : goal.returns-clause-texts
returns-clause-texts g c = puts_two (g.K.Typed.meaning.item c.args.key.now Plain) (g.V.Typed.meaning.item c.args.value.now Plain) c.args.at c.in_ok-middle.middle c.in_ok-end.end c.args.block.now c.put_text.new.block c.put_text-2.new.block c.in_ok-middle.ensures.text c.in_ok-end.ensures.text
