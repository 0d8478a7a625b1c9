-- An entry's texts are put behind the others.
use Rattle.std.proofs.Common.{arith}
use Rattle.amqp_base.specs.declared.shape.Setting.TheVariants.{Plain}
use Rattle.amqp_ser.proofs.Gathered.{gathers_more}
use Rattle.amqp_ser.proofs.entries.Gathered.put.Goals as goal

pub returns-clause-more : goal.returns-clause-more
returns-clause-more g c = λ s xs q h.
    let key = g.K.Typed.meaning.item c.args.key.now Plain in
    let value = g.V.Typed.meaning.item c.args.value.now Plain in
    gathers_more s xs q c.args.self _ c.args.block.now c.put_two.new.block key value h c.in_ok-end.ensures.texts (omega (arith, c.in_ok-count.ensures.1))
