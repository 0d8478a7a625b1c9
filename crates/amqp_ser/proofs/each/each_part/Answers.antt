-- Values that are written many at a time, and those behind them.
use Rattle.std.proofs.Common.{[], map, subst}
use Rattle.amqp_base.specs.declared.shape.Setting.TheVariants.{Plain}
use Rattle.amqp_ser.specs.Compound.{open_as, open_state, WritesEach}
use Rattle.amqp_ser.proofs.ManyParts.{each_two, each_refused, front_map}
use Rattle.amqp_ser.proofs.each.each_part.Goals as goal

pub returns-in-Ok-clause-law : goal.returns-in-Ok-clause-law
unfolding open_as
returns-in-Ok-clause-law g c =
    let item = λ (x : g.row.T.Denot). g.T.Typed.meaning.item x Plain in
    let all = front_map item c.args.values.now c.split_at.result.1.now c.in-Ok.count c.split_at.ensures.back in
    subst (λ is. WritesEach is (open_state c.args.seq.now) c.each_outside.result c.each_outside.new.seq.ser.now.state (open_state c.each_outside.new.seq)) all (each_two _ _ _ _ _ c.in-Ok.count _ _ _ c.in-Ok.ensures.law c.each_outside.ensures.law)

pub returns-in-Err-clause-law : goal.returns-in-Err-clause-law
unfolding open_as
returns-in-Err-clause-law g c =
    let item = λ (x : g.row.T.Denot). g.T.Typed.meaning.item x Plain in
    each_refused [] (map item c.args.values.now) _ _ c.in-Err.e _ c.in-Err.ensures.law
