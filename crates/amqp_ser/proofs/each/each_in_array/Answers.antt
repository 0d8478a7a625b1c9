-- The first value, and the others behind it.
use Rattle.std.proofs.Common.{map, subst, Err}
use Rattle.amqp_base.specs.declared.shape.Setting.TheVariants.{Plain}
use Rattle.amqp_ser.specs.Compound.{open_as, open_state, WritesEach}
use Rattle.amqp_ser.proofs.ManyParts.{each_two, each_refused, split_map}
use Rattle.amqp_ser.proofs.each.each_in_array.Goals as goal

pub returns-in-Ok-clause-law : goal.returns-in-Ok-clause-law
unfolding open_as
returns-in-Ok-clause-law g c =
    let item = λ (x : g.row.T.Denot). g.T.Typed.meaning.item x Plain in
    let all = split_map item c.args.values.now c.split_at.result.0.now c.split_at.result.1.now _ c.split_at.ensures.front c.split_at.ensures.back in
    subst (λ is. WritesEach is (open_state c.args.seq.now) c.each_further.result c.each_further.new.seq.ser.now.state (open_state c.each_further.new.seq)) all (each_two _ _ _ _ _ tt _ _ _ c.in-Ok.ensures.law c.each_further.ensures.law)

pub returns-in-Err-clause-law : goal.returns-in-Err-clause-law
unfolding open_as
returns-in-Err-clause-law g c =
    let item = λ (x : g.row.T.Denot). g.T.Typed.meaning.item x Plain in
    let all = split_map item c.args.values.now c.split_at.result.0.now c.split_at.result.1.now _ c.split_at.ensures.front c.split_at.ensures.back in
    subst (λ is. WritesEach {A = Unit {0}} is (open_state c.args.seq.now) (Err c.in-Err.e) c.each_in_turn.new.seq.ser.now.state (open_state c.each_in_turn.new.seq)) all (each_refused _ (map item c.split_at.result.1.now) _ _ _ _ c.in-Err.ensures.law)
