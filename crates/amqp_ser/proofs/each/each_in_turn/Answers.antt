-- The values one after the other, wherever they stand.
use Rattle.std.proofs.Common.{◌++◌, map, take, sym, ◌∙◌}
use Rattle.amqp_base.specs.declared.shape.Setting.TheVariants.{Plain}
use Rattle.amqp_ser.specs.Compound.{open_as}
use Rattle.amqp_write.proofs.PartTexts.{true_false}
use Rattle.amqp_ser.proofs.Compounds.{keeps_two, inner_answers}
use Rattle.amqp_ser.proofs.ManyParts.{each_next, each_begins, each_all}
use Rattle.amqp_ser.proofs.each.each_in_turn.Goals as goal

pub loop-value-preserved : goal.loop-value-preserved
unfolding open_as
loop-value-preserved g c =
    let item = λ (x : g.row.T.Denot). g.T.Typed.meaning.item x Plain in
    let vs = c.args.values.now in
    let k = c.loop-value.value-index in
    record {
      same_reference = c.in-Ok.ensures.same_reference ∙ c.loop-value.invariant.same_reference;
      kept = keeps_two _ _ _ c.loop-value.invariant.kept c.in-Ok.ensures.law.kept;
      holds = λ s shape xs h. each_next item s shape xs vs k c.value-item.result _ c.loop-value-test.true c.value-item.is (c.in-Ok.ensures.law.ok s shape (xs ++ map item (take k vs)) (c.loop-value.invariant.holds s shape xs h));
    }

pub returns-in-Err-clause-law : goal.returns-in-Err-clause-law
unfolding open_as
returns-in-Err-clause-law g c =
    let item = λ (x : g.row.T.Denot). g.T.Typed.meaning.item x Plain in
    let vs = c.args.values.now in
    let k = c.loop-value.value-index in
    record {
      ok = tt;
      err = λ s shape xs all h begins. c.in-Err.ensures.law.err s shape (xs ++ map item (take k vs)) all (c.loop-value.invariant.holds s shape xs h) (each_begins item xs all vs k c.value-item.result c.loop-value-test.true c.value-item.is begins);
      kept = keeps_two _ _ _ c.loop-value.invariant.kept c.in-Err.ensures.law.kept;
      stops = record {
        err = c.in-Err.ensures.law.stops.err;
        ended = λ h. absurd (true_false (sym h ∙ (inner_answers _ _ _ ∙ (sym c.has_ended.ensures ∙ c.if-has_ended.false))));
      };
    }

pub returns-clause-law : goal.returns-clause-law
unfolding open_as
returns-clause-law g c =
    let item = λ (x : g.row.T.Denot). g.T.Typed.meaning.item x Plain in
    record {
      ok = λ s shape xs h. each_all item s shape xs c.args.values.now c.loop-value.value-index _ c.loop-value-test.false (c.loop-value.invariant.holds s shape xs h);
      err = tt;
      kept = c.loop-value.invariant.kept;
      stops = record {
        err = tt;
        ended = λ h. absurd (true_false (sym h ∙ (inner_answers _ _ _ ∙ (sym c.has_ended.ensures ∙ c.if-has_ended.false))));
      };
    }
