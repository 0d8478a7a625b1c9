use Rattle.std.proofs.Common.{take, refl, arith}
use Rattle.amqp_write.specs.State.{stand}
use Rattle.amqp_write.proofs.Bytes.{going_more, going_none, appended_fault, appended_all, empty_list, cut, measure_start, appends_in, keeps_in, plan_step, measure_step}
use Rattle.amqp_write.proofs.place.Place.append.Goals as goal

pub loop-rest-init : goal.loop-rest-init
unfolding stand
loop-rest-init g c = going_none _ _ (measure_start _ _)

pub loop-rest-preserved : goal.loop-rest-preserved
unfolding stand
loop-rest-preserved g c =
    let bound = c.in-Ok.ensures.bound in
    going_more _ _ _ _ _ (take c.in-Ok.n c.loop-rest.rest.now) _ c.loop-rest.invariant (cut c.in-Ok.n _ _ (omega (arith, bound))) (appends_in _ _ _ _ c.in-Ok.ensures.bytes) (plan_step _ _ _ _ _ c.in-Ok.ensures.plan) (measure_step _ _ _ _ _ bound c.in-Ok.ensures.measure) c.in-Ok.ensures.counts c.in-Ok.ensures.kind c.in-Ok.ensures.grows refl

pub returns : goal.returns
unfolding stand
returns g c = appended_all _ _ _ _ c.loop-rest.rest.now (empty_list _ _ c.loop-rest-test.false c.is_empty.ensures) c.loop-rest.invariant

pub returns-in-Err : goal.returns-in-Err
unfolding stand
returns-in-Err g c = appended_fault _ _ _ _ _ c.in-Err.kind _ c.loop-rest.invariant refl (keeps_in _ _ _ c.in-Err.ensures.bytes) c.in-Err.ensures.counts c.in-Err.ensures.kind c.in-Err.ensures.grows refl
