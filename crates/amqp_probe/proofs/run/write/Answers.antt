use Rattle.std.proofs.Common.{ℕ}
use Rattle.std.proofs.lemmas.Result.{err_from_is_err_and}
use Rattle.std.proofs.lemmas.List.{take_rest}
use Rattle.amqp_probe.proofs.Faults.{fault_fails}
use Rattle.amqp_probe.proofs.Writes.{writes_on}
use Rattle.amqp_probe.proofs.run.write.Goals as goal

pub returns-in_err-n-clause-err : goal.returns-in_err-n-clause-err
returns-in_err-n-clause-err g c =
    let p = err_from_is_err_and c.from_residual.result c.from_residual.ensures.1 in
    let same = c.loop-rest.invariant.same in
    rw (p.1, ← same) (fault_fails ℕ _ c.in_err-n.field-0.0 _ _ _ _ c.in_err-n.ensures.counts p.2)

pub loop-rest-preserved : goal.loop-rest-preserved
loop-rest-preserved g c =
    let w = writes_on _ _ _ _ _ _ _ _ c.in_ok-n.n c.loop-rest.invariant c.in_ok-n.ensures.bytes c.in_ok-n.ensures.counts in
    rw (take_rest c.loop-rest.rest.now c.in_ok-n.n) w
