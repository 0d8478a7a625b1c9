use Rattle.std.proofs.Common.{ℕ}
use Rattle.std.proofs.lemmas.Result.{err_from_is_err_and}
use Rattle.amqp_probe.proofs.Faults.{fault_fails}
use Rattle.amqp_probe.proofs.lines.Lines.fill.Goals as goal

pub returns-in_err-n-clause-err : goal.returns-in_err-n-clause-err
returns-in_err-n-clause-err g c =
    let p = err_from_is_err_and c.from_residual.result c.from_residual.ensures.1 in
    rw p.1 (fault_fails ℕ _ c.in_err-n.field-0.0 _ _ _ _ c.in_err-n.ensures.counts p.2)
