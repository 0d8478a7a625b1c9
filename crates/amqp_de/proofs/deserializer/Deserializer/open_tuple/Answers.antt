use Rattle.std.proofs.Common.{arith}
use Rattle.amqp_de.proofs.JustSoMany.{tuple_exactly, tuple_unopened, other_tuple, tuple_refused}
use Rattle.amqp_de.proofs.ReadParts.{progress_start}
use Rattle.amqp_de.proofs.deserializer.Deserializer.open_tuple.Goals as goal

pub returns-then-opened-len-clause-err : goal.returns-then-opened-len-clause-err
returns-then-opened-len-clause-err g c = rw c.stop.ensures (tuple_refused c.args.len g.R.Read.buffers _ _ _ (other_tuple c.args.len g.R.Read.buffers _ _ c.in-Ok.ensures.ok c.in-Ok.ensures.exact (λ h. absurd (omega (arith, h, c.if-opened-len.true)))))

pub returns-else-opened-len-clause-exact : goal.returns-else-opened-len-clause-exact
returns-else-opened-len-clause-exact g c = tuple_exactly c.args.len _ _ c.in-Ok.ensures.exact (omega (arith, c.if-opened-len.false))

pub returns-else-opened-len-clause-progress : goal.returns-else-opened-len-clause-progress
returns-else-opened-len-clause-progress g c = progress_start _ _ c.in-Ok.ensures.ok

pub returns-in-Err-clause-err : goal.returns-in-Err-clause-err
returns-in-Err-clause-err g c = tuple_refused c.args.len g.R.Read.buffers _ _ _ (tuple_unopened c.args.len g.R.Read.buffers _ _ _ c.in-Err.ensures.err)
