use Rattle.std.proofs.Common.{arith}
use Rattle.amqp_data.proofs.MapHeaders.{bad_pairs, odd_pairs}
use Rattle.amqp_data.proofs.header.map_header.Goals as goal

pub returns-then-count-eq1-clause-err : goal.returns-then-count-eq1-clause-err
returns-then-count-eq1-clause-err g c = odd_pairs c.args.width c.in-Ok.size c.in-Ok.count g.R.Read.buffers _ _ c.in-Ok.ensures.ok (omega arith)

pub returns-in-Err-clause-err : goal.returns-in-Err-clause-err
returns-in-Err-clause-err g c = bad_pairs c.args.width g.R.Read.buffers _ _ _ c.in-Err.ensures.err
