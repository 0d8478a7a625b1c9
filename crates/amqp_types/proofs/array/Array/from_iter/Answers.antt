-- The run that `collect` took is one of what the iterator became.
use Rattle.amqp_types.proofs.array.Array.from_iter.Goals as goal

pub returns-clause-runs : goal.returns-clause-runs
returns-clause-runs g c =
    let run = c.in_ok-collect.ensures.runs tt in
    (c.into_iter.result, c.into_iter.ensures.into_iter_gives, (run.0, run.1, run.2, run.3.0))
