use Rattle.amqp_data.proofs.LooksAhead.{ulong_there, ulong_missing}
use Rattle.amqp_data.proofs.ahead.ulong_ahead.Goals as goal

pub returns-in-Ok-clause-ok : goal.returns-in-Ok-clause-ok
returns-in-Ok-clause-ok g c = ulong_there c.args.code c.args.width c.in-Ok.number _ _ c.requires c.in-Ok.ensures.ok

pub returns-in-Err-clause-err : goal.returns-in-Err-clause-err
returns-in-Err-clause-err g c = ulong_missing c.args.code c.args.width _ _ c.in-Err.e c.requires c.in-Err.ensures.err
