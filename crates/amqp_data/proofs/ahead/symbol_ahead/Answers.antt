use Rattle.std.proofs.Common.{string_bytes}
use Rattle.amqp_data.proofs.LooksAhead.{symbol_there, symbol_missing}
use Rattle.amqp_data.proofs.ahead.symbol_ahead.Goals as goal

pub returns-in-Ok-clause-ok : goal.returns-in-Ok-clause-ok
returns-in-Ok-clause-ok g c = symbol_there c.args.code c.args.width (string_bytes c.in-Ok.text) _ _ c.requires c.in-Ok.ensures.ok

pub returns-in-Err-clause-err : goal.returns-in-Err-clause-err
returns-in-Err-clause-err g c = symbol_missing c.args.code c.args.width _ _ c.in-Err.e c.requires c.in-Err.ensures.err
