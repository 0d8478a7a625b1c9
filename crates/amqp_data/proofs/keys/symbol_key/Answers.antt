use Rattle.amqp_data.proofs.KeyData.{symbol_refused}
use Rattle.amqp_data.proofs.keys.symbol_key.Goals as goal

pub returns-in-Err-clause-err : goal.returns-in-Err-clause-err
returns-in-Err-clause-err g c = symbol_refused c.args.code _ _ _ c.requires c.in-Err.ensures.err
