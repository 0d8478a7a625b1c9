use Rattle.amqp_data.proofs.KeyData.{string_refused}
use Rattle.amqp_data.proofs.keys.string_key.Goals as goal

pub returns-in-Err-clause-err : goal.returns-in-Err-clause-err
returns-in-Err-clause-err g c = string_refused c.args.code _ _ _ c.requires c.in-Err.ensures.err
