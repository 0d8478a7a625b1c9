use Rattle.std.proofs.Common.{arith}
use Rattle.amqp_data.proofs.LooksAhead.{zero_there, other_there}
use Rattle.amqp_data.proofs.ahead.data_ahead.Goals as goal

pub returns-in-68-clause-ok : goal.returns-in-68-clause-ok
returns-in-68-clause-ok g c = zero_there c.args.code _ c.in-68.is

pub returns-in_default-clause-err : goal.returns-in_default-clause-err
returns-in_default-clause-err g c = other_there c.args.code _ (λ h. omega arith) (λ h. omega arith) (λ h. omega arith) (λ h. omega arith) (λ h. omega arith)
