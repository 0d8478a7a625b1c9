use Rattle.std.proofs.Common.{arith}
use Rattle.amqp_write.proofs.DescribedSteps.{code_fits}
use Rattle.amqp_write.proofs.described.is_too_great.Goals as goal

pub returns-clause-text : goal.returns-clause-text
returns-clause-text c = code_fits c.args.number (omega arith)
