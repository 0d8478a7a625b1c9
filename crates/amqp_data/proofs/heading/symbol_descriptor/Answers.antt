use Rattle.amqp_data.proofs.Descriptors.{symbol_refused}
use Rattle.amqp_data.proofs.heading.symbol_descriptor.Goals as goal

pub returns-in-Err-clause-err : goal.returns-in-Err-clause-err
returns-in-Err-clause-err g c = λ custom s. symbol_refused custom c.args.code _ _ _ c.requires c.in-Err.ensures.err
