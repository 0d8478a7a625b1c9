use Rattle.std.proofs.Common.{arith}
use Rattle.amqp_base.specs.Parse.{descriptor_data}
use Rattle.amqp_data.proofs.Descriptors.{no_descriptor, no_code_there}
use Rattle.amqp_data.proofs.heading.descriptor_behind.Goals as goal

pub returns-in-Ok-clause-err : goal.returns-in-Ok-clause-err
returns-in-Ok-clause-err g c = λ custom s. no_descriptor g.R.Read.buffers custom c.args.code c.in-Ok.field-0 _ _ _ c.in-Ok.ensures (λ h. omega arith) (λ h. omega arith) (λ h. omega arith) (λ h. omega arith) (λ h. omega arith) c.custom.ensures s

pub returns-in-Err-clause-err : goal.returns-in-Err-clause-err
returns-in-Err-clause-err g c = λ custom s. no_code_there (descriptor_data custom) c.args.code _ _ c.in-Err.ensures
