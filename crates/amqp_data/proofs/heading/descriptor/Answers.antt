use Rattle.amqp_base.specs.Parse.{descriptor_data}
use Rattle.amqp_base.specs.Parse.{behind_byte}
use Rattle.amqp_types.specs.Descriptors.{descriptor_of}
use Rattle.amqp_data.proofs.Descriptors.{takes_descriptor, behind_first, byte_missing}
use Rattle.amqp_data.proofs.heading.descriptor.Goals as goal

pub returns-in-Ok-descriptor_behind-clause-ok : goal.returns-in-Ok-descriptor_behind-clause-ok
returns-in-Ok-descriptor_behind-clause-ok g c = takes_descriptor (descriptor_of c.in-Ok-descriptor_behind.descriptor) c.in-Ok.code _ _ _ c.in-Ok.ensures.ok c.in-Ok-descriptor_behind.ensures.ok

pub returns-in-Err-descriptor_behind-clause-err : goal.returns-in-Err-descriptor_behind-clause-err
returns-in-Err-descriptor_behind-clause-err g c = λ custom s. behind_first (behind_byte (descriptor_data custom)) g.R.Read.buffers c.in-Ok.code _ _ _ _ c.in-Ok.ensures.ok (c.in-Err-descriptor_behind.ensures.err custom s)

pub returns-in-Err-clause-err : goal.returns-in-Err-clause-err
returns-in-Err-clause-err g c = λ custom s. byte_missing (λ b. behind_byte (descriptor_data custom) b.0 b.1) g.R.Read.buffers _ _ _ c.in-Err.ensures.err
