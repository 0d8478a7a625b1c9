use Rattle.amqp_types.specs.Descriptors.{descriptor_of}
use Rattle.amqp_data.proofs.LooksAhead.{descriptor_there, no_data}
use Rattle.amqp_data.proofs.ahead.descriptor_ahead.Goals as goal

pub returns-in-Ok-clause-ok : goal.returns-in-Ok-clause-ok
returns-in-Ok-clause-ok g c = descriptor_there c.in-Ok-Some.code (descriptor_of c.in-Ok.descriptor) _ _ _ c.peek_at.ensures.looked (rw c.in-Ok-Some.field-0-is at c.in-Ok-Some.ensures.ok) c.in-Ok.ensures.ok

pub returns-in-Err-data_ahead-clause-err : goal.returns-in-Err-data_ahead-clause-err
returns-in-Err-data_ahead-clause-err g c = no_data c.in-Ok-Some.code _ _ _ c.in-Err-data_ahead.e c.peek_at.ensures.looked (rw c.in-Ok-Some.field-0-is at c.in-Ok-Some.ensures.ok) c.in-Err-data_ahead.ensures.err
