use Rattle.amqp_base.specs.Codes.{code_of}
use Rattle.amqp_base.specs.Parse.{with_rest, code_or_refusal}
use Rattle.amqp_data.proofs.Descriptors.{takes_primitive, no_primitive, byte_missing}
use Rattle.amqp_data.proofs.heading.primitive_code.Goals as goal

pub returns-in-Ok-primitive-clause-ok : goal.returns-in-Ok-primitive-clause-ok
returns-in-Ok-primitive-clause-ok g c = takes_primitive c.in-Ok.byte c.in-Ok-primitive.code _ _ c.in-Ok.ensures.ok c.in-Ok-primitive.ensures

pub returns-in-Err-primitive-clause-err : goal.returns-in-Err-primitive-clause-err
returns-in-Err-primitive-clause-err g c = no_primitive g.R.Read.buffers c.in-Ok.byte _ _ _ c.in-Ok.ensures.ok c.in-Err-primitive.ensures

pub returns-in-Err-clause-err : goal.returns-in-Err-clause-err
returns-in-Err-clause-err g c = byte_missing (λ b. with_rest b.1 (code_or_refusal (code_of b.0))) g.R.Read.buffers _ _ _ c.in-Err.ensures.err
