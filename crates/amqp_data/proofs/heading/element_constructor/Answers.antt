use Rattle.amqp_types.specs.Descriptors.{descriptor_of}
use Rattle.amqp_data.proofs.Descriptors.{under_code, under_descriptor, no_first, no_name, no_code_behind, no_constructor}
use Rattle.amqp_data.proofs.heading.element_constructor.Goals as goal

pub returns-in-Ok-primitive_code-clause-ok : goal.returns-in-Ok-primitive_code-clause-ok
returns-in-Ok-primitive_code-clause-ok g c = under_descriptor c.in-Ok.first (descriptor_of c.in-Ok-descriptor.name) c.in-Ok-primitive_code.code _ _ _ _ c.if-first-eq-DESCRIBED_TYPE.true c.in-Ok.ensures.ok c.in-Ok-descriptor.ensures.ok c.in-Ok-primitive_code.ensures.ok

pub returns-in-Err-primitive_code-clause-err : goal.returns-in-Err-primitive_code-clause-err
returns-in-Err-primitive_code-clause-err g c = λ custom s. no_code_behind custom g.R.Read.buffers c.in-Ok.first (descriptor_of c.in-Ok-descriptor.name) _ _ _ _ _ c.if-first-eq-DESCRIBED_TYPE.true c.in-Ok.ensures.ok c.in-Ok-descriptor.ensures.ok c.in-Err-primitive_code.ensures.err

pub returns-in-Err-descriptor-clause-err : goal.returns-in-Err-descriptor-clause-err
returns-in-Err-descriptor-clause-err g c = λ custom s. no_name custom g.R.Read.buffers c.in-Ok.first _ _ _ _ c.if-first-eq-DESCRIBED_TYPE.true c.in-Ok.ensures.ok (c.in-Err-descriptor.ensures.err custom s)

pub returns-in-Ok-primitive-clause-ok : goal.returns-in-Ok-primitive-clause-ok
returns-in-Ok-primitive-clause-ok g c = under_code c.in-Ok.first c.in-Ok-primitive.code _ _ c.in-Ok.ensures.ok c.in-Ok-primitive.ensures

pub returns-in-Err-primitive-clause-err : goal.returns-in-Err-primitive-clause-err
returns-in-Err-primitive-clause-err g c = λ custom s. no_constructor custom g.R.Read.buffers c.in-Ok.first _ _ _ (λ h. c.if-first-eq-DESCRIBED_TYPE.false h) c.in-Ok.ensures.ok c.in-Err-primitive.ensures

pub returns-in-Err-clause-err : goal.returns-in-Err-clause-err
returns-in-Err-clause-err g c = λ custom s. no_first custom g.R.Read.buffers _ _ _ c.in-Err.ensures.err
