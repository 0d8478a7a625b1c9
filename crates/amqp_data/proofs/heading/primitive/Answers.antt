use Rattle.amqp_data.proofs.Descriptors.{primitive_zero, primitive_of}
use Rattle.amqp_data.proofs.heading.primitive.Goals as goal

pub returns-then-byte-eq-DESCRIBED_TYPE : goal.returns-then-byte-eq-DESCRIBED_TYPE
returns-then-byte-eq-DESCRIBED_TYPE g = primitive_zero g.args.byte g.if-byte-eq-DESCRIBED_TYPE.true

pub returns : goal.returns
returns g = primitive_of g.args.byte g.try_from.result (λ h. g.if-byte-eq-DESCRIBED_TYPE.false h) g.try_from.ensures
