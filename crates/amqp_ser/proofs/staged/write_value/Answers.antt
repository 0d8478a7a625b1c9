use Rattle.amqp_ser.proofs.Stages.{wrote_value}
use Rattle.amqp_ser.proofs.staged.write_value.Goals as goal

pub returns-in-Ok-clause-ok : goal.returns-in-Ok-clause-ok
returns-in-Ok-clause-ok g c = rw c.set_ended-in-Ok.ensures (λ s b xs h. wrote_value s _ _ b xs c.args.of.now c.in-First.field-0 c.in-First.descriptor _ _ c.in-Given.is c.in-First.is (g.T.Typed.meaning.in_described_basic c.args.value.now) (rw c.set_ended.ensures at c.in-Ok.ensures.ok) h)
