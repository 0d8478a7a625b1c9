use Rattle.amqp_write.specs.State.{stand}
use Rattle.amqp_write.proofs.Steps.{writes_whole}
use Rattle.amqp_ser.proofs.serializer.Serializer.leaf.Goals as goal

pub returns-in-Ok : goal.returns-in-Ok
unfolding stand
returns-in-Ok g c = rw (← c.self.view_is) (writes_whole _ _ _ _ c.if-self.false c.in-Ok.ensures.law)

pub returns-in-Err : goal.returns-in-Err
unfolding stand
returns-in-Err g c = rw (c.refused-in-Err.ensures, ← c.self.view_is) (writes_whole _ _ _ _ c.if-self.false c.in-Err.ensures.law)
