use Rattle.amqp_de.proofs.DescribedAhead.{none_described, unseen_described}
use Rattle.amqp_de.proofs.FormsOpened.{answered}
use Rattle.amqp_de.proofs.deserializer.Deserializer.look_described.Goals as goal

pub returns-in_default-clause-err : goal.returns-in_default-clause-err
returns-in_default-clause-err g c = rw c.stop.ensures (none_described g.R.Read.buffers _ _ c.in-Ok.code c.in_default.not-DescribedType (answered _ _ c.in-Ok.ensures.stops) c.in-Ok.ensures.ok)

pub returns-in-Err-clause-err : goal.returns-in-Err-clause-err
returns-in-Err-clause-err g c = unseen_described g.R.Read.buffers _ _ _ c.in-Err.ensures.err c.in-Err.ensures.stops.err c.in-Err.ensures.stops.if_ended
