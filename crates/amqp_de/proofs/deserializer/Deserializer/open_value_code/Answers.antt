use Rattle.amqp_de.proofs.FormsOpened.{answered}
use Rattle.amqp_de.proofs.VariantsTold.{value_here, value_unlooked}
use Rattle.amqp_de.proofs.deserializer.Deserializer.open_value_code.Goals as goal

pub returns-in-Ok-clause-ok : goal.returns-in-Ok-clause-ok
returns-in-Ok-clause-ok g c = rw (c.itself.ensures.identifier, c.itself.ensures.payload) (value_here c.in-Ok.code _ _ (answered _ _ c.in-Ok.ensures.stops) c.in-Ok.ensures.ok)

pub returns-in-Err-clause-err : goal.returns-in-Err-clause-err
returns-in-Err-clause-err g c = value_unlooked g.R.Read.buffers _ _ c.in-Err.e c.in-Err.ensures.stops c.in-Err.ensures.err
