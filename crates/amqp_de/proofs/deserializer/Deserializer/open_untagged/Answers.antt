use Rattle.std.proofs.Common.{refl}
use Rattle.amqp_de.specs.Identifies.{identifier_of}
use Rattle.amqp_de.specs.VariantsRead.{payload_of}
use Rattle.amqp_de.proofs.FormsOpened.{answered}
use Rattle.amqp_de.proofs.VariantsTold.{untagged_here, untagged_refused}
use Rattle.amqp_de.proofs.deserializer.Deserializer.open_untagged.Goals as goal

pub returns-in-Ok-clause-ok : goal.returns-in-Ok-clause-ok
returns-in-Ok-clause-ok g c =
    let n = c.in-Ok.ensures in
    untagged_here (identifier_of c.in-Ok.identifier) (payload_of c.held_by-payload.result) c.in-Ok.identifier g.R.Read.buffers _ _ c.held_by-payload.ensures refl (answered _ _ n.stops) n.ok n.exact

pub returns-in-Err-clause-err : goal.returns-in-Err-clause-err
returns-in-Err-clause-err g c = let n = c.in-Err.ensures in untagged_refused g.R.Read.buffers _ _ c.in-Err.e n.stops n.err n.exact
