use Rattle.amqp_de.proofs.FieldsBehind.{behind_found, behind_missed, none_missed, none_named, behind_named}
use Rattle.amqp_de.proofs.Naming.{named_dropped}
use Rattle.amqp_de.proofs.ReadParts.{missed_dropped}
use Rattle.amqp_de.proofs.deserializer.Deserializer.deserialize_described.Goals as goal

pub returns-in-Ok-deserialize-clause-ok : goal.returns-in-Ok-deserialize-clause-ok
returns-in-Ok-deserialize-clause-ok g c =
    let d = c.in-Ok.ensures.ok in
    behind_found _ _ _ d.descriptor _ _ _ d.wanted d.describes c.in-Ok-deserialize.ensures.ok

pub returns-in-Err-deserialize-clause-err : goal.returns-in-Err-deserialize-clause-err
returns-in-Err-deserialize-clause-err g c =
    let d = c.in-Ok.ensures.ok in
    rw c.stop.ensures (missed_dropped (behind_missed _ _ g.R.Read.buffers _ d.descriptor _ _ _ _ d.describes c.in-Err-deserialize.ensures.err))

pub returns-in-Err-deserialize-clause-named : goal.returns-in-Err-deserialize-clause-named
returns-in-Err-deserialize-clause-named g c =
    let d = c.in-Ok.ensures.ok in
    rw c.stop.ensures (named_dropped (behind_named _ g.T.Typed.meaning.refuses g.R.Read.buffers _ _ d.descriptor _ _ _ d.wanted d.describes c.in-Err-deserialize.ensures.named))

-- no such descriptor
pub returns-in-Err-clause-err : goal.returns-in-Err-clause-err
returns-in-Err-clause-err g c =
    let among = g.D.DescriptorSet.among c.args.descriptor.now in
    none_missed g.T.Typed.meaning.takes g.R.Read.buffers among _ _ _ c.in-Err.ensures.err

pub returns-in-Err-clause-named : goal.returns-in-Err-clause-named
returns-in-Err-clause-named g c =
    let among = g.D.DescriptorSet.among c.args.descriptor.now in
    none_named among g.T.Typed.meaning.refuses g.R.Read.buffers _ _ _ c.in-Err.ensures.err
