use Rattle.amqp_base.specs.NamedFields.{takes_map}
use Rattle.amqp_de.specs.DescribedFields.{described_map_refusal}
use Rattle.amqp_de.proofs.FieldsBehind.{behind_found, behind_missed, none_missed, none_named, behind_named}
use Rattle.amqp_de.proofs.deserializer.Deserializer.deserialize_described_map.Goals as goal

pub returns-in-Ok-read_map_behind-clause-ok : goal.returns-in-Ok-read_map_behind-clause-ok
returns-in-Ok-read_map_behind-clause-ok g c =
    let d = c.in-Ok.ensures.ok in
    behind_found _ _ _ d.descriptor _ _ _ d.wanted d.describes c.in-Ok-read_map_behind.ensures.ok

pub returns-in-Err-read_map_behind-clause-err : goal.returns-in-Err-read_map_behind-clause-err
returns-in-Err-read_map_behind-clause-err g c =
    let d = c.in-Ok.ensures.ok in
    behind_missed _ _ g.R.Read.buffers _ d.descriptor _ _ _ _ d.describes c.in-Err-read_map_behind.ensures.err

pub returns-in-Err-read_map_behind-clause-named : goal.returns-in-Err-read_map_behind-clause-named
returns-in-Err-read_map_behind-clause-named g c =
    let d = c.in-Ok.ensures.ok in
    let s = g.S.Fields.slots c.args.fields in
    behind_named _ (described_map_refusal s.all_names g.S.Fields.takes g.S.Fields.refuses s.awaited) g.R.Read.buffers _ _ d.descriptor _ _ _ d.wanted d.describes c.in-Err-read_map_behind.ensures.named

-- no such descriptor
pub returns-in-Err-clause-err : goal.returns-in-Err-clause-err
returns-in-Err-clause-err g c =
    let among = g.D.DescriptorSet.among c.args.descriptor.now in
    let s = g.S.Fields.slots c.args.fields in
    none_missed (takes_map s.names s.kinds) g.R.Read.buffers among _ _ _ c.in-Err.ensures.err

pub returns-in-Err-clause-named : goal.returns-in-Err-clause-named
returns-in-Err-clause-named g c =
    let among = g.D.DescriptorSet.among c.args.descriptor.now in
    let s = g.S.Fields.slots c.args.fields in
    none_named among (described_map_refusal s.all_names g.S.Fields.takes g.S.Fields.refuses s.awaited) g.R.Read.buffers _ _ _ c.in-Err.ensures.err
