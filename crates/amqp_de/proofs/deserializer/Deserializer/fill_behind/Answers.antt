use Rattle.amqp_base.specs.Describing.{described_list_refusal}
use Rattle.amqp_base.specs.Leading.{takes_leading}
use Rattle.amqp_de.proofs.FieldsBehind.{behind_found, behind_missed, none_missed, none_named, behind_named}
use Rattle.amqp_de.proofs.deserializer.Deserializer.fill_behind.Goals as goal

pub returns-in-Ok-read_list_behind-clause-ok : goal.returns-in-Ok-read_list_behind-clause-ok
returns-in-Ok-read_list_behind-clause-ok g c =
    let d = c.in-Ok.ensures.ok in
    let read = c.in-Ok-read_list_behind.ensures.ok in
    record { full = read.full; values = λ vs h. behind_found _ _ _ d.descriptor _ _ _ d.wanted d.describes (read.values vs h) }

pub returns-in-Err-read_list_behind-clause-err : goal.returns-in-Err-read_list_behind-clause-err
returns-in-Err-read_list_behind-clause-err g c =
    let d = c.in-Ok.ensures.ok in
    behind_missed _ _ g.R.Read.buffers _ d.descriptor _ _ _ _ d.describes c.in-Err-read_list_behind.ensures.err

pub returns-in-Err-read_list_behind-clause-named : goal.returns-in-Err-read_list_behind-clause-named
returns-in-Err-read_list_behind-clause-named g c =
    let d = c.in-Ok.ensures.ok in
    let s = g.S.Fields.slots c.args.fields.now in
    behind_named _ (described_list_refusal s.awaited g.S.Fields.takes g.S.Fields.refuses) g.R.Read.buffers _ _ d.descriptor _ _ _ d.wanted d.describes c.in-Err-read_list_behind.ensures.named

-- no such descriptor
pub returns-in-Err-clause-err : goal.returns-in-Err-clause-err
returns-in-Err-clause-err g c =
    let among = g.D.DescriptorSet.among c.args.descriptor.now in
    none_missed (takes_leading (g.S.Fields.slots c.args.fields.now).kinds) g.R.Read.buffers among _ _ _ c.in-Err.ensures.err

pub returns-in-Err-clause-named : goal.returns-in-Err-clause-named
returns-in-Err-clause-named g c =
    let among = g.D.DescriptorSet.among c.args.descriptor.now in
    let s = g.S.Fields.slots c.args.fields.now in
    none_named among (described_list_refusal s.awaited g.S.Fields.takes g.S.Fields.refuses) g.R.Read.buffers _ _ _ c.in-Err.ensures.err
