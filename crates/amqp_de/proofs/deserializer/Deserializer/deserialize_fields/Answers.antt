use Rattle.std.proofs.Common.{refl}
use Rattle.amqp_de.proofs.PartsRead.{missed_more}
use Rattle.amqp_de.proofs.NamedFields.{code_named, map_named, list_named}
use Rattle.amqp_de.proofs.StructForms.{found_map, found_row, missed_map, missed_row, missed_code}
use Rattle.amqp_de.proofs.deserializer.Deserializer.deserialize_fields.Goals as goal

pub returns-in-Ok-read_map-clause-ok : goal.returns-in-Ok-read_map-clause-ok
returns-in-Ok-read_map-clause-ok g c = found_map _ _ g.R.Read.buffers _ _ _ c.in-Ok.code _ c.in-Ok.ensures.ok c.in-Ok-read_map.ensures.ok

pub returns-in-Err-read_map-clause-err : goal.returns-in-Err-read_map-clause-err
returns-in-Err-read_map-clause-err g c = missed_map _ _ g.R.Read.buffers _ _ _ c.in-Ok.code c.in-Err-read_map.e (c.is_map.ensures.yes c.if-is_map.true) c.in-Ok.ensures.ok c.in-Err-read_map.ensures.err

pub returns-in-Ok-deserialize_row-clause-ok : goal.returns-in-Ok-deserialize_row-clause-ok
returns-in-Ok-deserialize_row-clause-ok g c = found_row _ _ g.R.Read.buffers _ _ _ c.in-Ok.code _ c.in-Ok.ensures.ok c.in-Ok-deserialize_row.ensures.ok

pub returns-in-Err-deserialize_row-clause-err : goal.returns-in-Err-deserialize_row-clause-err
returns-in-Err-deserialize_row-clause-err g c = missed_row _ _ g.R.Read.buffers _ _ _ c.in-Ok.code c.in-Err-deserialize_row.e (c.is_map.ensures.no c.if-is_map.false) c.in-Ok.ensures.ok (missed_more (λ _. refl) c.in-Err-deserialize_row.ensures.err)

pub returns-in-Err-clause-err : goal.returns-in-Err-clause-err
returns-in-Err-clause-err g c = missed_code _ _ g.R.Read.buffers _ _ _ c.in-Err.ensures.err

-- ---- refusals by name

pub returns-in-Err-read_map-clause-named : goal.returns-in-Err-read_map-clause-named
returns-in-Err-read_map-clause-named g c = map_named (g.S.Fields.slots c.args.fields) g.S.Fields.takes g.S.Fields.refuses g.R.Read.buffers _ _ _ _ c.in-Ok.code (c.is_map.ensures.yes c.if-is_map.true) c.in-Ok.ensures.ok c.in-Err-read_map.ensures.named

pub returns-in-Err-deserialize_row-clause-named : goal.returns-in-Err-deserialize_row-clause-named
returns-in-Err-deserialize_row-clause-named g c = list_named (g.S.Fields.slots c.args.fields) g.S.Fields.takes g.S.Fields.refuses g.R.Read.buffers _ _ _ _ c.in-Ok.code (c.is_map.ensures.no c.if-is_map.false) c.in-Ok.ensures.ok c.in-Err-deserialize_row.ensures.named

pub returns-in-Err-clause-named : goal.returns-in-Err-clause-named
returns-in-Err-clause-named g c = code_named (g.S.Fields.slots c.args.fields) g.S.Fields.takes g.S.Fields.refuses g.R.Read.buffers _ _ _ c.in-Err.ensures.err
