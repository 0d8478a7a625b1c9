use Rattle.std.proofs.Common.{refl}
use Rattle.amqp_base.specs.Codes.{Kind}
use Rattle.amqp_base.specs.Parse.{map_data}
use Rattle.amqp_base.specs.Refusing.{fields_refusal}
use Rattle.amqp_de.proofs.FieldsBehind.{map_kind, other_missed, other_named, unseen_named, kind_named}
use Rattle.amqp_de.proofs.LookedFirst.{found_behind, missed_behind, missed_unseen}
use Rattle.amqp_de.proofs.deserializer.Deserializer.read_map_behind.Goals as goal

-- another code stands there
pub returns-then-not-is_map-clause-err : goal.returns-then-not-is_map-clause-err
returns-then-not-is_map-clause-err g c = rw c.stop.ensures (other_missed Kind.map _ (map_kind _ _) g.R.Read.buffers _ _ c.in-Ok.code _ _ c.in-Ok.ensures.ok (c.is_map.ensures.no c.if-not-is_map.true) c.custom.ensures)

pub returns-then-not-is_map-clause-named : goal.returns-then-not-is_map-clause-named
returns-then-not-is_map-clause-named g c =
    let s = g.S.Fields.slots c.args.fields in
    rw c.stop.ensures (other_named Kind.map map_data (fields_refusal s.all_names g.S.Fields.takes g.S.Fields.refuses s.awaited) g.R.Read.buffers _ _ c.in-Ok.code _ _ c.in-Ok.ensures.ok (c.is_map.ensures.no c.if-not-is_map.true) c.custom.ensures)

-- a map
pub returns-in-Ok-read_map-clause-ok : goal.returns-in-Ok-read_map-clause-ok
returns-in-Ok-read_map-clause-ok g c = found_behind _ _ _ _ _ c.in-Ok.code c.in-Ok.ensures.ok c.in-Ok-read_map.ensures.ok

pub returns-in-Err-read_map-clause-err : goal.returns-in-Err-read_map-clause-err
returns-in-Err-read_map-clause-err g c = missed_behind _ _ _ _ g.R.Read.buffers _ _ _ c.in-Ok.code _ (λ h. refl) (λ i t. t) c.in-Ok.ensures.ok c.in-Err-read_map.ensures.err

pub returns-in-Err-read_map-clause-named : goal.returns-in-Err-read_map-clause-named
returns-in-Err-read_map-clause-named g c =
    let s = g.S.Fields.slots c.args.fields in
    kind_named Kind.map map_data (fields_refusal s.all_names g.S.Fields.takes g.S.Fields.refuses s.awaited) g.R.Read.buffers _ _ _ c.in-Ok.code _ (c.is_map.ensures.yes c.if-not-is_map.false) c.in-Ok.ensures.ok c.in-Err-read_map.ensures.named

-- no code
pub returns-in-Err-clause-err : goal.returns-in-Err-clause-err
returns-in-Err-clause-err g c = missed_unseen _ _ g.R.Read.buffers _ _ _ (λ h. refl) c.in-Err.ensures.err

pub returns-in-Err-clause-named : goal.returns-in-Err-clause-named
returns-in-Err-clause-named g c =
    let s = g.S.Fields.slots c.args.fields in
    unseen_named Kind.map map_data (fields_refusal s.all_names g.S.Fields.takes g.S.Fields.refuses s.awaited) g.R.Read.buffers _ _ _ c.in-Err.ensures.err
