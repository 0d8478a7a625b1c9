use Rattle.std.proofs.Common.{refl}
use Rattle.amqp_base.specs.Codes.{Kind}
use Rattle.amqp_base.specs.Leading.{leading_data, leading_part_refusal}
use Rattle.amqp_base.specs.Refusing.{awaited_count}
use Rattle.amqp_de.proofs.FieldsBehind.{list_kind, other_missed, other_named, unseen_named, kind_named}
use Rattle.amqp_de.proofs.LookedFirst.{found_behind, missed_behind, missed_unseen}
use Rattle.amqp_de.proofs.deserializer.Deserializer.read_list_behind.Goals as goal

-- another code stands there
pub returns-then-not-is_list-clause-err : goal.returns-then-not-is_list-clause-err
returns-then-not-is_list-clause-err g c = rw c.stop.ensures (other_missed Kind.list _ (list_kind _) g.R.Read.buffers _ _ c.in-Ok.code _ _ c.in-Ok.ensures.ok (c.is_list.ensures.no c.if-not-is_list.true) c.custom.ensures)

pub returns-then-not-is_list-clause-named : goal.returns-then-not-is_list-clause-named
returns-then-not-is_list-clause-named g c =
    let s = g.S.Fields.slots c.args.fields.now in
    rw c.stop.ensures (other_named Kind.list (leading_data (awaited_count s.awaited)) (leading_part_refusal s.awaited g.S.Fields.takes g.S.Fields.refuses) g.R.Read.buffers _ _ c.in-Ok.code _ _ c.in-Ok.ensures.ok (c.is_list.ensures.no c.if-not-is_list.true) c.custom.ensures)

-- a list
pub returns-in-Ok-deserialize_leading-clause-ok : goal.returns-in-Ok-deserialize_leading-clause-ok
returns-in-Ok-deserialize_leading-clause-ok g c =
    let read = c.in-Ok-deserialize_leading.ensures.ok in
    record { full = read.full; values = λ vs h. found_behind _ _ _ _ _ c.in-Ok.code c.in-Ok.ensures.ok (read.values vs h) }

pub returns-in-Err-deserialize_leading-clause-err : goal.returns-in-Err-deserialize_leading-clause-err
returns-in-Err-deserialize_leading-clause-err g c = missed_behind _ _ _ _ g.R.Read.buffers _ _ _ c.in-Ok.code _ (λ h. refl) (λ i t. t) c.in-Ok.ensures.ok c.in-Err-deserialize_leading.ensures.err

pub returns-in-Err-deserialize_leading-clause-named : goal.returns-in-Err-deserialize_leading-clause-named
returns-in-Err-deserialize_leading-clause-named g c =
    let s = g.S.Fields.slots c.args.fields.now in
    kind_named Kind.list (leading_data (awaited_count s.awaited)) (leading_part_refusal s.awaited g.S.Fields.takes g.S.Fields.refuses) g.R.Read.buffers _ _ _ c.in-Ok.code _ (c.is_list.ensures.yes c.if-not-is_list.false) c.in-Ok.ensures.ok c.in-Err-deserialize_leading.ensures.named

-- no code
pub returns-in-Err-clause-err : goal.returns-in-Err-clause-err
returns-in-Err-clause-err g c = missed_unseen _ _ g.R.Read.buffers _ _ _ (λ h. refl) c.in-Err.ensures.err

pub returns-in-Err-clause-named : goal.returns-in-Err-clause-named
returns-in-Err-clause-named g c =
    let s = g.S.Fields.slots c.args.fields.now in
    unseen_named Kind.list (leading_data (awaited_count s.awaited)) (leading_part_refusal s.awaited g.S.Fields.takes g.S.Fields.refuses) g.R.Read.buffers _ _ _ c.in-Err.ensures.err
