use Rattle.std.proofs.Common.{refl}
use Rattle.amqp_base.specs.Codes.{Kind}
use Rattle.amqp_base.specs.Parse.{list_data}
use Rattle.amqp_de.proofs.FormsOpened.{answered}
use Rattle.amqp_de.proofs.StructsBehind.{parts_behind, header_refused, other_code, no_code}
use Rattle.amqp_de.proofs.deserializer.Deserializer.open_list_behind.Goals as goal

pub returns-then-not-is_list-clause-err : goal.returns-then-not-is_list-clause-err
returns-then-not-is_list-clause-err g c = rw c.stop.ensures (record { rejects = λ a. other_code Kind.list list_data _ g.R.Read.buffers _ c.in-Ok.code _ _ (c.is_list.ensures.no c.if-not-is_list.true) c.in-Ok.ensures.ok c.custom.ensures; ended = refl })

pub returns-in-Ok-open_list-clause-ok : goal.returns-in-Ok-open_list-clause-ok
returns-in-Ok-open_list-clause-ok g c =
    let o = c.in-Ok-open_list.ensures in
    parts_behind Kind.list list_data _ _ c.in-Ok.code _ (c.is_list.ensures.yes c.if-not-is_list.false) c.in-Ok.ensures.ok (answered _ _ c.in-Ok.ensures.stops) o.ok o.exact o.plain

pub returns-in-Err-open_list-clause-err : goal.returns-in-Err-open_list-clause-err
returns-in-Err-open_list-clause-err g c =
    let n = c.in-Err-open_list.ensures.err in
    record { rejects = λ a. header_refused Kind.list list_data _ g.R.Read.buffers _ _ c.in-Ok.code _ (c.is_list.ensures.yes c.if-not-is_list.false) c.in-Ok.ensures.ok n; ended = n.ended }

pub returns-in-Err-clause-err : goal.returns-in-Err-clause-err
returns-in-Err-clause-err g c = record { rejects = λ a. no_code Kind.list list_data _ g.R.Read.buffers _ _ a c.in-Err.ensures.err; ended = c.in-Err.ensures.stops.err }
