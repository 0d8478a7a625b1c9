use Rattle.std.proofs.Common.{refl}
use Rattle.amqp_base.specs.Codes.{Kind}
use Rattle.amqp_base.specs.Parse.{map_data}
use Rattle.amqp_de.proofs.FormsOpened.{answered}
use Rattle.amqp_de.proofs.StructsBehind.{parts_behind, header_refused, other_code, no_code}
use Rattle.amqp_de.proofs.deserializer.Deserializer.open_map_behind.Goals as goal

pub returns-then-not-is_map-clause-err : goal.returns-then-not-is_map-clause-err
returns-then-not-is_map-clause-err g c = rw c.stop.ensures (record { rejects = λ a. other_code Kind.map map_data _ g.R.Read.buffers _ c.in-Ok.code _ _ (c.is_map.ensures.no c.if-not-is_map.true) c.in-Ok.ensures.ok c.custom.ensures; ended = refl })

pub returns-in-Ok-open_pairs-clause-ok : goal.returns-in-Ok-open_pairs-clause-ok
returns-in-Ok-open_pairs-clause-ok g c =
    let o = c.in-Ok-open_pairs.ensures in
    parts_behind Kind.map map_data _ _ c.in-Ok.code _ (c.is_map.ensures.yes c.if-not-is_map.false) c.in-Ok.ensures.ok (answered _ _ c.in-Ok.ensures.stops) o.ok o.exact o.plain

pub returns-in-Err-open_pairs-clause-err : goal.returns-in-Err-open_pairs-clause-err
returns-in-Err-open_pairs-clause-err g c =
    let n = c.in-Err-open_pairs.ensures.err.not_opened in
    record { rejects = λ a. header_refused Kind.map map_data _ g.R.Read.buffers _ _ c.in-Ok.code _ (c.is_map.ensures.yes c.if-not-is_map.false) c.in-Ok.ensures.ok n; ended = n.ended }

pub returns-in-Err-clause-err : goal.returns-in-Err-clause-err
returns-in-Err-clause-err g c = record { rejects = λ a. no_code Kind.map map_data _ g.R.Read.buffers _ _ a c.in-Err.ensures.err; ended = c.in-Err.ensures.stops.err }
