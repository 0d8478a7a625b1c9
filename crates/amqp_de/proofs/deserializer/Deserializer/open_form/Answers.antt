use Rattle.amqp_de.proofs.FormsOpened.{answered, row_form, map_form, no_row, no_map, no_form}
use Rattle.amqp_de.proofs.deserializer.Deserializer.open_form.Goals as goal

pub returns-in-Ok-open_pairs-clause-ok : goal.returns-in-Ok-open_pairs-clause-ok
returns-in-Ok-open_pairs-clause-ok g c = map_form _ _ c.in-Ok.code c.in-Ok.ensures.ok (answered _ _ c.in-Ok.ensures.stops) c.args.len _ (c.is_map.ensures.yes c.if-is_map.true) c.in-Ok-open_pairs.ensures.ok c.in-Ok-open_pairs.ensures.exact c.in-Ok-open_pairs.ensures.pairs

pub returns-in-Err-open_pairs-clause-err : goal.returns-in-Err-open_pairs-clause-err
returns-in-Err-open_pairs-clause-err g c = no_map _ _ c.in-Ok.code c.in-Ok.ensures.ok (answered _ _ c.in-Ok.ensures.stops) c.args.len g.R.Read.buffers _ c.in-Err-open_pairs.e (c.is_map.ensures.yes c.if-is_map.true) c.in-Err-open_pairs.ensures.err

pub returns-in-Ok-open_tuple-clause-ok : goal.returns-in-Ok-open_tuple-clause-ok
returns-in-Ok-open_tuple-clause-ok g c = row_form _ _ c.in-Ok.code c.in-Ok.ensures.ok (answered _ _ c.in-Ok.ensures.stops) c.args.len _ (c.is_map.ensures.no c.if-is_map.false) c.in-Ok-open_tuple.ensures.ok c.in-Ok-open_tuple.ensures.exact c.in-Ok-open_tuple.ensures.len

pub returns-in-Err-open_tuple-clause-err : goal.returns-in-Err-open_tuple-clause-err
returns-in-Err-open_tuple-clause-err g c = no_row _ _ c.in-Ok.code c.in-Ok.ensures.ok (answered _ _ c.in-Ok.ensures.stops) c.args.len g.R.Read.buffers _ c.in-Err-open_tuple.e (c.is_map.ensures.no c.if-is_map.false) c.in-Err-open_tuple.ensures.err.unopened

pub returns-in-Err-clause-err : goal.returns-in-Err-clause-err
returns-in-Err-clause-err g c = no_form c.args.len g.R.Read.buffers _ _ c.in-Err.e c.in-Err.ensures.err c.in-Err.ensures.stops
