use Rattle.amqp_base.specs.Parse.{map_data}
use Rattle.amqp_data.specs.Parts.{HasPairs}
use Rattle.amqp_de.specs.Identifies.{identifier_of}
use Rattle.amqp_de.specs.Seq.{at_open}
use Rattle.amqp_de.proofs.VariantsOpened.{pair_opened, key_refused, pair_unopened}
use Rattle.amqp_de.proofs.deserializer.Deserializer.open_map_pair.Goals as goal

pub returns-in-Ok-read_key-clause-ok : goal.returns-in-Ok-read_key-clause-ok
returns-in-Ok-read_key-clause-ok g c =
    let o = c.in-Ok.ensures in
    let s = c.second.ensures in
    rw (s.identifier, s.payload, s.left, s.outer, s.limit) (pair_opened HasPairs map_data g.R.Read.buffers (identifier_of c.named_by.result) c.in-Ok-read_key.key _ (at_open c.open_one_pair.new.self c.in-Ok.pair) _ c.named_by.ensures o.ok o.exact o.plain o.two c.in-Ok-read_key.ensures.ok c.in-Ok-read_key.ensures.exact)

pub returns-in-Err-read_key-clause-err : goal.returns-in-Err-read_key-clause-err
returns-in-Err-read_key-clause-err g c =
    let o = c.in-Ok.ensures in
    key_refused HasPairs map_data g.R.Read.buffers _ (at_open c.open_one_pair.new.self c.in-Ok.pair) _ c.in-Err-read_key.e o.ok o.exact o.plain o.two c.in-Err-read_key.ensures.stops.err c.in-Err-read_key.ensures.err c.in-Err-read_key.ensures.exact

pub returns-in-Err-clause-err : goal.returns-in-Err-clause-err
returns-in-Err-clause-err g c = pair_unopened HasPairs map_data g.R.Read.buffers _ _ _ c.in-Err.ensures.err
