use Rattle.amqp_de.proofs.Pairs.{no_map, pairs_opened}
use Rattle.amqp_de.proofs.deserializer.Deserializer.open_pairs.Goals as goal

pub returns-clause-err : goal.returns-clause-err
returns-clause-err g c = no_map g.R.Read.buffers _ _ _ c.begin_map.ensures.err

pub returns-clause-pairs : goal.returns-clause-pairs
returns-clause-pairs g c = pairs_opened _ _ _ c.begin_map.ensures.ok c.begin_map.ensures.even
