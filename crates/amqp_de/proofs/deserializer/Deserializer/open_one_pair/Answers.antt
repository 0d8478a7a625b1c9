use Rattle.amqp_base.specs.Parse.{map_data}
use Rattle.amqp_data.specs.Parts.{HasPairs}
use Rattle.amqp_de.proofs.VariantsOpened.{two_unopened}
use Rattle.amqp_de.proofs.deserializer.Deserializer.open_one_pair.Goals as goal

pub returns-in-Err-clause-err : goal.returns-in-Err-clause-err
returns-in-Err-clause-err g c = two_unopened HasPairs map_data g.R.Read.buffers _ _ _ c.in-Err.ensures.err.not_opened
