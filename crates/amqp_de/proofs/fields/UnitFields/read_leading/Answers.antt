use Rattle.amqp_de.proofs.LeftOut.{leading_done}
use Rattle.amqp_de.proofs.fields.UnitFields.read_leading.Goals as goal

pub returns-clause-read : goal.returns-clause-read
returns-clause-read g c = λ old all rest parts p. leading_done old all rest parts _ p
