use Rattle.amqp_de.proofs.Slots.{row_done}
use Rattle.amqp_de.proofs.fields.UnitFields.read_elements.Goals as goal

pub returns-clause-read : goal.returns-clause-read
returns-clause-read g c = λ old all rest parts p. row_done old all rest parts _ p
