use Rattle.amqp_base.specs.Faults.{refusal_of}
use Rattle.amqp_ser.proofs.front.long_first.Goals as goal

pub returns-in-InvalidValue : goal.returns-in-InvalidValue
unfolding refusal_of
returns-in-InvalidValue g = rw g.in-InvalidValue.is g.from.ensures
