use Rattle.std.proofs.Common.{refl}
use Rattle.amqp_ser.specs.Compound.{is_map}
use Rattle.amqp_ser.proofs.serializer.Serializer.close_value.Goals as goal

pub returns-in-Ok-clause-ok : goal.returns-in-Ok-clause-ok
returns-in-Ok-clause-ok g c = λ v shape xs h complete. (c.close.new.self.state, c.in-Ok.ensures.ok (is_map shape) v shape xs h complete, rw c.set_ended.ensures at c.turn.ensures)

pub returns-in-Err-clause-err : goal.returns-in-Err-clause-err
returns-in-Err-clause-err g c = rw c.set_ended-in-Err.ensures (λ v shape xs h complete. (c.close.new.self.state, c.in-Err.ensures.err (is_map shape) v shape xs h complete, refl))
