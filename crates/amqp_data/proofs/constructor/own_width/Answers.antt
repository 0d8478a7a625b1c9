use Rattle.std.proofs.Common.{refl}
use Rattle.amqp_base.specs.Codes.{row}
use Rattle.amqp_data.proofs.constructor.own_width.Goals as goal

pub returns-in-Err : goal.returns-in-Err
unfolding row
returns-in-Err c = rw c.in-Err.ensures refl
