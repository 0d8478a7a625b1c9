use Rattle.std.proofs.Common.{refl}
use Rattle.amqp_base.specs.Shapes.{whole}
use Rattle.amqp_ser.proofs.Fronts.{stands_refused}
use Rattle.amqp_ser.proofs.serializer.Serializer.open_behind.Goals as goal

pub returns-in-Err-begin-clause-err : goal.returns-in-Err-begin-clause-err
returns-in-Err-begin-clause-err g c = rw (c.renamed.ensures, c.set_ended-in-Err-begin.ensures) (λ xs. stands_refused _ _ _ _ c.in-Ok.front c.args.setting _ _ refl (rw c.set_ended.ensures at c.in-Ok.ensures.ok) ((rw c.set_setting.ensures at c.in-Err-begin.ensures.err.law) xs))

pub returns-in-Err-clause-err : goal.returns-in-Err-clause-err
returns-in-Err-clause-err g c = λ xs. (rw c.set_ended.ensures at c.in-Err.ensures.err) (whole c.args.shape xs)
