use Rattle.std.proofs.Common.{refl}
use Rattle.amqp_ser.proofs.Describing.{nowhere_refused}
use Rattle.amqp_ser.proofs.Fronts.{nowhere_stands}
use Rattle.amqp_ser.proofs.serializer.Serializer.put_front.Goals as goal

pub returns-in-Err-put_descriptor-2-clause-err : goal.returns-in-Err-put_descriptor-2-clause-err
returns-in-Err-put_descriptor-2-clause-err g c = λ v. nowhere_stands _ _ _ _ (c.in-Nowhere.ensures v) (nowhere_refused _ _ _ _ _ refl c.requires.answers ((rw c.unmark.ensures at c.in-Err-put_descriptor-2.ensures.err) v))
