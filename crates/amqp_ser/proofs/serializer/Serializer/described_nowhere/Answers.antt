use Rattle.std.proofs.Common.{refl}
use Rattle.amqp_ser.proofs.Describing.{nowhere_ok, nowhere_refused}
use Rattle.amqp_ser.proofs.serializer.Serializer.described_nowhere.Goals as goal

pub returns-in-Ok-clause-law : goal.returns-in-Ok-clause-law
returns-in-Ok-clause-law g c = rw (c.refused.ensures, c.set_ended.ensures) (nowhere_ok _ _ _ _ _ _ refl refl (rw c.unmark.ensures at c.in-Ok.ensures.ok))

pub returns-in-Err-clause-law : goal.returns-in-Err-clause-law
returns-in-Err-clause-law g c = nowhere_refused _ _ _ _ _ refl c.requires.answers (rw c.unmark.ensures at c.in-Err.ensures.err)
