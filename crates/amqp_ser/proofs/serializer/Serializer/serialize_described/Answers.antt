use Rattle.std.proofs.Common.{refl}
use Rattle.amqp_ser.specs.Law.{text_for}
use Rattle.amqp_ser.proofs.Describing.{alone_ok}
use Rattle.amqp_ser.proofs.serializer.Serializer.serialize_described.Goals as goal

pub returns-in-Ok-clause-ok : goal.returns-in-Ok-clause-ok
returns-in-Ok-clause-ok g c = alone_ok _ _ _ _ c.in-Alone.ensures c.in-Ok.ensures.ok

pub returns-in-Nowhere-clause-err : goal.returns-in-Nowhere-clause-err
unfolding text_for
returns-in-Nowhere-clause-err g c = c.described_nowhere.ensures.law (rw (c.in-Nowhere.ensures _) refl)
