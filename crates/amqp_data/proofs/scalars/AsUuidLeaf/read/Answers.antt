use Rattle.std.proofs.Common.{refl}
use Rattle.amqp_base.specs.Codes.{row}
use Rattle.amqp_base.specs.Item.{uuid}
use Rattle.amqp_base.specs.Value.{payload, read}
use Rattle.amqp_data.proofs.scalars.AsUuidLeaf.read.Goals as goal

pub returns-in-Ok-clause-ok : goal.returns-in-Ok-clause-ok
unfolding row payload read
returns-in-Ok-clause-ok g c = let o = c.in-Ok.ensures.ok in o.is (uuid c.from.result) (rw c.from.ensures refl)
