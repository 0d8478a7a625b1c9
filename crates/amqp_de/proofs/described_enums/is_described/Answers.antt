use Rattle.std.proofs.Common.{refl}
use Rattle.amqp_base.specs.Codes.{row}
use Rattle.amqp_de.proofs.DescribedAhead.{described_code}
use Rattle.amqp_de.proofs.described_enums.is_described.Goals as goal

pub returns-in-DescribedType-clause-yes : goal.returns-in-DescribedType-clause-yes
unfolding row
returns-in-DescribedType-clause-yes c = λ h. rw c.in-DescribedType.is refl

pub returns-in_default : goal.returns-in_default
returns-in_default c = record { yes = λ h. absurd cc; no = λ h k. c.in_default.not-DescribedType (described_code _ k) }
