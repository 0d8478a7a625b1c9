use Rattle.std.proofs.Common.{refl}
use Rattle.amqp_base.specs.Codes.{row}
use Rattle.amqp_de.proofs.StructForms.{no_map_code}
use Rattle.amqp_de.proofs.structs.is_map.Goals as goal

pub returns-in-Map8-clause-yes : goal.returns-in-Map8-clause-yes
unfolding row
returns-in-Map8-clause-yes c = λ h. rw c.in-Map8.is refl

pub returns-in-Map32-clause-yes : goal.returns-in-Map32-clause-yes
unfolding row
returns-in-Map32-clause-yes c = λ h. rw c.in-Map32.is refl

pub returns-in_default : goal.returns-in_default
returns-in_default c = record { yes = λ h. absurd cc; no = λ h. no_map_code _ c.in_default.not-Map8 c.in_default.not-Map32 }
