use Rattle.std.proofs.Common.{refl}
use Rattle.amqp_base.specs.Codes.{row}
use Rattle.amqp_data.proofs.ArrayData.{array_codes}
use Rattle.amqp_de.proofs.array.is_array.Goals as goal

pub returns-in-Array8-clause-yes : goal.returns-in-Array8-clause-yes
unfolding row
returns-in-Array8-clause-yes c = λ h. rw c.in-Array8.is refl

pub returns-in-Array32-clause-yes : goal.returns-in-Array32-clause-yes
unfolding row
returns-in-Array32-clause-yes c = λ h. rw c.in-Array32.is refl

pub returns-in_default : goal.returns-in_default
returns-in_default c = record { yes = λ h. absurd cc; no = λ h k. array_codes _ k c.in_default.not-Array8 c.in_default.not-Array32 }
