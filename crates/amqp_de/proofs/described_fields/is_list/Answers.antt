use Rattle.std.proofs.Common.{refl}
use Rattle.amqp_base.specs.Codes.{row}
use Rattle.amqp_de.proofs.FieldsBehind.{no_list_code}
use Rattle.amqp_de.proofs.described_fields.is_list.Goals as goal

pub returns-in-List0-clause-yes : goal.returns-in-List0-clause-yes
unfolding row
returns-in-List0-clause-yes c = λ h. rw c.in-List0.is refl

pub returns-in-List8-clause-yes : goal.returns-in-List8-clause-yes
unfolding row
returns-in-List8-clause-yes c = λ h. rw c.in-List8.is refl

pub returns-in-List32-clause-yes : goal.returns-in-List32-clause-yes
unfolding row
returns-in-List32-clause-yes c = λ h. rw c.in-List32.is refl

pub returns-in_default : goal.returns-in_default
returns-in_default c = record { yes = λ h. absurd cc; no = λ h. no_list_code _ c.in_default.not-List0 c.in_default.not-List8 c.in_default.not-List32 }
