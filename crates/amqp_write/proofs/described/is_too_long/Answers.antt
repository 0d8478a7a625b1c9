use Rattle.std.proofs.lemmas.Str.{is_utf8-from_IsUtf8}
use Rattle.amqp_write.proofs.DescribedSteps.{name_fits}
use Rattle.amqp_write.proofs.described.is_too_long.Goals as goal

pub returns-in-Name-clause-text : goal.returns-in-Name-clause-text
returns-in-Name-clause-text c = rw (c.in-Name.is, c.as_str.ensures) (name_fits _ (is_utf8-from_IsUtf8 _ (rw c.as_str.ensures at c.as_str.utf8)))

pub returns-in-Code-clause-text : goal.returns-in-Code-clause-text
returns-in-Code-clause-text c = rw c.in-Code.is (λ h. absurd (c.is_too_great.ensures.text h))
