use Rattle.std.proofs.lemmas.Str.{IsUtf8-from_ascii}
use Rattle.amqp_read.proofs.texts.is_text.Goals as goal

pub returns-then-is_ascii-clause-text : goal.returns-then-is_ascii-clause-text
returns-then-is_ascii-clause-text c is = IsUtf8-from_ascii _ (c.is_ascii.ensures c.if-is_ascii.true)
