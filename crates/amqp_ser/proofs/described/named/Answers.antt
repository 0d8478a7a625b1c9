use Rattle.std.proofs.Common.{sym, ◌∙◌}
use Rattle.amqp_base.specs.Faults.{refusal_of}
use Rattle.amqp_ser.proofs.described.named.Goals as goal

pub returns-then-long-clause-value : goal.returns-then-long-clause-value
unfolding refusal_of
returns-then-long-clause-value c = rw (c.in-InvalidValue.is, sym c.is_too_long-long.ensures.value ∙ c.if-long.true) c.from.ensures
