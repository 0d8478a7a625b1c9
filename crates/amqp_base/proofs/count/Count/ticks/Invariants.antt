use Rattle.std.proofs.Common.{◌≡◌, ◌+◌}
use Rattle.amqp_base.proofs.count.Count.ticks.Given as goal

abbrev pub invariant-loop : goal.invariant-loop
invariant-loop l = l.self.n ≡ l.initial.self.n + l.counter
