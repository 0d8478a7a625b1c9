use Rattle.std.proofs.Common.{◌-◌, ◌^◌}
use Rattle.amqp_probe.specs.Lines.{taken, to_come}
use Rattle.amqp_probe.specs.Pieces.{Cut}
use Rattle.amqp_probe.proofs.lines.Lines.next_line.Given as goal

abbrev pub invariant-pieces : goal.invariant-pieces
invariant-pieces g l =
    Cut (to_come l.initial.self (g.S.Read.remaining l.initial.source)) (taken l.initial.self) (g.S.FaultCount.faults l.initial.source)
    (to_come l.self (g.S.Read.remaining l.source)) (taken l.self) (g.S.FaultCount.faults l.source) l.line.items

abbrev pub decreases-pieces : goal.decreases-pieces
decreases-pieces g l = 2 ^ 64 - taken l.self
