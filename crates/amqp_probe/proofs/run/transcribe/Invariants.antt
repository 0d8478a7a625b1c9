use Rattle.std.proofs.Common.{◌≡◌, ◌-◌, ◌^◌}
use Rattle.std.specs.Io.KnownBytes.{append_known}
use Rattle.amqp_base.specs.Faults.{Extends}
use Rattle.amqp_probe.specs.Lines.{taken, to_come}
use Rattle.amqp_probe.specs.Transcript.{Running}
use Rattle.amqp_probe.proofs.run.transcribe.Given as goal

abbrev pub invariant-lines : goal.invariant-lines
invariant-lines g l =
    Running (g.S.Read.remaining l.initial.input) (to_come l.lines (g.S.Read.remaining l.input)) (g.W.Write.contents l.initial.output) (append_known (g.W.Write.contents l.output) l.texts.items) l.number (taken l.lines)
    × (g.S.FaultCount.faults l.input ≡ g.S.FaultCount.faults l.initial.input)
    × (g.W.FaultCount.faults l.output ≡ g.W.FaultCount.faults l.initial.output)
    × Extends (g.W.Write.contents l.initial.output) (g.W.Write.contents l.output)

abbrev pub decreases-lines : goal.decreases-lines
decreases-lines g l = 2 ^ 64 - taken l.lines
