use Rattle.std.proofs.Common.{length}
use Rattle.amqp_probe.specs.Transcript.{Writing}
use Rattle.amqp_probe.proofs.run.write.Given as goal

abbrev pub invariant-loop-rest : goal.invariant-loop-rest
invariant-loop-rest g l =
    Writing l.bytes l.rest (g.W.Write.contents l.initial.output) (g.W.Write.contents l.output) (g.W.FaultCount.faults l.initial.output) (g.W.FaultCount.faults l.output)

abbrev pub decreases-loop-rest : goal.decreases-loop-rest
decreases-loop-rest g l = length l.rest
