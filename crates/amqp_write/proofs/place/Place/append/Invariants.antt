use Rattle.std.proofs.Common.{length}
use Rattle.amqp_write.specs.State.{stand}
use Rattle.amqp_write.proofs.Bytes.{Going}
use Rattle.amqp_write.proofs.place.Place.append.Given as goal

abbrev pub invariant-loop-rest : goal.invariant-loop-rest
invariant-loop-rest g l = Going (stand g.W.Write g.W.FaultCount l.initial.writer l.initial.self) l.bytes l.rest (stand g.W.Write g.W.FaultCount l.writer l.self)

abbrev pub decreases-loop-rest : goal.decreases-loop-rest
decreases-loop-rest g l = length l.rest
