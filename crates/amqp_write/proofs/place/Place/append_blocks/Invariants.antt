use Rattle.std.proofs.Common.{◌≡◌, ◌++◌, List, length, map}
use Rattle.amqp_base.specs.declared.shape.Setting.TheVariants.{Plain}
use Rattle.amqp_write.specs.State.{stand}
use Rattle.amqp_write.proofs.ManyTexts.{Written}
use Rattle.amqp_write.proofs.place.Place.append_blocks.Given as goal

abbrev pub invariant-loop-rest : goal.invariant-loop-rest
invariant-loop-rest g l = record {
  written : (front : List g.row.T.Denot) × (l.values ≡ front ++ l.rest) × Written g.P.Texts.mark (map (λ x. g.T.Typed.meaning.item x Plain) front) (stand g.W.Write g.W.FaultCount l.initial.writer l.initial.self) (stand g.W.Write g.W.FaultCount l.writer l.self);
  room : length l.block ≡ 320;
}

abbrev pub decreases-loop-rest : goal.decreases-loop-rest
decreases-loop-rest g l = length l.rest
