use Rattle.std.proofs.Common.{◌≤◌, ◌-◌, length, map, take}
use Rattle.std.specs.Prelude.{string_bytes}
use Rattle.amqp_base.specs.Item.{scalar, string}
use Rattle.amqp_write.specs.State.{stand, unmarked}
use Rattle.amqp_write.proofs.ManyTexts.{Written}
use Rattle.amqp_write.proofs.place.Place.append_in_turn.Given as goal

abbrev pub invariant-loop-done : goal.invariant-loop-done
invariant-loop-done g l = record {
  few : l.done ≤ length l.values;
  written : Written unmarked (map (λ t. scalar (string (string_bytes t))) (take l.done l.values)) (stand g.W.Write g.W.FaultCount l.initial.writer l.initial.self) (stand g.W.Write g.W.FaultCount l.writer l.self);
}

abbrev pub decreases-loop-done : goal.decreases-loop-done
decreases-loop-done g l = length l.values - l.done
