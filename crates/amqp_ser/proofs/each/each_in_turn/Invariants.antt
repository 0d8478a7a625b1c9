use Rattle.std.proofs.Common.{◌≡◌, ◌++◌, take, map, List}
use Rattle.amqp_base.specs.Item.{Item}
use Rattle.amqp_base.specs.declared.shape.Setting.TheVariants.{Plain}
use Rattle.amqp_base.specs.declared.shape.Shape.{Shape}
use Rattle.amqp_ser.specs.State.{State}
use Rattle.amqp_ser.specs.Compound.{open_state, Holds, Keeps}
use Rattle.amqp_ser.proofs.each.each_in_turn.Given as goal

abbrev pub invariant-loop-value : goal.invariant-loop-value
invariant-loop-value g l = record {
  same_reference : l.seq.ser.ghost_name ≡ l.initial.seq.ser.ghost_name;
  kept : Keeps (open_state l.initial.seq) (open_state l.seq);
  holds : (s : State) (shape : Shape) (xs : List Item) → Holds s shape xs (open_state l.initial.seq) → Holds s shape (xs ++ map (λ x. g.T.Typed.meaning.item x Plain) (take l.value-index l.values)) (open_state l.seq);
}
