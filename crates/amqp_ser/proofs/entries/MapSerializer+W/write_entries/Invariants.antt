use Rattle.std.proofs.Common.{◌≡◌, []}
use Rattle.amqp_base.specs.declared.shape.Shape.{Shape}
use Rattle.amqp_ser.specs.State.{State}
use Rattle.amqp_ser.specs.Compound.{map_state, Holds}
use Rattle.amqp_ser.specs.Gathered.{Gathers, entry_items}
use Rattle.amqp_ser.proofs.entries.MapSerializer+W.write_entries.Given as goal

abbrev pub invariant-loop-key : goal.invariant-loop-key
invariant-loop-key g l = record {
  same_reference : l.self.ser.ghost_name ≡ l.fn.self.ser.ghost_name;
  gathers : (s : State) → Holds s Shape.Map [] (map_state l.fn.self) → Gathers s (entry_items g.K.Typed.meaning g.V.Typed.meaning l.yielded) (map_state l.self) l.gathered l.block;
}
