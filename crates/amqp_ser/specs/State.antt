-- What contracts see of a serializer.
use Rattle.std.specs.Prelude.{◌≡◌, false, None}
use Rattle.std.specs.declared.io.Write as Write
use Rattle.amqp_base.specs.declared.fault.FaultCount as FaultCount
use Rattle.amqp_base.specs.declared.shape.Setting.{Setting}
use Rattle.amqp_write.specs.declared.place.Place.{Place}
unfoldable pub use Rattle.amqp_write.specs.State.{stand}
pub use Rattle.amqp_write.specs.State.{Planned, Measured, Mark, unmarked, first, other, State, mark_in, found_in, mark_of, found_of, size_in, contents_in, plan_in, measure_in, answering}

-- its writer, and what was written to it and where the next item stands
pub record Serializing (W : Type 0) : Type 0 where
  pub writer : W
  pub state : State

-- this is the state of a serializer with this writer
abbrev pub IsStateOf : {W : Type 0} → Write.Ghosts W → FaultCount.Ghosts W → W → State → Type 0
IsStateOf w f x s = (p : Place) × (s ≡ stand w f x p)

-- a serializer that has written nothing yet
pub record Fresh {W : Type 0} (w : Write.Ghosts W) (f : FaultCount.Ghosts W) (given : W) (chosen : Setting) (s : Serializing W) : Type 0 where
  pub writer : s.writer ≡ given
  pub contents : s.state.contents ≡ w.contents given
  pub faults : s.state.faults ≡ f.faults given
  pub last_fault : s.state.last_fault ≡ f.last_fault given
  pub grows : s.state.grows ≡ f.grows given
  pub setting : s.state.setting ≡ chosen
  pub mark : s.state.mark ≡ unmarked
  pub found : s.state.found ≡ None
  pub plan : s.state.plan ≡ None
  pub measure : s.state.measure ≡ None
  pub answers : s.state.ended ≡ false
