-- What contracts see of a writer and of where its next item stands.
use Rattle.std.specs.Prelude.{◌≡◌, ℕ, Bool, true, false, List, min, Option, None, Some}
use Rattle.std.specs.declared.io.ErrorKind.{ErrorKind}
use Rattle.std.specs.declared.io.Write as Write
use Rattle.amqp_base.specs.declared.fault.FaultCount as FaultCount
use Rattle.amqp_base.specs.declared.shape.Setting.{Setting}
use Rattle.amqp_base.specs.Wire.{Constructor, bare, under, under_pair}
use Rattle.amqp_base.specs.Sizes.{Size}
use Rattle.amqp_types.specs.declared.described.Descriptor.{Descriptor}
use Rattle.amqp_types.specs.Descriptors.{descriptor_of}
use Rattle.amqp_write.specs.declared.place.Constructor.{Constructor as OwnConstructor}
use Rattle.amqp_write.specs.declared.place.Constructor.TheVariants.{Under, UnderPair}
use Rattle.amqp_write.specs.declared.place.Mark.{Mark as CodeMark}
use Rattle.amqp_write.specs.declared.place.Mark.TheVariants.{Unmarked, First, Other}
use Rattle.amqp_base.specs.declared.fault.Size.{Size as CodeSize}
pub use Rattle.amqp_base.specs.Passes.{Planned, Measured}
use Rattle.amqp_write.specs.declared.place.Place.{Place}

-- where the next item stands: outside arrays, as the first element of one, or as another under the first one's constructor
pub data Mark : Type 0 where
  unmarked first : Mark
  other : Constructor → Mark

pub record State : Type 0 where
  -- the writer's bytes, where it tells them
  pub contents : Option (List ℕ)
  pub faults : ℕ
  -- the kind of the writer's last fault
  pub last_fault : Option ErrorKind
  pub grows : Bool
  pub setting : Setting
  pub mark : Mark
  -- the constructor of the last item that was a first element
  pub found : Option Constructor
  -- a writing pass
  pub plan : Option Planned
  -- a measuring pass
  pub measure : Option Measured
  -- every call answers `InvalidValue`
  pub ended : Bool

-- a constructor of the code, whose descriptor is kept beside it
abbrev pub constructor_in : Option Descriptor → OwnConstructor → Constructor
constructor_in d (Under e) = under e
constructor_in (Some d) (UnderPair e) = under_pair (descriptor_of d) e
constructor_in None (UnderPair e) = bare

abbrev pub mark_in : Option Descriptor → CodeMark → Mark
mark_in d Unmarked = unmarked
mark_in d First = first
mark_in d (Other c) = other (constructor_in d c)

-- a mark of the code is this one, whatever descriptor is kept beside it
abbrev pub MarksAs : CodeMark → Mark → Type 0
MarksAs m n = (d : Option Descriptor) → mark_in d m ≡ n

abbrev pub found_in : Option Descriptor → Option OwnConstructor → Option Constructor
found_in d None = None
found_in d (Some c) = Some (constructor_in d c)

abbrev pub mark_of : Place → Mark
mark_of p = mark_in p.descriptor p.mark

abbrev pub found_of : Place → Option Constructor
found_of p = found_in p.descriptor p.found

abbrev pub size_in : CodeSize → Size
size_in z = record { length = z.length; count = z.count }

-- in a pass nothing is told of the bytes themselves
abbrev pub contents_in : Bool → Option (List ℕ) → Option (List ℕ)
contents_in true c = None
contents_in false c = c

abbrev pub plan_in : Bool → Option Planned → Option Planned
plan_in true p = p
plan_in false p = None

-- beyond what a usize holds nothing is counted
abbrev pub measure_in : Bool → Option Measured → Option Measured
measure_in true None = None
measure_in true (Some m) = Some (record { length = min m.length 18446744073709551615; sizes = m.sizes })
measure_in false m = None

unfoldable pub stand : {W : Type 0} → Write.Ghosts W → FaultCount.Ghosts W → W → Place → State
stand w f x p = record {
  contents = contents_in p.direct (w.contents x);
  faults = f.faults x;
  last_fault = f.last_fault x;
  grows = f.grows x;
  setting = p.setting;
  mark = mark_of p;
  found = found_of p;
  plan = plan_in p.direct (f.plan x);
  measure = measure_in p.direct (f.measure x);
  ended = p.ended;
}

-- the state, if calls are answered
abbrev pub answering : State → State
answering s = record s { ended = false }
