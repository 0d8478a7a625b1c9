-- What contracts see of an open compound.
use Rattle.std.specs.Prelude.{◌≡◌, ◌≢◌, ◌⊎◌, ◌-◌, ◌<◌, Ok, ℕ, ◌≤◌, ◌+◌, ◌++◌, set, Bool, true, false, List, [], ◌∷◌, ◌==◌, ◌%◌, if◌then◌else◌, length, Option, Some, None, Result, Err, IfErr, OnErr, OnOk}
use Rattle.std.specs.declared.vec.Vec.{Vec}
use Rattle.std.specs.Global.{Global}
use Rattle.amqp_base.specs.declared.error.Error.{Error}
use Rattle.amqp_base.specs.declared.error.Error.TheVariants.{InvalidValue, InvalidLength, SequenceLengthMismatch}
use Rattle.amqp_base.specs.Item.{Item, items_of}
use Rattle.amqp_base.specs.Wire.{Constructor, under}
use Rattle.amqp_base.specs.Shapes.{whole, setting_inside}
use Rattle.amqp_base.specs.Structs.{FieldItem, struct_item, struct_shape, fields_parts, is_described_name}
use Rattle.amqp_base.specs.Sizes.{Size, sizes_in}
use Rattle.amqp_ser.specs.State.{State, answering, Planned, Measured, size_in, Mark, unmarked, Serializing, mark_in, found_in}
use Rattle.amqp_write.specs.declared.pass.Opened.{Opened}
pub use Rattle.amqp_write.specs.Wholes.{other_of, shape_code, narrow_of, empty_list, shape_text, turned, is_map, awaits_value, Complete}
unfoldable pub use Rattle.amqp_write.specs.Wholes.{head_text, whole_text, parts_text, next_mark}
use Rattle.amqp_ser.specs.Law.{Goes, found_after, Wrote, Refused, Kept, Stops, unwritten}
use Rattle.amqp_ser.specs.declared.compound.Parts.{Parts}
use Rattle.amqp_ser.specs.declared.compound.Outer.{Outer as CodeOuter}
use Rattle.amqp_base.specs.declared.fault.Size.{Size as CodeSize}
use Rattle.amqp_base.specs.declared.shape.Setting.{Setting}
use Rattle.amqp_base.specs.declared.error.Error.TheVariants.{OutOfMemory}
use Rattle.amqp_write.specs.Appending.{Pays}
use Rattle.amqp_ser.specs.declared.compound.Compound.{Compound}
use Rattle.amqp_ser.specs.declared.compound.Entries.{Entries}
use Rattle.amqp_base.specs.declared.shape.Shape.{Shape}

-- what a serializer is to have again
pub record Back : Type 0 where
  pub setting : Setting
  pub mark : Mark
  pub found : Option Constructor

-- a compound: its serializer, what its parts are written to, how many there are
pub record Open : Type 0 where
  -- its parts are keys and values in turn
  pub pairs : Bool
  pub shape : Shape
  pub outer : State
  pub inner : State
  pub count : ℕ
  pub opened : Opened

-- from u to v by the parts in order
pub record Run (shape : Shape) (u : State) (xs : List Item) (v : State) : Type 0 where
  pub bytes : List ℕ
  pub text : parts_text shape (items_of xs) ≡ Some bytes
  pub goes : Goes u bytes (sizes_in (items_of xs)) v
  pub mark : v.mark ≡ next_mark shape xs
  pub inside : v.setting ≡ setting_inside shape
  pub answers : v.ended ≡ false

-- parts on a serializer
abbrev pub outer_in : CodeOuter → Back
outer_in (CodeOuter.Outside setting) = record { setting = setting; mark = unmarked; found = None }
outer_in (CodeOuter.Had setting mark found descriptor) = record { setting = setting; mark = mark_in descriptor mark; found = found_in descriptor found }

-- the state with that again
abbrev pub back : Back → State → State
back b o = record o { setting = b.setting; mark = b.mark; found = b.found }

-- what its parts are written to: a buffer, or the serializer itself
abbrev pub inner_of : Opened → State → Serializing (Vec ℕ Global) → State
inner_of Opened.Buffered o b = b.state
inner_of (Opened.Measured at before) o b = record o { ended = b.state.ended }
inner_of (Opened.Written size from) o b = record o { ended = b.state.ended }

-- the serializer as it is to be when the compound has ended
abbrev pub outer_of : Opened → State → Back → State
outer_of Opened.Buffered o b = o
outer_of (Opened.Measured at before) o b = back b o
outer_of (Opened.Written size from) o b = back b o

abbrev pub open_parts : Bool → State → Parts → Open
open_parts pairs o p = record { pairs = pairs; shape = p.shape; outer = outer_of p.opened o (outer_in p.outer); inner = inner_of p.opened o p.buffer; count = p.count; opened = p.opened }

-- a compound, whose parts are keys and values in turn or not: of a struct's only its serializer's setting says it
unfoldable pub open_as : {W F : Type 0} → Bool → Compound W F Parts → Open
open_as pairs q = open_parts pairs q.ser.now.state q.parts

abbrev pub open_state : {W F : Type 0} → Compound W F Parts → Open
open_state q = open_as false q

abbrev pub map_state : {W : Type 0} → Compound W Entries Parts → Open
map_state q = open_as true q

-- what a buffer is at first
pub record Empty (u : State) : Type 0 where
  pub contents : u.contents ≡ Some []
  pub plan : u.plan ≡ None
  pub measure : u.measure ≡ None

-- a serializer that a compound of a pass holds, as it is to be when the compound has ended
pub record Lent (s : State) (code : Option Constructor) (o : State) : Type 0 where
  pub was : s.contents ≡ None
  pub faults : s.faults ≤ o.faults
  pub grows : o.grows ≡ s.grows
  pub setting : o.setting ≡ s.setting
  pub mark : o.mark ≡ s.mark
  pub found : o.found ≡ code

-- the parts go to a buffer
pub record Buffers (s : State) (o start : State) : Type 0 where
  pub empty : Empty start
  pub outer : o ≡ record s { ended = true }
  pub plan : s.plan ≡ None
  pub measure : s.measure ≡ None

-- the parts are measured behind a place for the compound's size
pub record Measures (s : State) (at before : ℕ) (o start : State) : Type 0 where
  pub so_far : Measured
  pub room : Size
  pub plan : s.plan ≡ None
  pub measure : s.measure ≡ Some so_far
  pub place : at ≡ length so_far.sizes
  pub counted : before ≡ so_far.length
  pub no_plan : start.plan ≡ None
  pub counts : start.measure ≡ Some (record { length = so_far.length; sizes = so_far.sizes ++ room ∷ [] })
  pub outer : Lent s s.found o

-- the parts are written behind the header of the size that is next in the plan
pub record Writes (shape : Shape) (s : State) (size : Size) (from : ℕ) (o start : State) : Type 0 where
  pub so_far : Planned
  pub left : List Size
  pub head : List ℕ
  pub plan : s.plan ≡ Some so_far
  pub next : so_far.sizes ≡ size ∷ left
  pub measure : s.measure ≡ None
  pub text : head_text shape s.mark size ≡ Some head
  pub goes_on : start.plan ≡ Some (record { bytes = so_far.bytes ++ head; sizes = left })
  pub no_measure : start.measure ≡ None
  pub behind : from ≡ length (so_far.bytes ++ head)
  pub outer : Lent s (found_after s.mark (Some (under (shape_code shape))) s.found) o

abbrev pub Begun : Shape → State → Opened → State → State → Type 0
Begun shape s Opened.Buffered o start = Buffers s o start
Begun shape s (Opened.Measured at before) o start = Measures s at before o start
Begun shape s (Opened.Written size from) o start = Writes shape s (size_in size) from o start

-- the state after a compound that was measured, before its header counts
abbrev pub back_measured : State → ℕ → ℕ → ℕ → Measured → State
back_measured o at before count m = record o { measure = Some (record { length = m.length; sizes = set m.sizes at (record { length = m.length - before; count = count }) }); ended = false }

abbrev pub IsOutOfMemory : {A : Type 0} → Result A Error → Type 0
IsOutOfMemory (Ok x) = ⊥
IsOutOfMemory (Err e) = e ≡ OutOfMemory

-- the end of a compound that was measured: want of memory, or its header counts behind what is known
abbrev pub EndsMeasured : {A : Type 0} → Shape → ℕ → ℕ → ℕ → Measured → State → Result A Error → State → Type 0
EndsMeasured shape at before count m o r t =
    IsOutOfMemory r
    ⊎ ((before ≤ m.length) × (m.length < 18446744073709551615) × Pays (back_measured o at before count m) (head_text shape o.mark (record { length = m.length - before; count = count })) (found_after o.mark (Some (under (shape_code shape))) o.found) [] (unwritten (m.length - before)) r t)

-- the end of a compound that was written: it is as its header says, or refused
abbrev pub EndsWritten : {A : Type 0} → ℕ → CodeSize → ℕ → Planned → State → Result A Error → State → Type 0
EndsWritten count size from p o (Ok x) t = (length p.bytes ≡ from + size.length) × (count ≡ size.count) × (t ≡ record o { ended = false })
EndsWritten count size from p o (Err e) t = (e ≡ OutOfMemory) ⊎ (((length p.bytes ≡ from + size.length) × (count ≡ size.count) → ⊥) × (e ≡ InvalidValue))

-- the compound was opened on a serializer in the state s, and has the parts xs
pub record Holds (s : State) (shape : Shape) (xs : List Item) (q : Open) : Type 0 where
  pub pairs : q.pairs ≡ is_map shape
  pub shape_is : q.shape ≡ shape
  pub start : State
  pub begun : Begun shape s q.opened q.outer start
  pub run : Run shape start xs q.inner
  pub count : q.count ≡ length xs
  pub answered : s.ended ≡ false

-- the fields fs are those of a struct under the setting k, which was opened on a serializer in the state s
unfoldable pub HoldsUnder : Setting → State → List FieldItem → Open → Type 0
HoldsUnder k s fs q = Holds s (struct_shape k) (fields_parts (struct_shape k) fs) (record q { pairs = is_map (struct_shape k) })

-- a struct was opened on a serializer in the state s, and has the fields fs
unfoldable pub HoldsFields : State → List FieldItem → Open → Type 0
HoldsFields s fs q = HoldsUnder s.setting s fs q

-- what was told is such a refusal
abbrev pub FailedAs : Option Error → (Error → Type 0) → Type 0
FailedAs None P = ⊥
FailedAs (Some e) P = P e

-- the struct of a compound q was written, or refused; then its serializer is in the state t
pub record EndsStruct {A : Type 0} (q : Open) (r : Result A Error) (t : State) : Type 0 where
  pub ok : OnOk r ((s : State) (fs : List FieldItem) → HoldsFields s fs q → Wrote s (struct_item s.setting fs) t)
  pub err : IfErr r (λ e. (s : State) (fs : List FieldItem) → HoldsFields s fs q → Refused s (struct_item s.setting fs) e t)

-- no compound was opened: so any whole is refused
pub record RefusesOpen {A : Type 0} (shape : Shape) (s : State) (r : Result A Error) (t : State) : Type 0 where
  pub law : IfErr r (λ e. (xs : List Item) → Refused s (whole shape xs) e t)
  pub stops : Stops s r t

-- no struct was opened: so, under a plain name, any struct of these fields is refused
pub record RefusesNamed {A X : Type 0} (name : List ℕ) (item : X → Item) (s : State) (r : Result A Error) (t : State) : Type 0 where
  pub law : is_described_name name ≡ false → IfErr r (λ e. (x : X) → Refused s (item x) e t)
  pub stops : Stops s r t

-- what every call of a compound keeps
pub record Keeps (q p : Open) : Type 0 where
  pub kept : Kept q.outer p.outer
  pub ended : q.outer.ended ≡ true → p.outer.ended ≡ true

-- ys begins with xs
abbrev pub BeginsWith : {X : Type 0} → List X → List X → Type 0
BeginsWith ys [] = Unit {0}
BeginsWith [] (x ∷ xs) = ⊥
BeginsWith (y ∷ ys) (x ∷ xs) = (y ≡ x) × BeginsWith ys xs

-- a call of the compound was refused
abbrev pub IsEnded : Open → Type 0
IsEnded q = q.inner.ended ≡ true

-- a refusal ends the compound, and each call of an ended one is refused
pub record EndsCompound {A : Type 0} (q : Open) (r : Result A Error) (p : Open) : Type 0 where
  pub err : OnErr r (IsEnded p)
  pub ended : IsEnded q → (r ≡ Err InvalidValue) × (p ≡ q)

-- what a whole of these parts lacks, which is refused before anything of it is written
abbrev pub lacking : Shape → List Item → Option Error
lacking Shape.List xs = None
lacking Shape.Array xs = None
lacking (Shape.Tuple n) xs = if length xs == n then None else Some SequenceLengthMismatch
lacking Shape.Map xs = if awaits_value xs then Some InvalidLength else None
lacking Shape.Fields xs = if awaits_value xs then Some InvalidLength else None

-- the same by the number of the parts
abbrev pub lacks_value : ℕ → Option Error
lacks_value k = if k % 2 == 1 then Some InvalidLength else None

abbrev pub lacks : Shape → ℕ → Option Error
lacks Shape.List k = None
lacks Shape.Array k = None
lacks (Shape.Tuple n) k = if k == n then None else Some SequenceLengthMismatch
lacks Shape.Map k = lacks_value k
lacks Shape.Fields k = lacks_value k

-- the whole of a compound q, whose serializer is in the state o, was written, or refused; then its serializer is in the state t
pub record EndsWhole {A : Type 0} (q : Open) (o : State) (r : Result A Error) (t : State) : Type 0 where
  pub ok : OnOk r ((s : State) (shape : Shape) (xs : List Item) → Holds s shape xs q → Wrote s (whole shape xs) t)
  pub err : IfErr r (λ e. (s : State) (shape : Shape) (xs : List Item) → Holds s shape xs q → lacking shape xs ≡ None → Refused s (whole shape xs) e t)
  pub kept : Kept o t
  pub stays_ended : OnErr r (o.ended ≡ true → t.ended ≡ true)
  pub ended : IsEnded q → r ≡ Err InvalidValue

-- where a part outside arrays is written on the serializer that its compound holds
abbrev pub outside_in : Shape → State → State
outside_in shape o = record o { setting = setting_inside shape; mark = unmarked; ended = false }

-- where a part is written on the serializer that its compound holds
abbrev pub part_in : Shape → State → State
part_in Shape.List o = outside_in Shape.List o
part_in Shape.Array o = answering o
part_in (Shape.Tuple n) o = outside_in (Shape.Tuple n) o
part_in Shape.Map o = outside_in Shape.Map o
part_in Shape.Fields o = outside_in Shape.Fields o

-- a part was written on the serializer o that its compound holds, or refused
pub record WritesPart {A : Type 0} (o v : State) (f : Setting → Item) (r : Result A Error) (t : State) : Type 0 where
  pub kept : Kept o t
  pub held : t.ended ≡ true
  pub ok : OnOk r ((w : State) × Wrote v (f v.setting) w × (t ≡ record w { ended = true; mark = turned w.mark w.found }))
  pub err : IfErr r (λ e. (w : State) × Refused v (f v.setting) e w × (t ≡ record w { ended = true }))

-- these items were written behind the parts of the compound q, which is p then, or refused with its serializer in the state t
pub record WritesEach {A : Type 0} (is : List Item) (q : Open) (r : Result A Error) (t : State) (p : Open) : Type 0 where
  pub ok : OnOk r ((s : State) (shape : Shape) (xs : List Item) → Holds s shape xs q → Holds s shape (xs ++ is) p)
  pub err : IfErr r (λ e. (s : State) (shape : Shape) (xs all : List Item) → Holds s shape xs q → BeginsWith all (xs ++ is) → Refused s (whole shape all) e t)
  pub kept : Keeps q p
  pub stops : EndsCompound q r p

-- these keys and values were written behind those of the map q, which is p then, or refused with its serializer in the state t; whether a value is awaited is as it should be, else they are refused
pub record WritesEntries {A : Type 0} (awaited : Bool) (is : List Item) (q : Open) (r : Result A Error) (t : State) (p : Open) : Type 0 where
  pub ok : OnOk r ((s : State) (xs : List Item) → Holds s Shape.Map xs q → Holds s Shape.Map (xs ++ is) p)
  pub err : IfErr r (λ e. (s : State) (xs all : List Item) → Holds s Shape.Map xs q → awaits_value xs ≡ awaited → BeginsWith all (xs ++ is) → awaits_value all ≡ false → Refused s (whole Shape.Map all) e t)
  pub turn : (s : State) (xs : List Item) → Holds s Shape.Map xs q → awaits_value xs ≢ awaited → r ≡ Err InvalidValue
  pub kept : Keeps q p
  pub stops : EndsCompound q r p

-- the same of a serializer of a map
abbrev pub WritesInMap : {W A : Type 0} → Bool → List Item → Compound W Entries Parts → Result A Error → Compound W Entries Parts → Type 0
WritesInMap awaited is q r p = WritesEntries awaited is (map_state q) r p.ser.now.state (map_state p)
