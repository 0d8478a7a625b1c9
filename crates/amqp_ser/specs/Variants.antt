-- The variants of an enum whose fields are written one by one.
use Rattle.std.specs.Prelude.{◌≡◌, ◌≢◌, ℕ, true, false, List, [], ◌∷◌, ◌++◌, length, Result, Err, IfErr, OnOk}
use Rattle.std.specs.declared.vec.Vec.{Vec}
use Rattle.std.specs.Global.{Global}
use Rattle.amqp_base.specs.declared.error.Error.{Error}
use Rattle.amqp_base.specs.declared.error.Error.TheVariants.{InvalidValue, SequenceLengthMismatch}
use Rattle.amqp_base.specs.declared.shape.Setting.{Setting}
use Rattle.amqp_base.specs.declared.shape.Setting.TheVariants.{Plain}
use Rattle.amqp_base.specs.Item.{Item, scalar, uint}
pub use Rattle.amqp_base.specs.VariantItems.{unit_item, variant_item, fields_item}
use Rattle.amqp_base.specs.declared.shape.Shape.{Shape}
use Rattle.amqp_write.specs.declared.pass.Opened.{Opened}
use Rattle.amqp_ser.specs.State.{State, Serializing}
use Rattle.amqp_ser.specs.Law.{Wrote, Refused, Stops}
use Rattle.amqp_ser.specs.Compound.{Open, Holds, BeginsWith, EndsCompound, open_parts, outside_in}
use Rattle.amqp_ser.specs.Staged.{StaysHeld, EndsHeld}
use Rattle.amqp_ser.specs.declared.compound.Compound.{Compound}
use Rattle.amqp_ser.specs.declared.compound.Parts.{Parts}
use Rattle.amqp_ser.specs.declared.paired.Paired.{Paired}

-- a variant of this index was opened on a serializer in the state s, and has these fields: they go to the buffer of its pair p
pub record InBuffer (s : State) (index len : ℕ) (xs : List Item) (o : State) (p f : Parts) : Type 0 where
  pub had : Serializing (Vec ℕ Global)
  pub pair : Holds s Shape.Map (scalar (uint index) ∷ []) (open_parts true o (record p { buffer = had }))
  pub fields : Holds had.state (Shape.Tuple len) xs (open_parts false p.buffer.state f)

-- or to the serializer itself
pub record OnItself (s : State) (index len : ℕ) (xs : List Item) (o : State) (p f : Parts) : Type 0 where
  pub was : State
  pub pair : Holds s Shape.Map (scalar (uint index) ∷ []) (open_parts true was p)
  pub fields : Holds (outside_in Shape.Map was) (Shape.Tuple len) xs (open_parts false o f)

-- as the pair was opened
abbrev pub HoldsAs : Opened → State → ℕ → ℕ → List Item → State → Parts → Parts → Type 0
HoldsAs Opened.Buffered s index len xs o p f = InBuffer s index len xs o p f
HoldsAs (Opened.Measured at before) s index len xs o p f = OnItself s index len xs o p f
HoldsAs (Opened.Written size from) s index len xs o p f = OnItself s index len xs o p f

-- a variant of this index was opened in the state s, and has these fields
abbrev pub HoldsPair : State → ℕ → ℕ → List Item → State → Paired → Type 0
HoldsPair s index len xs o v = HoldsAs v.pair.opened s index len xs o v.pair v.fields

-- one more field was written behind those of a pair p, or refused as any variant that begins with all of them
pub record PutsField {A : Type 0} (item : Item) (o : State) (p : Paired) (r : Result A Error) (t : State) (q : Paired) : Type 0 where
  pub ok : OnOk r ((s : State) (index len : ℕ) (xs : List Item) → HoldsPair s index len xs o p → HoldsPair s index len (xs ++ item ∷ []) t q)
  pub err : IfErr r (λ e. (s : State) (index len : ℕ) (xs all : List Item) → HoldsPair s index len xs o p → BeginsWith all (xs ++ item ∷ []) → Refused s (fields_item index len all) e t)

-- the variant whose parts stand so was written, or refused; then its serializer is in the state t
pub record EndsAs {A : Type 0} (stands : State → ℕ → ℕ → List Item → Type 0) (r : Result A Error) (t : State) : Type 0 where
  pub ok : OnOk r ((s : State) (index len : ℕ) (xs : List Item) → stands s index len xs → Wrote s (fields_item index len xs) t)
  pub err : IfErr r (λ e. (s : State) (index len : ℕ) (xs : List Item) → stands s index len xs → length xs ≡ len → Refused s (fields_item index len xs) e t)

-- the serializer that holds the list of its fields
abbrev pub beneath : Opened → State → Paired → State
beneath Opened.Buffered o v = v.pair.buffer.state
beneath (Opened.Measured at before) o v = o
beneath (Opened.Written size from) o v = o

-- that list
abbrev pub open_fields : State → Paired → Open
open_fields o v = open_parts false (beneath v.pair.opened o v) v.fields

-- ---- of a serializer of a variant's fields

-- it was opened on a serializer in the state s for so many fields of the variant of this index, and has these
unfoldable pub HasVariant : {W F : Type 0} → State → ℕ → ℕ → List Item → Compound W F Paired → Type 0
HasVariant s index len xs q = HoldsPair s index len xs q.ser.now.state q.parts

-- a refusal ends it, and a call of an ended one is refused and changes nothing
unfoldable pub EndsVariant : {W F A : Type 0} → Compound W F Paired → Result A Error → Compound W F Paired → Type 0
EndsVariant q r p = EndsCompound (open_fields q.ser.now.state q.parts) r (open_fields p.ser.now.state p.parts)

-- a call was refused
abbrev pub VariantEnded : {W F : Type 0} → Compound W F Paired → Type 0
VariantEnded q = q.parts.fields.buffer.state.ended ≡ true

-- no variant was opened: so any of this index is refused
pub record RefusesVariant {A : Type 0} (index len : ℕ) (s : State) (r : Result A Error) (t : State) : Type 0 where
  pub law : IfErr r (λ e. (xs : List Item) → Refused s (fields_item index len xs) e t)
  pub stops : Stops s r t

-- one more field was written behind those that it has, or refused as any variant that begins with all of them
pub record WritesVariantField {W F A : Type 0} (item : Setting → Item) (p : Compound W F Paired) (r : Result A Error) (q : Compound W F Paired) : Type 0 where
  pub ok : OnOk r ((s : State) (index len : ℕ) (xs : List Item) → HasVariant s index len xs p → HasVariant s index len (xs ++ item Plain ∷ []) q)
  pub err : IfErr r (λ e. (s : State) (index len : ℕ) (xs all : List Item) → HasVariant s index len xs p → BeginsWith all (xs ++ item Plain ∷ []) → Refused s (fields_item index len all) e q.ser.now.state)
  pub kept : StaysHeld p.ser.now.state q.ser.now.state
  pub stops : EndsVariant p r q

-- the pair of its index and its fields was written, or refused; then its serializer is in the state t
pub record EndsPair {W F A : Type 0} (p : Compound W F Paired) (r : Result A Error) (t : State) : Type 0 where
  pub ok : OnOk r ((s : State) (index len : ℕ) (xs : List Item) → HasVariant s index len xs p → Wrote s (fields_item index len xs) t)
  pub err : IfErr r (λ e. (s : State) (index len : ℕ) (xs : List Item) → HasVariant s index len xs p → length xs ≡ len → Refused s (fields_item index len xs) e t)
  pub lacking : (s : State) (index len : ℕ) (xs : List Item) → HasVariant s index len xs p → length xs ≢ len → r ≡ Err SequenceLengthMismatch
  pub kept : EndsHeld p.ser.now.state r t
  pub ended : VariantEnded p → r ≡ Err InvalidValue
