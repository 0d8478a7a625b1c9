-- A struct that is written field by field, plain or behind a descriptor.
use Rattle.std.specs.Prelude.{◌≡◌, ⊤, codes, Bool, true, false, if◌then◌else◌, ℕ, List, [], ◌∷◌, ◌++◌, Option, Some, None, Result, Err, OnOk, OnErr, IfErr, bytes_eq}
use Rattle.amqp_base.specs.declared.constants.TheConstants.{DESCRIBED_LIST, DESCRIBED_MAP, DESCRIBED_BASIC}
use Rattle.amqp_base.specs.declared.error.Error.{Error}
use Rattle.amqp_base.specs.declared.error.Error.TheVariants.{InvalidValue, SequenceLengthMismatch}
use Rattle.amqp_base.specs.declared.shape.Setting.{Setting}
use Rattle.amqp_base.specs.declared.shape.Setting.TheVariants.{Plain, DescribedMap, DescribedBasic}
use Rattle.amqp_base.specs.declared.shape.Shape.{Shape}
use Rattle.amqp_base.specs.Item.{Descriptor, Item, scalar, null, described}
use Rattle.amqp_base.specs.Shapes.{whole}
use Rattle.amqp_base.specs.Structs.{FieldItem, named, is_descriptor_name, fields_parts, struct_shape, struct_item}
use Rattle.amqp_types.specs.Descriptors.{descriptor_of}
use Rattle.amqp_ser.specs.State.{State}
use Rattle.amqp_ser.specs.Law.{Kept, Wrote, Refused, Stops}
use Rattle.amqp_ser.specs.Compound.{Open, Holds, BeginsWith, open_parts, is_map, Complete, lacking}
use Rattle.amqp_ser.specs.Front.{Stands}
use Rattle.amqp_ser.specs.declared.compound.Compound.{Compound}
use Rattle.amqp_ser.specs.declared.front.Front.{Front}
use Rattle.amqp_ser.specs.declared.front.Front.TheVariants as front
use Rattle.amqp_ser.specs.declared.compound.Parts.{Parts}
use Rattle.amqp_ser.specs.declared.staged.Staged.{Staged}
use Rattle.amqp_ser.specs.declared.staged.Encoding.{Encoding}
use Rattle.amqp_ser.specs.declared.staged.Encoding.TheVariants as by
use Rattle.amqp_ser.specs.declared.staged.Stage.{Stage}
use Rattle.amqp_ser.specs.declared.staged.Stage.TheVariants as at

-- what stands before the fields: nothing, and they are those of a struct under this setting; or a descriptor, behind which they stand so
pub data Before : Type 0 where
  plain : Setting → Before
  behind : Encoding → Descriptor → Before

-- what stands behind the descriptor of a struct of this name, if one does
abbrev pub encoding_named : List ℕ → Option Encoding
encoding_named name =
    if bytes_eq name DESCRIBED_LIST.now then Some by.List
    else (if bytes_eq name DESCRIBED_MAP.now then Some by.Map
    else (if bytes_eq name DESCRIBED_BASIC.now then Some by.Basic else None))

-- the same of a tuple struct, which is never a map
abbrev pub row_encoding : List ℕ → Option Encoding
row_encoding name =
    if bytes_eq name DESCRIBED_LIST.now then Some by.List
    else (if bytes_eq name DESCRIBED_BASIC.now then Some by.Basic else None)

-- the setting of the fields' compound
abbrev pub setting_behind : Encoding → Setting
setting_behind by.List = Plain
setting_behind by.Map = DescribedMap
setting_behind by.Basic = DescribedBasic

abbrev pub shape_behind : Encoding → Shape
shape_behind x = struct_shape (setting_behind x)

-- a list or map of the fields, or the one that there is
abbrev pub the_field : List Item → Item
the_field [] = scalar null
the_field (x ∷ xs) = x

abbrev pub value_behind : Encoding → List Item → Item
value_behind by.List xs = whole Shape.List xs
value_behind by.Map xs = whole Shape.Fields xs
value_behind by.Basic xs = the_field xs

-- the item of these parts
abbrev pub item_under : Before → List Item → Item
item_under (plain k) xs = whole (struct_shape k) xs
item_under (behind x d) xs = described d (value_behind x xs)

abbrev pub shape_under : Before → Shape
shape_under (plain k) = struct_shape k
shape_under (behind x d) = shape_behind x

-- the item of a struct of these fields
abbrev pub fields_behind : Encoding → List FieldItem → Item
fields_behind by.List fs = struct_item Plain fs
fields_behind by.Map fs = struct_item DescribedMap fs
fields_behind by.Basic fs = the_field (fields_parts Shape.List fs)

abbrev pub struct_under : Before → List FieldItem → Item
struct_under (plain k) fs = struct_item k fs
struct_under (behind x d) fs = described d (fields_behind x fs)

-- the fields are a list or a map behind the descriptor
abbrev pub IsListed : Encoding → Type 0
IsListed by.List = ⊤
IsListed by.Map = ⊤
IsListed by.Basic = ⊥

abbrev pub is_rest : List Item → Bool
is_rest [] = false
is_rest (x ∷ xs) = true

-- nothing stands before its parts
abbrev pub HoldsPlain : State → Before → List Item → (Bool → Open) → Type 0
HoldsPlain s (plain k) xs q = Holds s (struct_shape k) xs (q (is_map (struct_shape k)))
HoldsPlain s (behind x d) xs q = ⊥

-- a descriptor stands there, and behind it so many parts of a list or a map
pub record PartsBehind (s : State) (x : Encoding) (d : Descriptor) (xs : List Item) (f : Front) (q : Bool → Open) : Type 0 where
  pub listed : IsListed x
  pub front : State
  pub answered : s.ended ≡ false
  pub stands : Stands s d f front
  pub holds : Holds (record front { setting = setting_behind x }) (shape_behind x) xs (q (is_map (shape_behind x)))

abbrev pub HoldsBehind : State → Before → List Item → Front → (Bool → Open) → Type 0
HoldsBehind s (plain k) xs f q = ⊥
HoldsBehind s (behind x d) xs f q = PartsBehind s x d xs f q

-- the one value stands there behind its descriptor, and there were more or not
pub record HoldsValue (s : State) (b : Before) (xs : List Item) (again : Bool) (o : State) : Type 0 where
  pub descriptor : Descriptor
  pub is : b ≡ behind by.Basic descriptor
  pub value : Item
  pub rest : List Item
  pub parts : xs ≡ value ∷ rest
  pub more : again ≡ is_rest rest
  pub behind : State
  pub answered : s.ended ≡ false
  pub wrote : Wrote s (described descriptor value) behind
  pub held : o ≡ record behind { ended = true }

-- the descriptor that is known
abbrev pub Keeps : Front → Descriptor → Type 0
Keeps (front.First k own) d = descriptor_of own ≡ d
Keeps (front.Alone k) d = ⊥
Keeps (front.Again outer long) d = ⊥
Keeps front.Nowhere d = ⊥

-- the descriptor is known, and nothing was written yet
pub record HoldsNone (s : State) (b : Before) (xs : List Item) (f : Front) (o : State) : Type 0 where
  pub descriptor : Descriptor
  pub is : b ≡ behind by.Basic descriptor
  pub known : Keeps f descriptor
  pub parts : xs ≡ []
  pub answered : s.ended ≡ false
  pub held : o ≡ record s { ended = true }

-- the struct was opened on a serializer in the state s, and has these parts
abbrev pub HoldsAt : State → Before → List Item → State → Front → Parts → Stage → Type 0
HoldsAt s b xs o f p at.Plain = HoldsPlain s b xs (λ pairs. open_parts pairs o p)
HoldsAt s b xs o f p at.Behind = HoldsBehind s b xs f (λ pairs. open_parts pairs o p)
HoldsAt s b xs o f p at.Given = HoldsNone s b xs f o
HoldsAt s b xs o f p (at.Written m) = HoldsValue s b xs m o
HoldsAt s b xs o f p (at.Awaited x) = ⊥
HoldsAt s b xs o f p at.Ended = ⊥

abbrev pub HoldsParts : State → Before → List Item → State → Staged → Type 0
HoldsParts s b xs o g = HoldsAt s b xs o g.front g.parts g.stage

abbrev pub HoldsStruct : State → Before → List FieldItem → State → Staged → Type 0
HoldsStruct s b fs o g = HoldsParts s b (fields_parts (shape_under b) fs) o g

-- a field of a tuple struct, which is a list under every setting, has no name
abbrev pub no_name : List ℕ
no_name = codes ""

-- its descriptor comes first
pub record Awaits (s : State) (x : Encoding) (o : State) (g : Staged) : Type 0 where
  pub stage : g.stage ≡ at.Awaited x
  pub answered : s.ended ≡ false
  pub held : o ≡ record s { ended = true }

-- a refusal ends the struct, and a call of an ended one is refused and changes nothing
pub record EndsStage {A : Type 0} (s : State) (g : Staged) (r : Result A Error) (t : State) (h : Staged) : Type 0 where
  pub err : OnErr r (h.stage ≡ at.Ended)
  pub ended : g.stage ≡ at.Ended → (r ≡ Err InvalidValue) × (t ≡ s) × (h ≡ g)

-- a descriptor was put in front, and behind it a compound opened
pub record OpensBehind (s : State) (d : Descriptor) (k : Setting) (shape : Shape) (f : Front) (q : Open) : Type 0 where
  pub front : State
  pub stands : Stands s d f front
  pub holds : Holds (record front { setting = k }) shape [] q

-- the compound behind a descriptor was written, or refused; then the serializer is in the state t
pub record ClosesBehind (f : Front) (q : Bool → Open) (r : Result (Unit {0}) Error) (t : State) : Type 0 where
  pub ok : OnOk r ((s u : State) (d : Descriptor) (k : Setting) (shape : Shape) (xs : List Item) → s.ended ≡ false → Stands s d f u → Holds (record u { setting = k }) shape xs (q (is_map shape)) → Complete (is_map shape) xs → Wrote s (described d (whole shape xs)) t)
  pub err : IfErr r (λ e. (s u : State) (d : Descriptor) (k : Setting) (shape : Shape) (xs : List Item) → s.ended ≡ false → Stands s d f u → Holds (record u { setting = k }) shape xs (q (is_map shape)) → Complete (is_map shape) xs → Refused s (described d (whole shape xs)) e t)

-- its fields aren't parts of a compound
abbrev pub is_apart : Stage → Bool
is_apart at.Plain = false
is_apart at.Behind = false
is_apart at.Given = true
is_apart (at.Written m) = true
is_apart (at.Awaited x) = true
is_apart at.Ended = true

abbrev pub IsApart : Staged → Type 0
IsApart g = is_apart g.stage ≡ true

-- no name is without its value, and nothing else is missing in a compound
abbrev pub AllThere : Before → List Item → Type 0
AllThere (plain k) xs = (Complete (is_map (struct_shape k)) xs) × (lacking (struct_shape k) xs ≡ None)
AllThere (behind x d) xs = Complete (is_map (shape_behind x)) xs

-- there isn't just one field where one is to be
abbrev pub lacks_field : Before → List Item → Bool
lacks_field (plain k) xs = false
lacks_field (behind by.List d) xs = false
lacks_field (behind by.Map d) xs = false
lacks_field (behind by.Basic d) [] = true
lacks_field (behind by.Basic d) (x ∷ xs) = is_rest xs

-- where nothing stands before its fields a struct has none yet, else its descriptor comes first
abbrev pub StartsAt : Option Encoding → Setting → State → State → Staged → Type 0
StartsAt None k s o g = HoldsStruct s (plain k) [] o g
StartsAt (Some x) k s o g = Awaits s x o g

-- a call that opens a struct, plain where nothing stands before its fields: refused as any of these would be, or because the serializer had ended
pub record RefusesStart {A : Type 0} (before : Option Encoding) (k : Setting) (s : State) (r : Result A Error) (t : State) : Type 0 where
  pub law : before ≡ None → IfErr r (λ e. (fs : List FieldItem) → Refused s (struct_item k fs) e t)
  pub stops : Stops s r t
  pub opens : (x : Encoding) → before ≡ Some x → OnErr r (s.ended ≡ true)

-- ---- of a serializer of a struct's fields

-- it was opened on a serializer in the state s, and has these fields behind that
unfoldable pub HasFields : {W F : Type 0} → State → Before → List FieldItem → Compound W F Staged → Type 0
HasFields s b fs q = HoldsStruct s b fs q.ser.now.state q.parts

-- its descriptor comes first
unfoldable pub AwaitsDescriptor : {W F : Type 0} → State → Encoding → Compound W F Staged → Type 0
AwaitsDescriptor s x q = Awaits s x q.ser.now.state q.parts

-- a call was refused
abbrev pub HasEnded : {W F : Type 0} → Compound W F Staged → Type 0
HasEnded q = q.parts.stage ≡ at.Ended

-- just one field is to be, and it isn't
abbrev pub lacks_field_of : Before → List FieldItem → Bool
lacks_field_of b fs = lacks_field b (fields_parts (shape_under b) fs)

-- how it begins, by its name
abbrev pub Starts : {W F : Type 0} → Option Encoding → Setting → State → Compound W F Staged → Type 0
Starts None k s q = HasFields s (plain k) [] q
Starts (Some x) k s q = AwaitsDescriptor s x q

-- a struct was refused at its end, where it has as many fields as it is to have
abbrev pub EndRefused : State → Before → List FieldItem → Error → State → Type 0
EndRefused s (plain k) fs e t = Refused s (struct_item k fs) e t
EndRefused s (behind x d) fs e t = lacks_field_of (behind x d) fs ≡ false → Refused s (struct_under (behind x d) fs) e t

-- what every call keeps: the writer's bytes stay in front, and a serializer that answers nothing doesn't answer again
pub record KeepsHeld (s t : State) : Type 0 where
  pub kept : Kept s t
  pub held : s.ended ≡ true → t.ended ≡ true

-- the same, for callers who don't look into it
unfoldable pub StaysHeld : State → State → Type 0
StaysHeld s t = KeepsHeld s t

-- what an end keeps, whose success alone lets the serializer answer again
pub record EndsHeld {A : Type 0} (s : State) (r : Result A Error) (t : State) : Type 0 where
  pub kept : Kept s t
  pub held : OnErr r (s.ended ≡ true → t.ended ≡ true)

-- ---- the calls of a serializer of a struct's fields

-- its descriptor was written, or refused; then it takes fields
pub record WritesDescriptor {W F A : Type 0} (d : Descriptor) (p : Compound W F Staged) (r : Result A Error) (q : Compound W F Staged) : Type 0 where
  pub ok : OnOk r ((s : State) (x : Encoding) → AwaitsDescriptor s x p → HasFields s (behind x d) [] q)
  pub err : IfErr r (λ e. (s : State) (x : Encoding) (fs : List FieldItem) → AwaitsDescriptor s x p → Refused s (struct_under (behind x d) fs) e q.ser.now.state)
  -- none is awaited
  pub uncalled : (s : State) (b : Before) (fs : List FieldItem) → HasFields s b fs p → r ≡ Err InvalidValue
  pub stops : EndsStage p.ser.now.state p.parts r q.ser.now.state q.parts

-- one more field was written behind those that it has, or refused as any struct that begins with all of them, plain or behind its descriptor
pub record WritesField {W F A : Type 0} (name : List ℕ) (item : Setting → Item) (p : Compound W F Staged) (r : Result A Error) (q : Compound W F Staged) : Type 0 where
  pub ok : OnOk r ((s : State) (b : Before) (fs : List FieldItem) → HasFields s b fs p → HasFields s b (fs ++ named name item ∷ []) q)
  pub err : IfErr r (λ e. is_descriptor_name name ≡ false → (s : State) (k : Setting) (fs all : List FieldItem) → HasFields s (plain k) fs p → BeginsWith all (fs ++ named name item ∷ []) → Refused s (struct_item k all) e q.ser.now.state)
  pub behind : IfErr r (λ e. is_descriptor_name name ≡ false → (s : State) (x : Encoding) (d : Descriptor) (fs all : List FieldItem) → HasFields s (behind x d) fs p → BeginsWith all (fs ++ named name item ∷ []) → Refused s (struct_under (behind x d) all) e q.ser.now.state)
  pub descriptor : is_descriptor_name name ≡ true → r ≡ Err InvalidValue
  -- its descriptor comes first
  pub early : (s : State) (x : Encoding) → AwaitsDescriptor s x p → r ≡ Err InvalidValue
  pub kept : StaysHeld p.ser.now.state q.ser.now.state
  pub stops : EndsStage p.ser.now.state p.parts r q.ser.now.state q.parts

-- the whole was written, or refused; then its serializer is in the state t
pub record EndsFields {W F A : Type 0} (p : Compound W F Staged) (r : Result A Error) (t : State) : Type 0 where
  pub ok : OnOk r ((s : State) (b : Before) (fs : List FieldItem) → HasFields s b fs p → Wrote s (struct_under b fs) t)
  pub err : IfErr r (λ e. (s : State) (b : Before) (fs : List FieldItem) → HasFields s b fs p → EndRefused s b fs e t)
  pub lacking : (s : State) (b : Before) (fs : List FieldItem) → HasFields s b fs p → lacks_field_of b fs ≡ true → r ≡ Err SequenceLengthMismatch
  -- its descriptor comes first
  pub early : (s : State) (x : Encoding) → AwaitsDescriptor s x p → r ≡ Err InvalidValue
  pub kept : EndsHeld p.ser.now.state r t
  pub ended : HasEnded p → r ≡ Err InvalidValue
