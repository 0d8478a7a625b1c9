-- Structs under plain names.
use Rattle.std.specs.Prelude.{◌≡◌, ℕ, Bool, ◌||◌, List, [], ◌∷◌, ◌++◌}
use Rattle.std.proofs.Common.{refl}
use Rattle.std.specs.Str.{bytes_eq}
use Rattle.amqp_base.specs.declared.constants.TheConstants.{DESCRIBED_LIST, DESCRIBED_MAP, DESCRIBED_BASIC, DESCRIPTOR}
use Rattle.amqp_base.specs.declared.shape.Shape.{Shape}
use Rattle.amqp_base.specs.declared.shape.Setting.{Setting}
use Rattle.amqp_base.specs.declared.shape.Setting.TheVariants.{Plain, Symbol, DescribedList, DescribedMap, DescribedBasic}
use Rattle.amqp_base.specs.Item.{Item, scalar, string}
use Rattle.amqp_base.specs.Shapes.{whole, setting_inside}

-- a field of a struct: the bytes of its name, and the item of its value under each setting
pub data FieldItem : Type 0 where
  named : List ℕ → (Setting → Item) → FieldItem

-- a struct is a list of its fields, save under the described map setting: there it is a map from their names
abbrev pub struct_shape : Setting → Shape
struct_shape Plain = Shape.List
struct_shape Symbol = Shape.List
struct_shape DescribedList = Shape.List
struct_shape DescribedMap = Shape.Fields
struct_shape DescribedBasic = Shape.List

-- what stands for a field: in a map its name and its value, else its value
abbrev pub field_parts : Shape → FieldItem → List Item
field_parts Shape.List (named name item) = item (setting_inside Shape.List) ∷ []
field_parts Shape.Array (named name item) = item (setting_inside Shape.Array) ∷ []
field_parts (Shape.Tuple n) (named name item) = item (setting_inside (Shape.Tuple n)) ∷ []
field_parts Shape.Map (named name item) = scalar (string name) ∷ item (setting_inside Shape.Map) ∷ []
field_parts Shape.Fields (named name item) = scalar (string name) ∷ item (setting_inside Shape.Fields) ∷ []

abbrev pub fields_parts : Shape → List FieldItem → List Item
fields_parts shape [] = []
fields_parts shape (f ∷ fs) = field_parts shape f ++ fields_parts shape fs

-- the item of a struct with these fields, under a setting of the serializer
unfoldable pub struct_item : Setting → List FieldItem → Item
struct_item setting fs = whole (struct_shape setting) (fields_parts (struct_shape setting) fs)

pub struct_in_list : (fs : List FieldItem) → struct_item DescribedList fs ≡ struct_item Plain fs
unfolding struct_item
struct_in_list fs = refl

pub struct_in_basic : (fs : List FieldItem) → struct_item DescribedBasic fs ≡ struct_item Plain fs
unfolding struct_item
struct_in_basic fs = refl

-- the names under which a descriptor stands before the fields
abbrev pub is_described_name : List ℕ → Bool
is_described_name name = bytes_eq name DESCRIBED_LIST.now || (bytes_eq name DESCRIBED_MAP.now || bytes_eq name DESCRIBED_BASIC.now)

-- the name of a descriptor, which no field has
abbrev pub is_descriptor_name : List ℕ → Bool
is_descriptor_name name = bytes_eq name DESCRIPTOR.now
