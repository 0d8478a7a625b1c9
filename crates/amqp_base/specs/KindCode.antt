-- The constructor under which an item is written as an element of an array.
use Rattle.std.specs.Prelude.{ℕ, ◌==◌, Bool, false, ◌&&◌, List, [], ◌∷◌, ◌++◌, Option, Some, None, bytes_eq}
use Rattle.amqp_base.specs.declared.format_code.EncodingCodes.{EncodingCodes}
use Rattle.amqp_base.specs.declared.format_code.EncodingCodes.TheVariants.{List32, Map32, Array32}
use Rattle.amqp_base.specs.Codes.{row, widest}
use Rattle.amqp_base.specs.Item.{Descriptor, name, code, descriptor_item, Item, scalar, list, map, array, described}
use Rattle.amqp_base.specs.Wire.{Constructor, bare, under, under_pair}
use Rattle.amqp_base.specs.Partial.{◌>>=◌}
use Rattle.amqp_base.specs.ScalarBody.{kind_of}
use Rattle.amqp_base.specs.ScalarText.{scalar_text}

-- a primitive constructor of the code that is there
abbrev pub code_under : Option EncodingCodes → Option Constructor
code_under (Some e) = Some (under e)
code_under None = None

-- a primitive constructor behind a descriptor; there is one descriptor at most
abbrev pub behind : Descriptor → Option Constructor → Option Constructor
behind d (Some (under e)) = Some (under_pair d e)
behind d _ = None

-- The constructor under which the body of an item stands in an array (1.2.4): the widest code of its kind, behind its
-- descriptor. Null and twice described items have none. That it is the widest is this profile's own rule.
unfoldable pub kind_code : Item → Option Constructor
kind_code (scalar v) = code_under (widest (kind_of v))
kind_code (list is) = Some (under List32)
kind_code (map ps) = Some (under Map32)
kind_code (array is) = Some (under Array32)
kind_code (described d v) = behind d (kind_code v)

-- a descriptor, with its own constructor (1.2)
abbrev pub descriptor_text : Descriptor → Option (List ℕ)
descriptor_text d = scalar_text (descriptor_item d)

-- an element constructor: a code; or 0x00, a descriptor and a code (1.2, 1.2.4)
abbrev pub constructor_text : Constructor → Option (List ℕ)
constructor_text bare = None
constructor_text (under e) = Some ((row e).byte ∷ [])
constructor_text (under_pair d e) = descriptor_text d >>= λ t. Some (0x00 ∷ t ++ (row e).byte ∷ [])

-- whether two descriptors are equal
abbrev pub same_descriptor : Descriptor → Descriptor → Bool
same_descriptor (name a) (name b) = bytes_eq a b
same_descriptor (code m) (code n) = m == n
same_descriptor _ _ = false

-- whether two element constructors are equal
abbrev pub same_constructor : Constructor → Constructor → Bool
same_constructor (under e) (under f) = (row e).byte == (row f).byte
same_constructor (under_pair d e) (under_pair g f) = same_descriptor d g && (row e).byte == (row f).byte
same_constructor _ _ = false

-- whether the constructor of an element is the array's
abbrev pub is_under : Constructor → Option Constructor → Bool
is_under c (Some d) = same_constructor c d
is_under c None = false
