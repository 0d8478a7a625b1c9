-- The variants of an enum, as items.
use Rattle.std.specs.Prelude.{◌≡◌, ℕ, zero, suc, ◌==◌, Bool, true, false, ◌⊎◌, List, [], ◌∷◌, ◌++◌, Option, Some, None, Ok, Err}
use Rattle.std.specs.Str.{bytes_eq}
use Rattle.amqp_base.specs.declared.error.Error.{Error}
use Rattle.amqp_base.specs.declared.error.Error.TheVariants.{InvalidFormatCode, InvalidLength}
use Rattle.amqp_base.specs.declared.format_code.EncodingCodes.{EncodingCodes}
use Rattle.amqp_base.specs.declared.format_code.EncodingCodes.TheVariants.{List0}
use Rattle.amqp_base.specs.declared.shape.Shape.{Shape}
use Rattle.amqp_base.specs.Codes.{Kind, row}
use Rattle.amqp_base.specs.Describing.{by_descriptor_refusal}
use Rattle.amqp_base.specs.Item.{Item, Scalar, scalar, list, map, array, described, uint, ulong, string, symbol, Items, none, more, in_turn}
use Rattle.amqp_base.specs.Parse.{code_at, list_data, map_data}
use Rattle.amqp_base.specs.Refusals.{IsMessage}
use Rattle.amqp_base.specs.Refusing.{Refusing, PartsRefusing, scalar_refusal, opened_refusal, one_or_other}
use Rattle.amqp_base.specs.Shapes.{whole}
use Rattle.amqp_base.specs.Wire.{Constructor, bare, Wire, lenient}

-- a variant without fields is its index, a uint (1.6.5)
abbrev pub unit_item : ℕ → Item
unit_item index = scalar (uint index)

-- any other is a map (1.6.23) of one pair, its index and what it holds
abbrev pub variant_item : ℕ → Item → Item
variant_item index held = whole Shape.Map (scalar (uint index) ∷ held ∷ [])

-- so many fields are a list (1.6.22) behind the index
abbrev pub fields_item : ℕ → ℕ → List Item → Item
fields_item index len xs = variant_item index (whole (Shape.Tuple len) xs)

-- of this index, with what it holds or without
abbrev pub enum_item : ℕ → Option Item → Item
enum_item index None = unit_item index
enum_item index (Some held) = variant_item index held

-- ---- which variant an item names

-- the index of a variant, or its name
pub data Key : Type 0 where
  index : ℕ → Key
  named : List ℕ → Key

-- a uint (1.6.5) or ulong (1.6.6) is an index, a string (1.6.20) or symbol (1.6.21) a name
abbrev pub key_in : Scalar → Option Key
key_in (uint n) = Some (index n)
key_in (ulong n) = Some (index n)
key_in (string b) = Some (named b)
key_in (symbol b) = Some (named b)
key_in v = None

abbrev pub key_of : Item → Option Key
key_of (scalar v) = key_in v
key_of i = None

-- the first variant has this key: the index 0, or its name
abbrev pub is_first : List ℕ → Key → Bool
is_first name (index zero) = true
is_first name (index (suc n)) = false
is_first name (named b) = bytes_eq name b

-- the key among the variants behind the first
abbrev pub behind_first : Key → Key
behind_first (index zero) = index zero
behind_first (index (suc n)) = index n
behind_first (named b) = named b

-- ---- an enum's item is a key alone, or a key and what its variant holds: a map of this pair, or a list of the two

abbrev pub by_key : Option Key → (Key → Bool) → Bool
by_key None takes = false
by_key (Some k) takes = takes k

abbrev pub takes_two : (Key → Option Item → Bool) → Items → Bool
takes_two takes (more k (more v none)) = by_key (key_of k) (λ key. takes key (Some v))
takes_two takes is = false

unfoldable pub takes_enum : (Key → Option Item → Bool) → Item → Bool
takes_enum takes (scalar v) = by_key (key_in v) (λ key. takes key None)
takes_enum takes (map ps) = takes_two takes (in_turn ps)
takes_enum takes (list is) = takes_two takes is
takes_enum takes (array is) = false
takes_enum takes (described d v) = false

abbrev pub meant_by_key : Option Key → (Key → Type 0) → Type 0
meant_by_key None means = ⊥
meant_by_key (Some k) means = means k

abbrev pub means_two : (Key → Option Item → Type 0) → Items → Type 0
means_two means (more k (more v none)) = meant_by_key (key_of k) (λ key. means key (Some v))
means_two means is = ⊥

unfoldable pub means_enum : (Key → Option Item → Type 0) → Item → Type 0
means_enum means (scalar v) = meant_by_key (key_in v) (λ key. means key None)
means_enum means (map ps) = means_two means (in_turn ps)
means_enum means (list is) = means_two means is
means_enum means (array is) = ⊥
means_enum means (described d v) = ⊥

-- ---- what is refused

-- a key's kinds
abbrev pub is_key_kind : Kind → Bool
is_key_kind Kind.uint = true
is_key_kind Kind.ulong = true
is_key_kind Kind.string = true
is_key_kind Kind.symbol = true
is_key_kind k = false

-- a key: by its code, or as an item of its kind; another kind's code as `InvalidFormatCode`
pub data KeyRefused (c : Constructor) (s : List ℕ) (e : Error) : Type 0 where
  no_code : code_at c s ≡ Err e → KeyRefused c s e
  no_key : (x : EncodingCodes) (rest : List ℕ) → code_at c s ≡ Ok (x, rest) → is_key_kind (row x).kind ≡ false → e ≡ InvalidFormatCode → KeyRefused c s e
  bad_key : (x : EncodingCodes) (rest : List ℕ) → code_at c s ≡ Ok (x, rest) → scalar_refusal (row x).kind c s e → KeyRefused c s e

abbrev pub key_refusal : Refusing
key_refusal = KeyRefused

-- a key stands there, and what follows it is so
pub record KeyThen (c : Constructor) (later : Key → List ℕ → Type 0) (s : List ℕ) : Type 0 where
  pub item : Item
  pub text : List ℕ
  pub rest : List ℕ
  pub spelled : Wire lenient c text item
  pub key : Key
  pub is_key : key_of item ≡ Some key
  pub split : s ≡ text ++ rest
  pub behind : later key rest

-- what is refused of an item whose parts aren't two: a list0 has no count, and is none of an enum's items
abbrev pub not_two : EncodingCodes → Error
not_two List0 = InvalidFormatCode
not_two x = InvalidLength

-- a pair has just two parts; of those the key is refused, or what its variant makes of what stands behind it
abbrev pub pair_refusal : Error → (Key → Refusing) → PartsRefusing
pair_refusal other held n s e = one_or_other (n == 2) (key_refusal bare s e ⊎ KeyThen bare (λ key rest. held key bare rest e) s) (e ≡ other)

-- a key alone is refused, or its variant doesn't stand alone
abbrev pub alone_refusal : (Key → Error → Type 0) → Refusing
alone_refusal alone c s e = key_refusal c s e ⊎ KeyThen c (λ key rest. alone key e) s

-- a described item is none of an enum's: by its descriptor, or as a message where one stands there
abbrev pub no_variant_refusal : Refusing
no_variant_refusal = by_descriptor_refusal (λ d c s e. IsMessage e)

-- an enum: by its code; a map and a list as a pair; a described item by its descriptor; any other item as a key alone
pub data EnumRefused (alone : Key → Error → Type 0) (held : Key → Refusing) (c : Constructor) (s : List ℕ) (e : Error) : Type 0 where
  no_item : code_at c s ≡ Err e → EnumRefused alone held c s e
  of_map : (x : EncodingCodes) (rest : List ℕ) → code_at c s ≡ Ok (x, rest) → (row x).kind ≡ Kind.map → opened_refusal map_data (pair_refusal InvalidLength held) c s e → EnumRefused alone held c s e
  of_list : (x : EncodingCodes) (rest : List ℕ) → code_at c s ≡ Ok (x, rest) → (row x).kind ≡ Kind.list → opened_refusal list_data (pair_refusal (not_two x) held) c s e → EnumRefused alone held c s e
  of_described : (x : EncodingCodes) (rest : List ℕ) → code_at c s ≡ Ok (x, rest) → (row x).kind ≡ Kind.described → no_variant_refusal c s e → EnumRefused alone held c s e
  of_key : (x : EncodingCodes) (rest : List ℕ) → code_at c s ≡ Ok (x, rest) → ((row x).kind ≡ Kind.map → ⊥) → ((row x).kind ≡ Kind.list → ⊥) → ((row x).kind ≡ Kind.described → ⊥) → alone_refusal alone c s e
      → EnumRefused alone held c s e

abbrev pub enum_refusal : (Key → Error → Type 0) → (Key → Refusing) → Refusing
enum_refusal alone held = EnumRefused alone held
