-- What says which variant of an enum stands there: an index, a name, a descriptor, or a code alone.
use Rattle.std.specs.Prelude.{◌≡◌, if◌then◌else◌, ℕ, Bool, false, ◌||◌, List, Option, Some, None, Ok, Err}
use Rattle.amqp_base.specs.declared.error.Error.TheVariants.{InvalidFormatCode}
use Rattle.amqp_base.specs.declared.format_code.EncodingCodes.{EncodingCodes}
use Rattle.amqp_base.specs.Canon.{kind_of}
use Rattle.amqp_base.specs.Codes.{Kind, row}
use Rattle.amqp_base.specs.SameKind.{same_kind}
use Rattle.amqp_base.specs.Describing.{describing_at}
use Rattle.amqp_base.specs.Item.{Scalar, uint, ulong, string, symbol, Descriptor, Item, scalar}
use Rattle.amqp_base.specs.Parse.{Parsed, ◌>>=◌, by_category, item_at, code_at}
use Rattle.amqp_base.specs.Wire.{Constructor}

-- An index is a uint or an ulong (1.6.5, 1.6.6), a name a string or a symbol (1.6.20, 1.6.21). A described value has its
-- descriptor (1.1.2), any other item its code alone.
pub data Identifier : Type 0 where
  by_index : ℕ → Identifier
  by_name : List ℕ → Identifier
  by_descriptor : Descriptor → Identifier
  by_code : EncodingCodes → Identifier

-- ---- indexes and names, which are keys

abbrev pub is_key_kind : Kind → Bool
is_key_kind k = same_kind k Kind.uint || (same_kind k Kind.ulong || (same_kind k Kind.string || same_kind k Kind.symbol))

-- an item that is a key
abbrev pub is_key : Item → Bool
is_key (scalar v) = is_key_kind (kind_of v)
is_key i = false

abbrev pub key_of : Scalar → Option Identifier
key_of (uint n) = Some (by_index n)
key_of (ulong n) = Some (by_index n)
key_of (string b) = Some (by_name b)
key_of (symbol b) = Some (by_name b)
key_of v = None

-- an item that is this key
abbrev pub IsKey : Identifier → Item → Type 0
IsKey k (scalar v) = key_of v ≡ Some k
IsKey k i = ⊥

-- the data of one
unfoldable pub key_data : EncodingCodes → List ℕ → Parsed Scalar
key_data e s = if is_key_kind (row e).kind then by_category e (row e).category s else Err InvalidFormatCode

abbrev pub key_or_refusal : Option Identifier → List ℕ → Parsed Identifier
key_or_refusal (Some k) s = Ok (k, s)
key_or_refusal None s = Err InvalidFormatCode

abbrev pub key_at : Constructor → List ℕ → Parsed Identifier
key_at c s = item_at key_data c s >>= λ v. key_or_refusal (key_of v.0) v.1

-- ---- what says it at the front of the bytes: a key is consumed, any other item stays

-- Of an item with this code: a described value's descriptor, which is a symbol or an ulong; or the code.
abbrev pub seen_at : EncodingCodes → Constructor → List ℕ → Parsed Identifier
seen_at e c s = if same_kind (row e).kind Kind.described then (describing_at InvalidFormatCode c s >>= λ d. Ok (by_descriptor d.0.descriptor, s)) else Ok (by_code e, s)

unfoldable pub ignored_at : Constructor → List ℕ → Parsed Identifier
ignored_at c s = code_at c s >>= λ e. seen_at e.0 c s

unfoldable pub identifier_at : Constructor → List ℕ → Parsed Identifier
identifier_at c s = code_at c s >>= λ e. if is_key_kind (row e.0).kind then key_at c s else seen_at e.0 c s
