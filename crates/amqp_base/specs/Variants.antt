-- Which variant of an enum stands there, and what it holds.
use Rattle.std.specs.Prelude.{◌≡◌, ℕ, zero, suc, ◌==◌, ◌||◌, if◌then◌else◌, Bool, true, false, List, Ok, Err}
use Rattle.std.specs.Str.{bytes_eq}
use Rattle.amqp_base.specs.declared.constants.TheConstants.{UNTAGGED_ENUM, VALUE, DESCRIPTOR}
use Rattle.amqp_base.specs.declared.error.Error.{Error}
use Rattle.amqp_base.specs.declared.error.Error.TheVariants.{InvalidFormatCode, InvalidLength}
use Rattle.amqp_base.specs.declared.format_code.EncodingCodes.{EncodingCodes}
use Rattle.amqp_base.specs.declared.format_code.EncodingCodes.TheVariants.{List8, List32, Map8, Map32}
use Rattle.amqp_base.specs.Codes.{Kind, row}
use Rattle.amqp_base.specs.SameKind.{same_kind}
use Rattle.amqp_base.specs.Describing.{describing_at, is_described}
use Rattle.amqp_base.specs.Identifiers.{Identifier, by_index, by_name, by_descriptor, by_code, IsKey, is_key, is_key_kind, key_at, identifier_at}
use Rattle.amqp_base.specs.Item.{Item, list, map, none, more, no_pairs, pair}
use Rattle.amqp_base.specs.Parse.{Parsed, ◌>>=◌, byte_at, item_at, code_at, is_descriptor_kind, list_data, map_data}
use Rattle.amqp_base.specs.Wire.{Constructor, bare, under, under_pair}

-- nothing; the second item of a pair, whose first says which variant it is; or the item itself
pub data Payload : Type 0 where
  nothing second itself : Payload

pub record Variant : Type 0 where
  pub identifier : Identifier
  pub payload : Payload

abbrev pub is : Identifier → Payload → Variant
is i p = record { identifier = i; payload = p }

-- How an enum of a name stands: by an index, a name or a pair of one and a value; by what any item is; by a value's code;
-- or by the code of a descriptor.
pub data Tagging : Type 0 where
  tagged untagged of_value of_descriptor : Tagging

abbrev pub tagging_named : List ℕ → Tagging
tagging_named name =
    if bytes_eq name UNTAGGED_ENUM.now then untagged
    else (if bytes_eq name VALUE.now then of_value
    else (if bytes_eq name DESCRIPTOR.now then of_descriptor else tagged))

-- ---- a list of two items, or a map of one pair (1.6.22, 1.6.23)

-- the item is a pair of this key and this value
abbrev pub IsPair : Identifier → Item → Item → Type 0
IsPair k v (list (more a (more b none))) = IsKey k a × (b ≡ v)
IsPair k v (map (pair a b no_pairs)) = IsKey k a × (b ≡ v)
IsPair k v i = ⊥

-- a pair of a key and any value
abbrev pub is_pair : Item → Bool
is_pair (list (more a (more b none))) = is_key a
is_pair (map (pair a b no_pairs)) = is_key a
is_pair i = false

abbrev pub of_two : ℕ → List ℕ → Parsed ℕ
of_two n s = if n == 2 then Ok (n, s) else Err InvalidLength

-- the same data, of two items
abbrev pub two_of : (EncodingCodes → List ℕ → Parsed ℕ) → EncodingCodes → List ℕ → Parsed ℕ
two_of parse e s = parse e s >>= λ n. of_two n.0 n.1

-- the data of a pair up to its key, whatever its two items are
unfoldable pub pair_data : EncodingCodes → List ℕ → Parsed ℕ
pair_data List8 s = two_of list_data List8 s
pair_data List32 s = two_of list_data List32 s
pair_data Map8 s = two_of map_data Map8 s
pair_data Map32 s = two_of map_data Map32 s
pair_data e s = Err InvalidFormatCode

-- a pair up to its value
abbrev pub pair_at : Constructor → List ℕ → Parsed Variant
pair_at c s = item_at pair_data c s >>= λ n. key_at bare n.1 >>= λ k. Ok (is k.0 second, k.1)

-- ---- the variant at the front of the bytes, and what is left of them: what it holds is

-- an index or a name alone, a described value by its descriptor, or a pair
abbrev pub tagged_at : Constructor → List ℕ → Parsed Variant
tagged_at c s = code_at c s >>= λ e.
    if is_key_kind (row e.0).kind then (key_at c s >>= λ k. Ok (is k.0 nothing, k.1))
    else (if same_kind (row e.0).kind Kind.described then (describing_at InvalidFormatCode c s >>= λ d. Ok (is (by_descriptor d.0.descriptor) itself, s))
    else pair_at c s)

abbrev pub held_by : Identifier → Payload
held_by (by_index n) = nothing
held_by (by_name b) = nothing
held_by (by_descriptor d) = itself
held_by (by_code e) = itself

abbrev pub untagged_at : Constructor → List ℕ → Parsed Variant
untagged_at c s = identifier_at c s >>= λ i. Ok (is i.0 (held_by i.0), i.1)

abbrev pub value_at : Constructor → List ℕ → Parsed Variant
value_at c s = code_at c s >>= λ e. Ok (is (by_code e.0) itself, s)

-- behind 0x00 the code of a descriptor, which stays; another kind's is a message
abbrev pub descriptor_code_at : Error → List ℕ → Parsed Variant
descriptor_code_at custom s = code_at bare s >>= λ e. if is_descriptor_kind (row e.0).kind then Ok (is (by_code e.0) itself, s) else Err custom

abbrev pub descriptor_behind : Error → ℕ → List ℕ → Parsed Variant
descriptor_behind custom zero s = descriptor_code_at custom s
descriptor_behind custom (suc n) s = Err InvalidFormatCode

-- Inside an array no bytes of a descriptor stand there.
abbrev pub own_descriptor_at : Error → Constructor → List ℕ → Parsed Variant
own_descriptor_at custom bare s = byte_at s >>= λ b. descriptor_behind custom b.0 b.1
own_descriptor_at custom (under e) s = Err InvalidFormatCode
own_descriptor_at custom (under_pair d e) s = Err InvalidFormatCode

unfoldable pub variant_at : Tagging → Error → Constructor → List ℕ → Parsed Variant
variant_at tagged custom c s = tagged_at c s
variant_at untagged custom c s = untagged_at c s
variant_at of_value custom c s = value_at c s
variant_at of_descriptor custom c s = own_descriptor_at custom c s

-- which items have a variant, by what their bytes say alone
abbrev pub has_variant : Tagging → Item → Bool
has_variant tagged i = is_key i || (is_pair i || is_described i)
has_variant untagged i = true
has_variant of_value i = true
has_variant of_descriptor i = false
