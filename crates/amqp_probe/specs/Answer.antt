-- Which lines are good, and what is printed for one.
use Rattle.std.specs.Prelude.{◌≡◌, ℕ, ◌≤◌, List, ◌∷◌, ◌++◌, length, codes, decimal, Ok}
use Rattle.hex.specs.Hex.{decode_of, encode_lower}
use Rattle.amqp_base.specs.declared.error.Error.{Error}
use Rattle.amqp_base.specs.declared.error.Error.TheVariants.{Message, Io, InvalidFormatCode, InvalidValue, InvalidUtf8Encoding, SequenceLengthMismatch, InvalidLength, OutOfMemory}
use Rattle.amqp_probe.specs.declared.kind.Kind.{Kind}
use Rattle.amqp_probe.specs.declared.kind.Kind.TheVariants.{Bool, I32, U32, U64, String, Symbol, ListI32, ListU64, ListUnit, ListListI32, ListArrayI32, ArrayI32, ArrayString, OptionU32, TupleU32Bool, MapStringU32}
use Rattle.amqp_probe.specs.declared.codec.Outcome.{Outcome}
use Rattle.amqp_probe.specs.declared.codec.Outcome.TheVariants.{Value, Refused}
use Rattle.amqp_probe.specs.Codec.{Decoded}

abbrev pub type_name : Kind → List ℕ
type_name Bool = codes "bool"
type_name I32 = codes "i32"
type_name U32 = codes "u32"
type_name U64 = codes "u64"
type_name String = codes "string"
type_name Symbol = codes "symbol"
type_name ListI32 = codes "list-i32"
type_name ListU64 = codes "list-u64"
type_name ListUnit = codes "list-unit"
type_name ListListI32 = codes "list-list-i32"
type_name ListArrayI32 = codes "list-array-i32"
type_name ArrayI32 = codes "array-i32"
type_name ArrayString = codes "array-string"
type_name OptionU32 = codes "option-u32"
type_name TupleU32Bool = codes "tuple-u32-bool"
type_name MapStringU32 = codes "map-string-u32"

-- A good line is at most 65,536 bytes: a type's name, one space (32), and an even number of hexadecimal digits in
-- either case.
pub record Spells (line : List ℕ) (kind : Kind) (bytes : List ℕ) : Type 0 where
  pub digits : List ℕ
  pub form : line ≡ type_name kind ++ 32 ∷ digits
  pub value : decode_of digits ≡ Ok bytes
  pub short : length line ≤ 65536

abbrev pub IsBad : List ℕ → Type 0
IsBad line = (kind : Kind) (bytes : List ℕ) → Spells line kind bytes → ⊥

abbrev pub error_name : Error → List ℕ
error_name (Message text) = codes "Message"
error_name (Io kind) = codes "Io"
error_name InvalidFormatCode = codes "InvalidFormatCode"
error_name InvalidValue = codes "InvalidValue"
error_name InvalidUtf8Encoding = codes "InvalidUtf8Encoding"
error_name SequenceLengthMismatch = codes "SequenceLengthMismatch"
error_name InvalidLength = codes "InvalidLength"
error_name OutOfMemory = codes "OutOfMemory"

-- the text in lower hexadecimal and the number of bytes that weren't consumed, in decimal; or the refusal's name
abbrev pub text_of : Outcome → List ℕ
text_of (Value canonical rest) = codes "ok " ++ (encode_lower canonical.items ++ (codes " rest " ++ decimal rest))
text_of (Refused e) = codes "refused " ++ error_name e

-- what is printed for a good line
pub record Answers (line text : List ℕ) : Type 0 where
  pub kind : Kind
  pub bytes : List ℕ
  pub outcome : Outcome
  pub spells : Spells line kind bytes
  pub decoded : Decoded kind bytes outcome
  pub printed : text ≡ text_of outcome
