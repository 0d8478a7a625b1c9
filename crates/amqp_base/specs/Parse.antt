-- What stands at the front of the bytes, or the first rule that they break.
use Rattle.std.specs.Prelude.{ℕ, zero, suc, ◌+◌, ◌-◌, ◌==◌, ◌%◌, Bool, true, false, ◌&&◌, ◌||◌, nat_lt, if◌then◌else◌, List, [], ◌∷◌, length, take, drop, Option, Some, None, Result, Ok, Err}
use Rattle.std.specs.Str.{is_utf8}
use Rattle.std.specs.declared.io.ErrorKind.TheVariants.{UnexpectedEof}
use Rattle.amqp_base.specs.declared.error.Error.{Error}
use Rattle.amqp_base.specs.declared.error.Error.TheVariants.{Io, InvalidFormatCode, InvalidValue, InvalidUtf8Encoding, SequenceLengthMismatch, InvalidLength}
use Rattle.amqp_base.specs.declared.format_code.EncodingCodes.{EncodingCodes}
use Rattle.amqp_base.specs.declared.format_code.EncodingCodes.TheVariants.{DescribedType, List0, List8, List32, Map8, Map32, Array8, Array32}
use Rattle.amqp_base.specs.declared.format_code.Category.{Category}
use Rattle.amqp_base.specs.declared.format_code.Category.TheVariants.{Fixed, Variable, Compound, Array}
use Rattle.amqp_base.specs.Codes.{Kind, row, code_of}
use Rattle.amqp_base.specs.SameKind.{same_kind}
use Rattle.amqp_base.specs.Item.{Scalar, symbol, ulong, Descriptor, name, code}
use Rattle.amqp_base.specs.Value.{number, payload}
use Rattle.amqp_base.specs.Wire.{Constructor, bare, under, under_pair}

-- what stands there and the bytes behind it, or a refusal
abbrev pub Parsed : Type 0 → Type 0
Parsed A = Result (A × List ℕ) Error

infixl 10 ◌>>=◌
abbrev pub ◌>>=◌ : {A B : Type 0} → Parsed A → (A × List ℕ → Parsed B) → Parsed B
(Ok x) >>= f = f x
(Err e) >>= f = Err e

abbrev pub byte_at : List ℕ → Parsed ℕ
byte_at [] = Err (Io UnexpectedEof)
byte_at (b ∷ bs) = Ok (b, bs)

-- n bytes
abbrev pub bytes_at : ℕ → List ℕ → Parsed (List ℕ)
bytes_at n s = if nat_lt (length s) n then Err (Io UnexpectedEof) else Ok (take n s, drop n s)

-- a number of w bytes
abbrev pub number_at : ℕ → List ℕ → Parsed ℕ
number_at w s = bytes_at w s >>= λ b. Ok (number b.0, b.1)

-- w bytes of length, and as many bytes
abbrev pub sized_at : ℕ → List ℕ → Parsed (List ℕ)
sized_at w s = number_at w s >>= λ n. bytes_at n.0 n.1

abbrev pub utf8 : List ℕ × List ℕ → Parsed (List ℕ)
utf8 b = if is_utf8 b.0 then Ok b else Err InvalidUtf8Encoding

-- and those are UTF-8
abbrev pub text_at : ℕ → List ℕ → Parsed (List ℕ)
text_at w s = sized_at w s >>= utf8

-- what bytes that are no payload of their kind are refused as
abbrev pub bad_payload : Kind → Error
bad_payload Kind.boolean = InvalidValue
bad_payload Kind.char = InvalidValue
bad_payload _ = InvalidUtf8Encoding

abbrev pub value_or_refusal : Error → Option Scalar → List ℕ → Parsed Scalar
value_or_refusal e (Some v) s = Ok (v, s)
value_or_refusal e None s = Err e

-- the value of a payload
abbrev pub valued : EncodingCodes → List ℕ × List ℕ → Parsed Scalar
valued e b = value_or_refusal (bad_payload (row e).kind) (payload e b.0) b.1

-- the payload is there before it is looked at
abbrev pub by_category : EncodingCodes → Category → List ℕ → Parsed Scalar
by_category e (Fixed n) s = bytes_at n s >>= valued e
by_category e (Variable w) s = sized_at w s >>= valued e
by_category e (Compound w) s = Err InvalidFormatCode
by_category e (Array w) s = Err InvalidFormatCode

-- the data of an item without parts, of a kind
unfoldable pub data_at : Kind → EncodingCodes → List ℕ → Parsed Scalar
data_at k e s = if same_kind (row e).kind k then by_category e (row e).category s else Err InvalidFormatCode

-- the code of a byte, the described constructor's too
abbrev pub code_or_refusal : Option EncodingCodes → Result EncodingCodes Error
code_or_refusal (Some e) = Ok e
code_or_refusal None = Err InvalidFormatCode

unfoldable pub any_code : ℕ → Result EncodingCodes Error
any_code zero = Ok DescribedType
any_code (suc n) = code_or_refusal (code_of (suc n))

-- the byte of the code that is looked at: the inherited one, else the next byte
abbrev pub byte_under : Constructor → List ℕ → Parsed ℕ
byte_under bare s = byte_at s
byte_under (under e) s = Ok ((row e).byte, s)
byte_under (under_pair d e) s = Ok (0, s)

abbrev pub with_rest : {A : Type 0} → List ℕ → Result A Error → Parsed A
with_rest s (Ok x) = Ok (x, s)
with_rest s (Err e) = Err e

abbrev pub behind_byte : {A : Type 0} → (EncodingCodes → List ℕ → Parsed A) → ℕ → List ℕ → Parsed A
behind_byte data_of b s = with_rest s (any_code b) >>= λ e. data_of e.0 e.1

-- an item by its code, whose data follow
abbrev pub item_at : {A : Type 0} → (EncodingCodes → List ℕ → Parsed A) → Constructor → List ℕ → Parsed A
item_at data_of c s = byte_under c s >>= λ b. behind_byte data_of b.0 b.1

-- the code that is looked at
abbrev pub code_at : Constructor → List ℕ → Parsed EncodingCodes
code_at c s = item_at (λ e t. Ok (e, t)) c s

-- what a size must cover: the count's own bytes, and in an array with elements the first byte of their constructor; in one
-- without elements nothing
abbrev pub least_size : ℕ → Bool → ℕ → ℕ
least_size w true zero = 0
least_size w true (suc n) = w + 1
least_size w false n = w

-- The rule of every header, in this order: the count is not above the cap; in an array it is not above the size; the
-- size covers what it must.
abbrev pub header_rule : ℕ → Bool → ℕ → ℕ → List ℕ → Parsed (ℕ × ℕ)
header_rule w is_array size count s =
    if nat_lt 65536 count then Err InvalidValue
    else (if is_array && nat_lt size count then Err InvalidValue
    else (if nat_lt size (least_size w is_array count) then Err InvalidLength
    else Ok ((size, count), s)))

unfoldable pub header_at : ℕ → Bool → List ℕ → Parsed (ℕ × ℕ)
header_at w is_array s = number_at w s >>= λ z. number_at w z.1 >>= λ k. header_rule w is_array z.0 k.0 k.1

abbrev pub count_at : ℕ → List ℕ → Parsed ℕ
count_at w s = header_at w false s >>= λ h. Ok (h.0.1, h.1)

-- the data of a list up to its elements, of which there are so many
unfoldable pub list_data : EncodingCodes → List ℕ → Parsed ℕ
list_data List0 s = Ok (0, s)
list_data List8 s = count_at 1 s
list_data List32 s = count_at 4 s
list_data _ s = Err InvalidFormatCode

abbrev pub of_length : ℕ → ℕ → List ℕ → Parsed ℕ
of_length len n s = if n == len then Ok (n, s) else Err SequenceLengthMismatch

-- the same of a list that has just so many elements
unfoldable pub tuple_data : ℕ → EncodingCodes → List ℕ → Parsed ℕ
tuple_data len e s = list_data e s >>= λ n. of_length len n.0 n.1

-- keys and values in turn are even in number
abbrev pub of_pairs : ℕ → List ℕ → Parsed ℕ
of_pairs n s = if n % 2 == 1 then Err InvalidLength else Ok (n, s)

abbrev pub pairs_at : ℕ → List ℕ → Parsed ℕ
pairs_at w s = header_at w false s >>= λ h. of_pairs h.0.1 h.1

-- the data of a map up to its first key: so many keys and values together
unfoldable pub map_data : EncodingCodes → List ℕ → Parsed ℕ
map_data Map8 s = pairs_at 1 s
map_data Map32 s = pairs_at 4 s
map_data _ s = Err InvalidFormatCode

-- a list of just so many elements, or a map
unfoldable pub struct_data : ℕ → EncodingCodes → List ℕ → Parsed ℕ
struct_data len Map8 s = map_data Map8 s
struct_data len Map32 s = map_data Map32 s
struct_data len e s = tuple_data len e s

-- ---- arrays (1.2.4). What is refused as a message is `custom`, as a message's text is the codec's own.

abbrev pub described_by : Scalar → Option Descriptor
described_by (symbol b) = Some (name b)
described_by (ulong n) = Some (code n)
described_by v = None

abbrev pub descriptor_or : Error → Option Descriptor → List ℕ → Parsed Descriptor
descriptor_or custom (Some d) s = Ok (d, s)
descriptor_or custom None s = Err custom

abbrev pub is_descriptor_kind : Kind → Bool
is_descriptor_kind k = same_kind k Kind.symbol || same_kind k Kind.ulong

-- the data of a symbol or an ulong; another kind's code is a message
unfoldable pub descriptor_data : Error → EncodingCodes → List ℕ → Parsed Descriptor
descriptor_data custom e s = if is_descriptor_kind (row e).kind then (by_category e (row e).category s >>= λ v. descriptor_or custom (described_by v.0) v.1) else Err custom

abbrev pub descriptor_at : Error → List ℕ → Parsed Descriptor
descriptor_at custom s = byte_at s >>= λ b. behind_byte (descriptor_data custom) b.0 b.1

-- a primitive code
abbrev pub primitive_at : List ℕ → Parsed EncodingCodes
primitive_at s = byte_at s >>= λ b. with_rest b.1 (code_or_refusal (code_of b.0))

-- behind the first byte of an element constructor: a code, or 0x00, a descriptor and a code
abbrev pub constructor_behind : Error → ℕ → List ℕ → Parsed Constructor
constructor_behind custom zero s = descriptor_at custom s >>= λ d. primitive_at d.1 >>= λ e. Ok (under_pair d.0 e.0, e.1)
constructor_behind custom (suc n) s = with_rest s (code_or_refusal (code_of (suc n))) >>= λ e. Ok (under e.0, e.1)

unfoldable pub constructor_at : Error → List ℕ → Parsed Constructor
constructor_at custom s = byte_at s >>= λ b. constructor_behind custom b.0 b.1

-- what stands in front of elements: how many they are, what they stand under, and how many bytes an array has for them
pub record Heading : Type 0 where
  pub of_array : Bool
  pub count : ℕ
  pub stands : Constructor
  pub room : Option ℕ

-- the size covers the element constructor, of m bytes
abbrev pub of_room : ℕ → ℕ → ℕ → ℕ → Constructor → List ℕ → Parsed Heading
of_room w z m k c s = if nat_lt (z - w) m then Err InvalidLength else Ok (record { of_array = true; count = k; stands = c; room = Some ((z - w) - m) }, s)

-- none of an array, or those of a list, which have constructors of their own
abbrev pub empty_heading : Heading
empty_heading = record { of_array = true; count = 0; stands = bare; room = None }

abbrev pub list_heading : ℕ → Heading
list_heading k = record { of_array = false; count = k; stands = bare; room = None }

-- behind size and count: the spare bytes of an array without elements, else the element constructor
abbrev pub elements_behind : Error → ℕ → ℕ → ℕ → List ℕ → Parsed Heading
elements_behind custom w z zero s = bytes_at (z - w) s >>= λ b. Ok (empty_heading, b.1)
elements_behind custom w z (suc k) s = constructor_at custom s >>= λ c. of_room w z (length s - length c.1) (suc k) c.0 c.1

unfoldable pub array_at : Error → ℕ → List ℕ → Parsed Heading
array_at custom w s = header_at w true s >>= λ h. elements_behind custom w h.0.0 h.0.1 h.1

-- the data of a list or an array up to its elements
unfoldable pub seq_data : Error → EncodingCodes → List ℕ → Parsed Heading
seq_data custom Array8 s = array_at custom 1 s
seq_data custom Array32 s = array_at custom 4 s
seq_data custom e s = list_data e s >>= λ n. Ok (list_heading n.0, n.1)
