-- The format codes of AMQP 1.0: each has one byte, one kind, one category and one width. Numbers such as 1.2 are sections
-- of OASIS AMQP 1.0 part 1, here and in the other files.
use Rattle.std.specs.Prelude.{◌≡◌, ℕ, ◌==◌, cond, List, [], ◌∷◌, Option, Some, None, Result, Ok, Err}
use Rattle.amqp_base.specs.declared.format_code.EncodingCodes.{EncodingCodes}
use Rattle.amqp_base.specs.declared.format_code.EncodingCodes.TheVariants.{DescribedType, Null, Boolean, BooleanTrue, BooleanFalse, Ubyte, Ushort, Uint, SmallUint, Uint0, Ulong, SmallUlong, Ulong0, Byte, Short, Int, SmallInt, Long, SmallLong, Float, Double, Decimal32, Decimal64, Decimal128, Char, Timestamp, Uuid, Vbin8, Vbin32, Str8, Str32, Sym8, Sym32, List0, List8, List32, Map8, Map32, Array8, Array32}
use Rattle.amqp_base.specs.declared.format_code.Category.{Category}
use Rattle.amqp_base.specs.declared.format_code.Category.TheVariants.{Fixed, Variable, Compound, Array}
use Rattle.amqp_base.specs.declared.format_code.IsDescribed.{IsDescribed}
use Rattle.amqp_base.specs.declared.error.Error.{Error}
use Rattle.amqp_base.specs.declared.error.Error.TheVariants.{InvalidFormatCode}

-- the primitive types (1.6.1 to 1.6.24), and the described constructor, which is none of them (1.2)
pub data Kind : Type 0 where
  described null boolean : Kind
  ubyte ushort uint ulong byte short int long : Kind
  float double decimal32 decimal64 decimal128 : Kind
  char timestamp uuid binary string symbol : Kind
  list map array : Kind

-- a code's byte, its kind, and what stands behind it (1.2)
pub record Row : Type 0 where
  pub byte : ℕ
  pub kind : Kind
  pub category : Category

-- the row of these three
abbrev pub is : ℕ → Kind → Category → Row
is b k c = record { byte = b; kind = k; category = c }

-- The row of a code (1.6, and 1.2.1 to 1.2.4 for the categories). The described constructor is no primitive code, and has
-- no data of its own (1.2).
unfoldable pub row : EncodingCodes → Row
row DescribedType = is 0x00 described (Fixed 0)
row Null = is 0x40 null (Fixed 0)
row Boolean = is 0x56 boolean (Fixed 1)
row BooleanTrue = is 0x41 boolean (Fixed 0)
row BooleanFalse = is 0x42 boolean (Fixed 0)
row Ubyte = is 0x50 ubyte (Fixed 1)
row Ushort = is 0x60 ushort (Fixed 2)
row Uint = is 0x70 uint (Fixed 4)
row SmallUint = is 0x52 uint (Fixed 1)
row Uint0 = is 0x43 uint (Fixed 0)
row Ulong = is 0x80 ulong (Fixed 8)
row SmallUlong = is 0x53 ulong (Fixed 1)
row Ulong0 = is 0x44 ulong (Fixed 0)
row Byte = is 0x51 byte (Fixed 1)
row Short = is 0x61 short (Fixed 2)
row Int = is 0x71 int (Fixed 4)
row SmallInt = is 0x54 int (Fixed 1)
row Long = is 0x81 long (Fixed 8)
row SmallLong = is 0x55 long (Fixed 1)
row Float = is 0x72 float (Fixed 4)
row Double = is 0x82 double (Fixed 8)
row Decimal32 = is 0x74 decimal32 (Fixed 4)
row Decimal64 = is 0x84 decimal64 (Fixed 8)
row Decimal128 = is 0x94 decimal128 (Fixed 16)
row Char = is 0x73 char (Fixed 4)
row Timestamp = is 0x83 timestamp (Fixed 8)
row Uuid = is 0x98 uuid (Fixed 16)
row Vbin8 = is 0xa0 binary (Variable 1)
row Vbin32 = is 0xb0 binary (Variable 4)
row Str8 = is 0xa1 string (Variable 1)
row Str32 = is 0xb1 string (Variable 4)
row Sym8 = is 0xa3 symbol (Variable 1)
row Sym32 = is 0xb3 symbol (Variable 4)
row List0 = is 0x45 list (Fixed 0)
row List8 = is 0xc0 list (Compound 1)
row List32 = is 0xd0 list (Compound 4)
row Map8 = is 0xc1 map (Compound 1)
row Map32 = is 0xd1 map (Compound 4)
row Array8 = is 0xe0 array (Array 1)
row Array32 = is 0xf0 array (Array 4)

-- the 39 primitive codes (1.6)
abbrev pub codes : List EncodingCodes
codes = Null ∷ Boolean ∷ BooleanTrue ∷ BooleanFalse ∷ Ubyte ∷ Ushort ∷ Uint ∷ SmallUint ∷ Uint0 ∷ Ulong ∷ SmallUlong ∷ Ulong0 ∷ Byte ∷ Short ∷ Int ∷ SmallInt ∷ Long ∷ SmallLong ∷ Float ∷ Double ∷ Decimal32 ∷ Decimal64 ∷ Decimal128 ∷ Char ∷ Timestamp ∷ Uuid ∷ Vbin8 ∷ Vbin32 ∷ Str8 ∷ Str32 ∷ Sym8 ∷ Sym32 ∷ List0 ∷ List8 ∷ List32 ∷ Map8 ∷ Map32 ∷ Array8 ∷ Array32 ∷ []

-- the code in a list that has this byte
abbrev pub among : ℕ → List EncodingCodes → Option EncodingCodes
among b [] = None
among b (e ∷ es) = cond (b == (row e).byte) (Some e) (among b es)

-- the primitive code of a byte: 0x00 and 216 other bytes have none (1.2, 1.6)
unfoldable pub code_of : ℕ → Option EncodingCodes
code_of b = among b codes

-- The widest code of a kind: every item of that kind can be written under it. It is the one under which this profile
-- writes the elements of arrays (1.2.4).
unfoldable pub widest : Kind → Option EncodingCodes
widest described = None
widest null = None
widest boolean = Some Boolean
widest ubyte = Some Ubyte
widest ushort = Some Ushort
widest uint = Some Uint
widest ulong = Some Ulong
widest byte = Some Byte
widest short = Some Short
widest int = Some Int
widest long = Some Long
widest float = Some Float
widest double = Some Double
widest decimal32 = Some Decimal32
widest decimal64 = Some Decimal64
widest decimal128 = Some Decimal128
widest char = Some Char
widest timestamp = Some Timestamp
widest uuid = Some Uuid
widest binary = Some Vbin32
widest string = Some Str32
widest symbol = Some Sym32
widest list = Some List32
widest map = Some Map32
widest array = Some Array32

-- the answer for a byte: its code, the described constructor's too, or a refusal
abbrev pub CodeOf : ℕ → Result EncodingCodes Error → Type 0
CodeOf b (Ok e) = (row e).byte ≡ b
CodeOf b (Err e) = (e ≡ InvalidFormatCode) × ((d : EncodingCodes) → (row d).byte ≡ b → ⊥)

-- the answer for a code: its category, which the described constructor doesn't have
abbrev pub CategoryOf : EncodingCodes → Result Category IsDescribed → Type 0
CategoryOf e (Ok c) = ((row e).category ≡ c) × (e ≡ DescribedType → ⊥)
CategoryOf e (Err d) = e ≡ DescribedType
