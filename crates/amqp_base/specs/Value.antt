-- How the data of an item without parts is read.
use Rattle.std.specs.Prelude.{ℕ, zero, suc, ◌+◌, ◌-◌, ◌*◌, ◌/◌, ◌^◌, ℤ, pos, negsuc, nat_lt, true, false, if◌then◌else◌, List, [], ◌∷◌, length, Option, Some, None}
use Rattle.std.specs.Str.{is_utf8, all_scalars}
use Rattle.amqp_base.specs.declared.format_code.EncodingCodes.{EncodingCodes}
use Rattle.amqp_base.specs.declared.format_code.EncodingCodes.TheVariants.{BooleanTrue, BooleanFalse}
use Rattle.amqp_base.specs.Codes.{Kind, row}
use Rattle.amqp_base.specs.Item.{Scalar, null, boolean, ubyte, ushort, uint, ulong, byte, short, int, long, float, double, decimal32, decimal64, decimal128, char, timestamp, uuid, binary, string, symbol}

-- the number that bytes spell, the high one first (1.2.1)
abbrev pub number : List ℕ → ℕ
number [] = 0
number (b ∷ bs) = b * 256 ^ length bs + number bs

-- the same in two's complement (1.6.7 to 1.6.10, 1.6.17)
abbrev pub signed : List ℕ → ℤ
signed b = if nat_lt (number b) (256 ^ length b / 2) then pos (number b) else negsuc (256 ^ length b - suc (number b))

-- 0x00 is false and 0x01 true; no other byte is a boolean (1.6.2)
abbrev pub boolean_of : ℕ → Option Scalar
boolean_of zero = Some (boolean false)
boolean_of (suc zero) = Some (boolean true)
boolean_of (suc (suc n)) = None

-- Bytes read as their kind says (1.6.1 to 1.6.21). Strings are UTF-8 (1.6.20). So are symbols: this profile's own rule,
-- 1.6.21 has ASCII alone.
unfoldable pub read : Kind → List ℕ → Option Scalar
read Kind.null b = Some null
read Kind.boolean b = boolean_of (number b)
read Kind.ubyte b = Some (ubyte (number b))
read Kind.ushort b = Some (ushort (number b))
read Kind.uint b = Some (uint (number b))
read Kind.ulong b = Some (ulong (number b))
read Kind.byte b = Some (byte (signed b))
read Kind.short b = Some (short (signed b))
read Kind.int b = Some (int (signed b))
read Kind.long b = Some (long (signed b))
read Kind.float b = Some (float (number b))
read Kind.double b = Some (double (number b))
read Kind.decimal32 b = Some (decimal32 b)
read Kind.decimal64 b = Some (decimal64 b)
read Kind.decimal128 b = Some (decimal128 b)
-- a Unicode scalar value (1.6.16)
read Kind.char b = if all_scalars (number b ∷ []) then Some (char (number b)) else None
read Kind.timestamp b = Some (timestamp (signed b))
read Kind.uuid b = Some (uuid b)
read Kind.binary b = Some (binary b)
read Kind.string b = if is_utf8 b then Some (string b) else None
read Kind.symbol b = if is_utf8 b then Some (symbol b) else None
read Kind.list b = None
read Kind.map b = None
read Kind.array b = None
read Kind.described b = None

-- the data of a code: two codes say all by themselves (1.6.2)
unfoldable pub payload : EncodingCodes → List ℕ → Option Scalar
payload BooleanTrue b = Some (boolean true)
payload BooleanFalse b = Some (boolean false)
payload e b = read (row e).kind b
