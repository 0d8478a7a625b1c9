-- The data that is written for an item without parts, under the widest code of its kind.
use Rattle.std.specs.Prelude.{ℕ, suc, ◌-◌, ◌/◌, ◌^◌, ℤ, pos, negsuc, nat_lt, nat_le, ◌==◌, true, false, if◌then◌else◌, List, [], ◌∷◌, ◌++◌, length, Option, Some, None}
use Rattle.std.specs.Int.{bytes_high_first}
use Rattle.std.specs.Str.{is_utf8, all_scalars}
use Rattle.amqp_base.specs.Codes.{Kind}
use Rattle.amqp_base.specs.Item.{Scalar, null, boolean, ubyte, ushort, uint, ulong, byte, short, int, long, float, double, decimal32, decimal64, decimal128, char, timestamp, uuid, binary, string, symbol}
use Rattle.amqp_base.specs.Partial.{when}

-- the primitive type of an item without parts (1.6)
abbrev pub kind_of : Scalar → Kind
kind_of null = Kind.null
kind_of (boolean b) = Kind.boolean
kind_of (ubyte n) = Kind.ubyte
kind_of (ushort n) = Kind.ushort
kind_of (uint n) = Kind.uint
kind_of (ulong n) = Kind.ulong
kind_of (byte z) = Kind.byte
kind_of (short z) = Kind.short
kind_of (int z) = Kind.int
kind_of (long z) = Kind.long
kind_of (float n) = Kind.float
kind_of (double n) = Kind.double
kind_of (decimal32 b) = Kind.decimal32
kind_of (decimal64 b) = Kind.decimal64
kind_of (decimal128 b) = Kind.decimal128
kind_of (char n) = Kind.char
kind_of (timestamp z) = Kind.timestamp
kind_of (uuid b) = Kind.uuid
kind_of (binary b) = Kind.binary
kind_of (string b) = Kind.string
kind_of (symbol b) = Kind.symbol

-- a number in w bytes, the high one first, where it fits (1.2.1)
abbrev pub unsigned : ℕ → ℕ → Option (List ℕ)
unsigned w n = when (nat_lt n (256 ^ w)) (bytes_high_first w n)

-- the number that stands for z in w bytes of two's complement (1.6.7 to 1.6.10)
abbrev pub in_two's_complement : ℕ → ℤ → ℕ
in_two's_complement w (pos n) = n
in_two's_complement w (negsuc n) = 256 ^ w - suc n

-- z, or -1 - z where z is negative: two's complement in w bytes holds it where this is below half of 256 ^ w
abbrev pub magnitude : ℤ → ℕ
magnitude (pos n) = n
magnitude (negsuc n) = n

-- z in w bytes of two's complement, the high one first, where it fits (1.6.7 to 1.6.10, 1.6.17)
abbrev pub twos : ℕ → ℤ → Option (List ℕ)
twos w z = when (nat_lt (magnitude z) (256 ^ w / 2)) (bytes_high_first w (in_two's_complement w z))

-- bytes of a fixed width (1.2.1)
abbrev pub exactly : ℕ → List ℕ → Option (List ℕ)
exactly n b = when (length b == n) b

-- No payload and no body of a list, map or array is longer: with a count of 4 bytes its size still fits 4 bytes. This
-- profile's own rule.
abbrev pub limit : ℕ
limit = 4294967291

-- a payload behind its length in 4 bytes (1.2.2)
abbrev pub sized : List ℕ → Option (List ℕ)
sized b = when (nat_le (length b) limit) (bytes_high_first 4 (length b) ++ b)

-- the data of an item without parts under the widest code of its kind, where there is one (1.6.2 to 1.6.21)
unfoldable pub scalar_body : Scalar → Option (List ℕ)
scalar_body null = None
scalar_body (boolean false) = Some (0x00 ∷ [])
scalar_body (boolean true) = Some (0x01 ∷ [])
scalar_body (ubyte n) = unsigned 1 n
scalar_body (ushort n) = unsigned 2 n
scalar_body (uint n) = unsigned 4 n
scalar_body (ulong n) = unsigned 8 n
scalar_body (byte z) = twos 1 z
scalar_body (short z) = twos 2 z
scalar_body (int z) = twos 4 z
scalar_body (long z) = twos 8 z
scalar_body (float n) = unsigned 4 n
scalar_body (double n) = unsigned 8 n
scalar_body (decimal32 b) = exactly 4 b
scalar_body (decimal64 b) = exactly 8 b
scalar_body (decimal128 b) = exactly 16 b
scalar_body (char n) = when (all_scalars (n ∷ [])) (bytes_high_first 4 n)
scalar_body (timestamp z) = twos 8 z
scalar_body (uuid b) = exactly 16 b
scalar_body (binary b) = sized b
scalar_body (string b) = if is_utf8 b then sized b else None
scalar_body (symbol b) = if is_utf8 b then sized b else None
