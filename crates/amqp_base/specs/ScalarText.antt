-- The text that is written for an item without parts, outside arrays.
use Rattle.std.specs.Prelude.{ℕ, ℤ, nat_lt, nat_le, ◌==◌, true, false, if◌then◌else◌, List, [], ◌∷◌, length, Option, Some, None}
use Rattle.std.specs.Str.{is_utf8}
use Rattle.amqp_base.specs.Codes.{row, widest}
use Rattle.amqp_base.specs.Item.{Scalar, null, boolean, uint, ulong, int, long, binary, string, symbol}
use Rattle.amqp_base.specs.Partial.{◌>>=◌, or_else, when}
use Rattle.amqp_base.specs.ScalarBody.{kind_of, magnitude, in_two's_complement, scalar_body}

-- 0 as a code alone, and up to 255 as a code and one byte (1.6.5, 1.6.6)
abbrev pub short_number : ℕ → ℕ → ℕ → Option (List ℕ)
short_number of_zero one n = if n == 0 then Some (of_zero ∷ []) else when (nat_lt n 256) (one ∷ n ∷ [])

-- from -128 to 127 as a code and one byte (1.6.9, 1.6.10)
abbrev pub short_signed : ℕ → ℤ → Option (List ℕ)
short_signed one z = when (nat_lt (magnitude z) 128) (one ∷ in_two's_complement 1 z ∷ [])

-- Up to 254 bytes behind a length of one byte (1.2.2). That 255 bytes aren't written so is this profile's own rule.
abbrev pub short_payload : ℕ → List ℕ → Option (List ℕ)
short_payload one b = when (nat_le (length b) 254) (one ∷ length b ∷ b)

-- the short text of an item without parts, where it has one (1.6.1, 1.6.2, 1.6.5, 1.6.6, 1.6.9, 1.6.10, 1.6.19 to 1.6.21)
unfoldable pub short_text : Scalar → Option (List ℕ)
short_text null = Some (0x40 ∷ [])
short_text (boolean true) = Some (0x41 ∷ [])
short_text (boolean false) = Some (0x42 ∷ [])
short_text (uint n) = short_number 0x43 0x52 n
short_text (ulong n) = short_number 0x44 0x53 n
short_text (int z) = short_signed 0x54 z
short_text (long z) = short_signed 0x55 z
short_text (binary b) = short_payload 0xa0 b
short_text (string b) = if is_utf8 b then short_payload 0xa1 b else None
short_text (symbol b) = if is_utf8 b then short_payload 0xa3 b else None
short_text v = None

-- the widest code of its kind, and its data (1.2)
abbrev pub wide_text : Scalar → Option (List ℕ)
wide_text v = widest (kind_of v) >>= λ e. scalar_body v >>= λ b. Some ((row e).byte ∷ b)

-- The text of an item without parts: the short one where there is one, else the wide one. This profile's own choice among
-- the encodings of 1.6.
unfoldable pub scalar_text : Scalar → Option (List ℕ)
scalar_text v = or_else (short_text v) (wide_text v)
