-- The kinds of items without parts.
use Rattle.std.specs.Prelude.{ℕ, ℤ, Bool, List}
use Rattle.std.proofs.Common.{refl}
use Rattle.amqp_base.specs.Codes.{Kind}
use Rattle.amqp_base.specs.Item.{boolean, ubyte, ushort, uint, ulong, byte, short, int, long, float, double, char, timestamp, decimal32, decimal64, decimal128, uuid, binary, string, symbol}
use Rattle.amqp_base.specs.OneValue.{truth_in, natural_in, integer_in, bytes_in}
use Rattle.amqp_base.specs.Meaning.{Sort}

abbrev pub as_boolean : Sort Bool
as_boolean = record { kind = Kind.boolean; make = boolean; inside = truth_in; again = λ _. refl; own = λ _. refl; not_null = λ _. refl }

abbrev pub as_ubyte : Sort ℕ
as_ubyte = record { kind = Kind.ubyte; make = ubyte; inside = natural_in; again = λ _. refl; own = λ _. refl; not_null = λ _. refl }

abbrev pub as_ushort : Sort ℕ
as_ushort = record { kind = Kind.ushort; make = ushort; inside = natural_in; again = λ _. refl; own = λ _. refl; not_null = λ _. refl }

abbrev pub as_uint : Sort ℕ
as_uint = record { kind = Kind.uint; make = uint; inside = natural_in; again = λ _. refl; own = λ _. refl; not_null = λ _. refl }

abbrev pub as_ulong : Sort ℕ
as_ulong = record { kind = Kind.ulong; make = ulong; inside = natural_in; again = λ _. refl; own = λ _. refl; not_null = λ _. refl }

abbrev pub as_float : Sort ℕ
as_float = record { kind = Kind.float; make = float; inside = natural_in; again = λ _. refl; own = λ _. refl; not_null = λ _. refl }

abbrev pub as_double : Sort ℕ
as_double = record { kind = Kind.double; make = double; inside = natural_in; again = λ _. refl; own = λ _. refl; not_null = λ _. refl }

abbrev pub as_char : Sort ℕ
as_char = record { kind = Kind.char; make = char; inside = natural_in; again = λ _. refl; own = λ _. refl; not_null = λ _. refl }

abbrev pub as_byte : Sort ℤ
as_byte = record { kind = Kind.byte; make = byte; inside = integer_in; again = λ _. refl; own = λ _. refl; not_null = λ _. refl }

abbrev pub as_short : Sort ℤ
as_short = record { kind = Kind.short; make = short; inside = integer_in; again = λ _. refl; own = λ _. refl; not_null = λ _. refl }

abbrev pub as_int : Sort ℤ
as_int = record { kind = Kind.int; make = int; inside = integer_in; again = λ _. refl; own = λ _. refl; not_null = λ _. refl }

abbrev pub as_long : Sort ℤ
as_long = record { kind = Kind.long; make = long; inside = integer_in; again = λ _. refl; own = λ _. refl; not_null = λ _. refl }

abbrev pub as_timestamp : Sort ℤ
as_timestamp = record { kind = Kind.timestamp; make = timestamp; inside = integer_in; again = λ _. refl; own = λ _. refl; not_null = λ _. refl }

abbrev pub as_decimal32 : Sort (List ℕ)
as_decimal32 = record { kind = Kind.decimal32; make = decimal32; inside = bytes_in; again = λ _. refl; own = λ _. refl; not_null = λ _. refl }

abbrev pub as_decimal64 : Sort (List ℕ)
as_decimal64 = record { kind = Kind.decimal64; make = decimal64; inside = bytes_in; again = λ _. refl; own = λ _. refl; not_null = λ _. refl }

abbrev pub as_decimal128 : Sort (List ℕ)
as_decimal128 = record { kind = Kind.decimal128; make = decimal128; inside = bytes_in; again = λ _. refl; own = λ _. refl; not_null = λ _. refl }

abbrev pub as_uuid : Sort (List ℕ)
as_uuid = record { kind = Kind.uuid; make = uuid; inside = bytes_in; again = λ _. refl; own = λ _. refl; not_null = λ _. refl }

abbrev pub as_binary : Sort (List ℕ)
as_binary = record { kind = Kind.binary; make = binary; inside = bytes_in; again = λ _. refl; own = λ _. refl; not_null = λ _. refl }

abbrev pub as_string : Sort (List ℕ)
as_string = record { kind = Kind.string; make = string; inside = bytes_in; again = λ _. refl; own = λ _. refl; not_null = λ _. refl }

abbrev pub as_symbol : Sort (List ℕ)
as_symbol = record { kind = Kind.symbol; make = symbol; inside = bytes_in; again = λ _. refl; own = λ _. refl; not_null = λ _. refl }
