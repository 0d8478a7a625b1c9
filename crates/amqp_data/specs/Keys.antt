-- An index or a name, as it was read.
use Rattle.std.specs.Prelude.{string_bytes}
use Rattle.amqp_base.specs.Item.{Scalar, uint, ulong, string, symbol}
use Rattle.amqp_data.specs.declared.keys.Key.{Key}
use Rattle.amqp_data.specs.declared.keys.Key.TheVariants.{Uint, Ulong, String, Symbol}

-- what it is on the wire
abbrev pub key_scalar : Key → Scalar
key_scalar (Uint n) = uint n
key_scalar (Ulong n) = ulong n
key_scalar (String s) = string (string_bytes s)
key_scalar (Symbol s) = symbol (string_bytes s)
