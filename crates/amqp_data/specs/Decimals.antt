-- Decimals of any width.
use Rattle.std.specs.Prelude.{ℕ, if◌then◌else◌, List, Err}
use Rattle.amqp_base.specs.declared.error.Error.TheVariants.{InvalidFormatCode}
use Rattle.amqp_base.specs.declared.format_code.EncodingCodes.{EncodingCodes}
use Rattle.amqp_base.specs.Codes.{row}
use Rattle.amqp_base.specs.SameKind.{is_decimal_kind}
use Rattle.amqp_base.specs.Item.{Scalar, decimal32, decimal64, decimal128}
use Rattle.amqp_types.specs.declared.decimal.Decimal.{Decimal}
use Rattle.amqp_types.specs.declared.decimal.Decimal.TheVariants.{Dec32, Dec64, Dec128}
use Rattle.amqp_base.specs.Parse.{Parsed, by_category}

-- the data of one of them
unfoldable pub decimal_at : EncodingCodes → List ℕ → Parsed Scalar
decimal_at e s = if is_decimal_kind (row e).kind then by_category e (row e).category s else Err InvalidFormatCode

-- what a decimal is on the wire
abbrev pub decimal : Decimal → Scalar
decimal (Dec32 b) = decimal32 b
decimal (Dec64 b) = decimal64 b
decimal (Dec128 b) = decimal128 b
