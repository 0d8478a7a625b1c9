-- Items that are decimals of any width.
use Rattle.std.specs.Prelude.{Bool, false}
use Rattle.amqp_base.specs.SameKind.{is_decimal_kind}
use Rattle.amqp_base.specs.Canon.{kind_of}
use Rattle.amqp_base.specs.Item.{Item, scalar}

-- an item of one of them
abbrev pub is_decimal : Item → Bool
is_decimal (scalar v) = is_decimal_kind (kind_of v)
is_decimal i = false
