-- Kinds are told apart by their place in the table of kinds.
use Rattle.std.specs.Prelude.{ℕ, ◌==◌, Bool, ◌||◌}
use Rattle.amqp_base.specs.Codes.{Kind}

-- the place of a kind among the kinds, by which kinds are told apart
unfoldable pub place : Kind → ℕ
place Kind.described = 0
place Kind.null = 1
place Kind.boolean = 2
place Kind.ubyte = 3
place Kind.ushort = 4
place Kind.uint = 5
place Kind.ulong = 6
place Kind.byte = 7
place Kind.short = 8
place Kind.int = 9
place Kind.long = 10
place Kind.float = 11
place Kind.double = 12
place Kind.decimal32 = 13
place Kind.decimal64 = 14
place Kind.decimal128 = 15
place Kind.char = 16
place Kind.timestamp = 17
place Kind.uuid = 18
place Kind.binary = 19
place Kind.string = 20
place Kind.symbol = 21
place Kind.list = 22
place Kind.map = 23
place Kind.array = 24

-- whether two kinds are the same
unfoldable pub same_kind : Kind → Kind → Bool
same_kind a b = place a == place b

-- the three kinds of decimals (1.6.13 to 1.6.15)
abbrev pub is_decimal_kind : Kind → Bool
is_decimal_kind k = same_kind k Kind.decimal32 || (same_kind k Kind.decimal64 || same_kind k Kind.decimal128)
