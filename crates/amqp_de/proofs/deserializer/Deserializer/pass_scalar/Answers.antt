use Rattle.std.proofs.Common.{refl, inl, inr}
use Rattle.amqp_base.specs.Codes.{Kind, row}
use Rattle.amqp_de.proofs.IgnoredRead.{as_kind, one_of_two, one_of_three, no_other}
use Rattle.amqp_de.proofs.deserializer.Deserializer.pass_scalar.Goals as goal

pub returns-in-Null : goal.returns-in-Null
unfolding row
returns-in-Null g c = c.pass.ensures (row c.args.code).kind (as_kind _ (row c.args.code).kind Kind.null refl (λ d s e p. inl p) (rw c.in-Null.is refl))

pub returns-in-Boolean : goal.returns-in-Boolean
unfolding row
returns-in-Boolean g c = c.pass-in-Boolean.ensures (row c.args.code).kind (as_kind _ (row c.args.code).kind Kind.boolean refl (λ d s e p. inl p) (one_of_three _ _ _ _ Kind.boolean c.in-Boolean.is refl refl refl))

pub returns-in-Ubyte : goal.returns-in-Ubyte
unfolding row
returns-in-Ubyte g c = c.pass-in-Ubyte.ensures (row c.args.code).kind (as_kind _ (row c.args.code).kind Kind.ubyte refl (λ d s e p. inl p) (rw c.in-Ubyte.is refl))

pub returns-in-Ushort : goal.returns-in-Ushort
unfolding row
returns-in-Ushort g c = c.pass-in-Ushort.ensures (row c.args.code).kind (as_kind _ (row c.args.code).kind Kind.ushort refl (λ d s e p. inl p) (rw c.in-Ushort.is refl))

pub returns-in-Uint : goal.returns-in-Uint
unfolding row
returns-in-Uint g c = c.pass-in-Uint.ensures (row c.args.code).kind (as_kind _ (row c.args.code).kind Kind.uint refl (λ d s e p. inl p) (one_of_three _ _ _ _ Kind.uint c.in-Uint.is refl refl refl))

pub returns-in-Ulong : goal.returns-in-Ulong
unfolding row
returns-in-Ulong g c = c.pass-in-Ulong.ensures (row c.args.code).kind (as_kind _ (row c.args.code).kind Kind.ulong refl (λ d s e p. inl p) (one_of_three _ _ _ _ Kind.ulong c.in-Ulong.is refl refl refl))

pub returns-in-Byte : goal.returns-in-Byte
unfolding row
returns-in-Byte g c = c.pass-in-Byte.ensures (row c.args.code).kind (as_kind _ (row c.args.code).kind Kind.byte refl (λ d s e p. inl p) (rw c.in-Byte.is refl))

pub returns-in-Short : goal.returns-in-Short
unfolding row
returns-in-Short g c = c.pass-in-Short.ensures (row c.args.code).kind (as_kind _ (row c.args.code).kind Kind.short refl (λ d s e p. inl p) (rw c.in-Short.is refl))

pub returns-in-Int : goal.returns-in-Int
unfolding row
returns-in-Int g c = c.pass-in-Int.ensures (row c.args.code).kind (as_kind _ (row c.args.code).kind Kind.int refl (λ d s e p. inl p) (one_of_two _ _ _ Kind.int c.in-Int.is refl refl))

pub returns-in-Long : goal.returns-in-Long
unfolding row
returns-in-Long g c = c.pass-in-Long.ensures (row c.args.code).kind (as_kind _ (row c.args.code).kind Kind.long refl (λ d s e p. inl p) (one_of_two _ _ _ Kind.long c.in-Long.is refl refl))

pub returns-in-Float : goal.returns-in-Float
unfolding row
returns-in-Float g c = c.pass-in-Float.ensures (row c.args.code).kind (as_kind _ (row c.args.code).kind Kind.float refl (λ d s e p. inl p) (rw c.in-Float.is refl))

pub returns-in-Double : goal.returns-in-Double
unfolding row
returns-in-Double g c = c.pass-in-Double.ensures (row c.args.code).kind (as_kind _ (row c.args.code).kind Kind.double refl (λ d s e p. inl p) (rw c.in-Double.is refl))

pub returns-in-Decimal32 : goal.returns-in-Decimal32
unfolding row
returns-in-Decimal32 g c = c.pass-in-Decimal32.ensures (row c.args.code).kind (as_kind _ (row c.args.code).kind Kind.decimal32 refl (λ d s e p. inr p) (rw c.in-Decimal32.is refl))

pub returns-in-Decimal64 : goal.returns-in-Decimal64
unfolding row
returns-in-Decimal64 g c = c.pass-in-Decimal64.ensures (row c.args.code).kind (as_kind _ (row c.args.code).kind Kind.decimal64 refl (λ d s e p. inr p) (rw c.in-Decimal64.is refl))

pub returns-in-Decimal128 : goal.returns-in-Decimal128
unfolding row
returns-in-Decimal128 g c = c.pass-in-Decimal128.ensures (row c.args.code).kind (as_kind _ (row c.args.code).kind Kind.decimal128 refl (λ d s e p. inr p) (rw c.in-Decimal128.is refl))

pub returns-in-Char : goal.returns-in-Char
unfolding row
returns-in-Char g c = c.pass-in-Char.ensures (row c.args.code).kind (as_kind _ (row c.args.code).kind Kind.char refl (λ d s e p. inl p) (rw c.in-Char.is refl))

pub returns-in-Timestamp : goal.returns-in-Timestamp
unfolding row
returns-in-Timestamp g c = c.pass-in-Timestamp.ensures (row c.args.code).kind (as_kind _ (row c.args.code).kind Kind.timestamp refl (λ d s e p. inl p) (rw c.in-Timestamp.is refl))

pub returns-in-Uuid : goal.returns-in-Uuid
unfolding row
returns-in-Uuid g c = c.pass-in-Uuid.ensures (row c.args.code).kind (as_kind _ (row c.args.code).kind Kind.uuid refl (λ d s e p. inl p) (rw c.in-Uuid.is refl))

pub returns-in-Vbin8 : goal.returns-in-Vbin8
unfolding row
returns-in-Vbin8 g c = c.pass-in-Vbin8.ensures (row c.args.code).kind (as_kind _ (row c.args.code).kind Kind.binary refl (λ d s e p. inl p) (one_of_two _ _ _ Kind.binary c.in-Vbin8.is refl refl))

pub returns-in-Str8 : goal.returns-in-Str8
unfolding row
returns-in-Str8 g c = c.pass-in-Str8.ensures (row c.args.code).kind (as_kind _ (row c.args.code).kind Kind.string refl (λ d s e p. inl p) (one_of_two _ _ _ Kind.string c.in-Str8.is refl refl))

pub returns-in-Sym8 : goal.returns-in-Sym8
unfolding row
returns-in-Sym8 g c = c.pass-in-Sym8.ensures (row c.args.code).kind (as_kind _ (row c.args.code).kind Kind.symbol refl (λ d s e p. inl p) (one_of_two _ _ _ Kind.symbol c.in-Sym8.is refl refl))

pub unreachable-requires : goal.unreachable-requires
unreachable-requires g c =
    let n = c.in_default in
    no_other _ c.requires n.not-Null n.not-Boolean n.not-BooleanTrue n.not-BooleanFalse n.not-Ubyte n.not-Ushort n.not-Uint n.not-SmallUint n.not-Uint0 n.not-Ulong n.not-SmallUlong n.not-Ulong0 n.not-Byte n.not-Short n.not-Int n.not-SmallInt n.not-Long n.not-SmallLong n.not-Float n.not-Double n.not-Decimal32 n.not-Decimal64 n.not-Decimal128 n.not-Char n.not-Timestamp n.not-Uuid n.not-Vbin8 n.not-Vbin32 n.not-Str8 n.not-Str32 n.not-Sym8 n.not-Sym32
