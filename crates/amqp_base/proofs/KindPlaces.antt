-- Kinds are told apart by their places.
use Rattle.std.proofs.Common.{◌≡◌, ℕ, true, IsTrue, [], ◌∷◌, List, refl, sym, ap, ◌∙◌, get_or}
use Rattle.std.proofs.lemmas.Bool.{eq-eqb, eqb-true}
use Rattle.amqp_base.specs.Codes.{Kind}
use Rattle.amqp_base.specs.SameKind.{place, same_kind}
use Rattle.amqp_base.specs.Item.{Scalar, scalar}
use Rattle.amqp_base.specs.Canon.{kind_of}
use Rattle.amqp_base.specs.Typing.{is_of}

kinds : List Kind
kinds = Kind.described ∷ Kind.null ∷ Kind.boolean ∷ Kind.ubyte ∷ Kind.ushort ∷ Kind.uint ∷ Kind.ulong ∷ Kind.byte ∷ Kind.short ∷ Kind.int ∷ Kind.long ∷ Kind.float ∷ Kind.double ∷ Kind.decimal32 ∷ Kind.decimal64 ∷ Kind.decimal128 ∷ Kind.char ∷ Kind.timestamp ∷ Kind.uuid ∷ Kind.binary ∷ Kind.string ∷ Kind.symbol ∷ Kind.list ∷ Kind.map ∷ Kind.array ∷ []

kind_at : ℕ → Kind
kind_at n = get_or kinds n Kind.described

at_place : (k : Kind) → kind_at (place k) ≡ k
unfolding place kinds kind_at
at_place Kind.described = refl
at_place Kind.null = refl
at_place Kind.boolean = refl
at_place Kind.ubyte = refl
at_place Kind.ushort = refl
at_place Kind.uint = refl
at_place Kind.ulong = refl
at_place Kind.byte = refl
at_place Kind.short = refl
at_place Kind.int = refl
at_place Kind.long = refl
at_place Kind.float = refl
at_place Kind.double = refl
at_place Kind.decimal32 = refl
at_place Kind.decimal64 = refl
at_place Kind.decimal128 = refl
at_place Kind.char = refl
at_place Kind.timestamp = refl
at_place Kind.uuid = refl
at_place Kind.binary = refl
at_place Kind.string = refl
at_place Kind.symbol = refl
at_place Kind.list = refl
at_place Kind.map = refl
at_place Kind.array = refl

pub same_kind_is : (a b : Kind) → same_kind a b ≡ true → a ≡ b
unfolding same_kind
same_kind_is a b h = sym (at_place a) ∙ ap kind_at (eqb-true (place a) (place b) h) ∙ at_place b

pub kind_same : (a b : Kind) → a ≡ b → same_kind a b ≡ true
unfolding same_kind
kind_same a b h = eq-eqb (place a) (place b) (ap place h)

-- an item without parts is of its kind
pub of_kind : (k : Kind) (v : Scalar) → kind_of v ≡ k → IsTrue (is_of k (scalar v))
of_kind k v h = kind_same (kind_of v) k h
