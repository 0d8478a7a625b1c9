-- Decimals of any width.
use Rattle.std.proofs.Common.{◌≡◌, ℕ, true, List, ◌++◌, Some, Ok, refl, sym, ap, subst, ◌∙◌, inl, inr, ◌⊎◌, IsTrue}
use Rattle.amqp_base.specs.declared.format_code.EncodingCodes.{EncodingCodes}
use Rattle.amqp_base.specs.declared.format_code.EncodingCodes.TheVariants.{DescribedType, Decimal32, Decimal64, Decimal128}
use Rattle.amqp_base.specs.Codes.{Kind, row, code_of, codes}
use Rattle.amqp_base.specs.SameKind.{same_kind, place, is_decimal_kind}
use Rattle.amqp_base.specs.Canon.{kind_of}
use Rattle.amqp_base.specs.Typing.{is_of}
use Rattle.amqp_base.specs.Item.{Item, Scalar, scalar, list, map, array, described}
use Rattle.amqp_base.specs.Wire.{under, Wire, lenient}
use Rattle.amqp_base.proofs.KindPlaces.{same_kind_is, of_kind}
use Rattle.amqp_de.specs.Decimals.{is_decimal}
use Rattle.amqp_data.specs.Decimals.{decimal_at}
use Rattle.amqp_data.proofs.Data.{by_category_is, kind_under, scalar_under}
use Rattle.amqp_de.proofs.Answered.{Reads}
use Rattle.amqp_data.proofs.OnlyCode.{alone_byte}
use Rattle.amqp_base.proofs.CodeAgain.{code_again}
use Rattle.amqp_data.specs.OneCode.{alone}
use Rattle.amqp_de.specs.Decoding.{Decoding, stands_under}
use Rattle.amqp_de.specs.Law.{Found}
use Rattle.amqp_de.specs.Look.{item_kind, Looks}
use Rattle.amqp_de.proofs.Looking.{same_byte}
use Rattle.amqp_de.proofs.LookedFirst.{same_place, found_behind}
use Rattle.amqp_data.proofs.Received.{may_taken}
use Rattle.amqp_de.proofs.Weaker.{found_as}
use Rattle.amqp_data.proofs.DecimalData.{one_of_three}

decimal_scalar : (i : Item) → IsTrue (is_decimal i) → (v : Scalar) × (i ≡ scalar v)
decimal_scalar (scalar v) t = (v, refl)
decimal_scalar (list is) t = absurd cc
decimal_scalar (map ps) t = absurd cc
decimal_scalar (array is) t = absurd cc
decimal_scalar (described d v) t = absurd cc

decimal_parsed : (e : EncodingCodes) (t rest : List ℕ) (v : Scalar) → IsTrue (is_decimal (scalar v)) → Wire lenient (under e) t (scalar v) → decimal_at e (t ++ rest) ≡ Ok (v, rest)
unfolding decimal_at
decimal_parsed e t rest v h w =
    let q : is_decimal_kind (row e).kind ≡ true = ap is_decimal_kind (kind_under w) ∙ h in
    rw q (by_category_is (scalar_under w) rest)

pub reads_decimal : Reads is_decimal decimal_at
reads_decimal = record { scalars = decimal_scalar; understands = decimal_parsed }

-- one of the three kinds
pub of_decimal : (k : Kind) (i : Item) → is_decimal_kind k ≡ true → IsTrue (is_of k i) → IsTrue (is_decimal i)
of_decimal k (scalar v) d t = ap is_decimal_kind (same_kind_is (kind_of v) k t) ∙ d
of_decimal k (list is) d t = absurd cc
of_decimal k (map ps) d t = absurd cc
of_decimal k (array is) d t = absurd cc
of_decimal k (described x v) d t = absurd cc

-- a code of another width
described_kind : (k : Kind) → (row DescribedType).kind ≡ k → is_decimal_kind k ≡ true → ⊥
unfolding row same_kind place
described_kind k p d = let q : is_decimal_kind Kind.described ≡ true = subst (λ (z : Kind). is_decimal_kind z ≡ true) (sym p) d in absurd cc

-- the byte of a code of one of them
one_byte : (k : Kind) (b : ℕ) (x : EncodingCodes) → IsTrue (alone k b codes) → is_decimal_kind k ≡ true → (row x).kind ≡ k → (row x).byte ≡ b
unfolding code_of
one_byte k b x t d h = tell (code_again x)
  where
    tell : (code_of (row x).byte ≡ Some x) ⊎ (x ≡ DescribedType) → (row x).byte ≡ b
    tell (inl p) = alone_byte k b (row x).byte codes x t p h
    tell (inr p) = absurd (described_kind k (rw p at h) d)

pub other_width : (wanted x : EncodingCodes) → IsTrue (alone (row wanted).kind (row wanted).byte codes) → is_decimal_kind (row wanted).kind ≡ true → ((row x).byte ≡ (row wanted).byte → ⊥) → (row x).kind ≡ (row wanted).kind → ⊥
other_width wanted x t d n k = n (one_byte (row wanted).kind (row wanted).byte x t d k)

-- one of the three bytes
abbrev pub IsDecimalByte : ℕ → Type 0
IsDecimalByte b = (b ≡ 0x74) ⊎ ((b ≡ 0x84) ⊎ (b ≡ 0x94))

pub by_byte : (x : EncodingCodes) → IsDecimalByte (row x).byte → is_decimal_kind (row x).kind ≡ true
unfolding row same_kind place
by_byte x (inl h) = rw (same_byte x Decimal32 h) refl
by_byte x (inr (inl h)) = rw (same_byte x Decimal64 h) refl
by_byte x (inr (inr h)) = rw (same_byte x Decimal128 h) refl

decimal_byte : (x : EncodingCodes) → ((row x).kind ≡ Kind.decimal32) ⊎ (((row x).kind ≡ Kind.decimal64) ⊎ ((row x).kind ≡ Kind.decimal128)) → IsDecimalByte (row x).byte
unfolding row same_kind place
decimal_byte x (inl h) = inl (one_byte Kind.decimal32 0x74 x refl refl h)
decimal_byte x (inr (inl h)) = inr (inl (one_byte Kind.decimal64 0x84 x refl refl h))
decimal_byte x (inr (inr h)) = inr (inr (one_byte Kind.decimal128 0x94 x refl refl h))

-- a code of no other width
pub own_width : (wanted x : EncodingCodes) (b : ℕ) → b ≡ (row x).byte → (b ≡ (row wanted).byte) ⊎ ((b ≡ 0x74 → ⊥) × (b ≡ 0x84 → ⊥) × (b ≡ 0x94 → ⊥)) → is_decimal_kind (row x).kind ≡ true → (row x).kind ≡ (row wanted).kind
own_width wanted x b q (inl h) d = ap (λ (y : EncodingCodes). (row y).kind) (same_byte x wanted (sym q ∙ h))
own_width wanted x b q (inr n) d = absurd (none (decimal_byte x (one_of_three (row x).kind d)))
  where
    none : IsDecimalByte (row x).byte → ⊥
    none (inl h) = n.0 (q ∙ h)
    none (inr (inl h)) = n.1 (q ∙ h)
    none (inr (inr h)) = n.2 (q ∙ h)

-- what was read behind a look is of the kind that was looked at
pub width_read : (k : Kind) (v : Scalar) (old mid new : Decoding) (x : EncodingCodes) → (is_decimal_kind (row x).kind ≡ true → (row x).kind ≡ k) → Looks old mid x → Found is_decimal (λ i. i ≡ scalar v) mid new → kind_of v ≡ k
width_read k v old mid new x h l f =
    let o = f.front l.not_ended in
    let w : Wire lenient (stands_under old) o.text o.item = rw (same_place old mid x l) at (o.spelled) in
    let q : (row x).kind ≡ kind_of v = l.kind o.item o.text w (may_taken mid.reading new.reading o.text o.step) ∙ ap item_kind o.value in
    let d : IsTrue (is_decimal (scalar v)) = rw o.value at o.taken in
    sym q ∙ h (ap is_decimal_kind q ∙ d)

pub width_found : (k : Kind) (v : Scalar) (old mid new : Decoding) (x : EncodingCodes) → kind_of v ≡ k → Looks old mid x → Found is_decimal (λ i. i ≡ scalar v) mid new → Found (is_of k) (λ i. i ≡ scalar v) old new
width_found k v old mid new x q l f = found_behind (is_of k) (λ i. i ≡ scalar v) old mid new x l (found_as is_decimal (is_of k) (λ i. i ≡ scalar v) (λ i. i ≡ scalar v) mid new (λ i t m. (rw m (of_kind k v q), m)) f)
