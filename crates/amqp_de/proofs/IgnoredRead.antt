-- Items of every kind, behind a look at the code.
use Rattle.std.proofs.Common.{◌≡◌, ◌⊎◌, ℕ, zero, suc, Bool, true, false, ◌&&◌, not, IsTrue, List, ◌++◌, Some, Ok, Err, refl, sym, ap, subst, ◌∙◌, inl, inr}
use Rattle.amqp_base.specs.declared.error.Error.{Error}
use Rattle.amqp_base.specs.declared.error.Error.TheVariants.{InvalidValue}
use Rattle.amqp_base.specs.declared.format_code.EncodingCodes.{EncodingCodes}
use Rattle.amqp_base.specs.declared.format_code.EncodingCodes.TheVariants.{DescribedType, Null, Boolean, BooleanTrue, BooleanFalse, Ubyte, Ushort, Uint, SmallUint, Uint0, Ulong, SmallUlong, Ulong0, Byte, Short, Int, SmallInt, Long, SmallLong, Float, Double, Decimal32, Decimal64, Decimal128, Char, Timestamp, Uuid, Vbin8, Vbin32, Str8, Str32, Sym8, Sym32, List0, List8, List32, Map8, Map32, Array8, Array32}
use Rattle.amqp_base.specs.Codes.{Kind, row}
use Rattle.amqp_base.specs.Canon.{kind_of}
use Rattle.amqp_base.specs.Describing.{is_described_of, means_described}
use Rattle.amqp_base.specs.Item.{Descriptor, Scalar, null, Item, scalar, list, map, array, described}
use Rattle.amqp_base.specs.Meaning.{Meaning}
use Rattle.amqp_base.specs.Parse.{code_at}
use Rattle.amqp_base.specs.Refusals.{IsMessage}
use Rattle.amqp_base.specs.Refusing.{Refusing, one_or_other, is_other_width, scalar_refusal, decimal_refusal}
use Rattle.amqp_base.specs.SameKind.{same_kind, is_decimal_kind}
use Rattle.amqp_base.specs.Typing.{is_of}
use Rattle.amqp_base.specs.Wire.{Constructor}
use Rattle.amqp_base.proofs.KindPlaces.{kind_same}
use Rattle.amqp_data.specs.Excuses.{Excused}
use Rattle.amqp_data.proofs.Readings.{stayed, excused_more}
use Rattle.amqp_data.proofs.Received.{keeps_known, may_known}
use Rattle.amqp_de.specs.Decoding.{Decoding, stands_under}
use Rattle.amqp_de.specs.Describes.{Describes}
use Rattle.amqp_de.specs.Ignored.{ReadsKind, has_inside, is_scalar, around, nested, anything, any_scalar_refusal, inside_refusal, too_deep, AnyRefused, no_code, no_scalar, no_inside, ignored_refusal, IsInside, taken_with, refused_with}
use Rattle.amqp_de.specs.Law.{Found, Missed, Named}
use Rattle.amqp_de.specs.Look.{item_kind, Looks, LooksNot}
use Rattle.amqp_de.specs.declared.ignored.Inside.{Inside}
use Rattle.amqp_de.proofs.DescribedRead.{described_found}
use Rattle.amqp_de.proofs.LookedFirst.{found_behind, missed_of_kind, missed_unseen, none_spent}
use Rattle.amqp_de.proofs.OneElement.{named_looked}
use Rattle.amqp_de.proofs.Weaker.{found_of, found_as}

-- ---- a value without parts, by its type

pub kind_named : (k : Kind) (refuses : Refusing) (grows buffers : Bool) (old new : Decoding) (e : Error) → ((c : Constructor) (s : List ℕ) (x : Error) → refuses c s x → any_scalar_refusal k c s x) → Named refuses grows buffers old new e → Named (any_scalar_refusal k) true buffers old new e
kind_named k refuses grows buffers old new e g n = record { why = λ a s at h. tell s (n.why a s at h) }
  where
    tell : (s : List ℕ) → refuses (stands_under old) s e ⊎ Excused grows buffers old.reading new.reading e → any_scalar_refusal k (stands_under old) s e ⊎ Excused true buffers old.reading new.reading e
    tell s (inl p) = inl (g (stands_under old) s e p)
    tell s (inr y) = inr (excused_more old.reading new.reading e (λ _. refl) y)

-- a type reads a kind without parts
pub as_kind : {T : Type 0} (m : Meaning T) (k j : Kind) → m.takes ≡ is_of j → ((c : Constructor) (s : List ℕ) (e : Error) → m.refuses c s e → any_scalar_refusal j c s e) → j ≡ k → ReadsKind m k
as_kind m k j t r h = record { takes = t ∙ ap is_of h; refuses = λ c s e p. subst (λ (q : Kind). any_scalar_refusal q c s e) h (r c s e p) }

pub one_of_two : (x a b : EncodingCodes) (k : Kind) → (x ≡ a) ⊎ (x ≡ b) → k ≡ (row a).kind → k ≡ (row b).kind → k ≡ (row x).kind
one_of_two x a b k (inl h) p q = rw h p
one_of_two x a b k (inr h) p q = rw h q

pub one_of_three : (x a b c : EncodingCodes) (k : Kind) → (x ≡ a) ⊎ ((x ≡ b) ⊎ (x ≡ c)) → k ≡ (row a).kind → k ≡ (row b).kind → k ≡ (row c).kind → k ≡ (row x).kind
one_of_three x a b c k (inl h) p q r = rw h p
one_of_three x a b c k (inr h) p q r = one_of_two x b c k h q r

-- ---- what the code says

scalar_alone : (v : Scalar) → has_inside (kind_of v) ≡ false
scalar_alone null = refl
scalar_alone _ = refl

is_inside : (k : Kind) (inside : Inside) → IsInside k (Some inside) → has_inside k ≡ true
is_inside k Inside.Value p = ap has_inside p
is_inside k Inside.Elements (inl p) = ap has_inside p
is_inside k Inside.Elements (inr p) = ap has_inside p
is_inside k Inside.Entries p = ap has_inside p

pub code_alone : (x : EncodingCodes) → (x ≡ DescribedType → ⊥) → (x ≡ List0 → ⊥) → (x ≡ List8 → ⊥) → (x ≡ List32 → ⊥) → (x ≡ Array8 → ⊥) → (x ≡ Array32 → ⊥) → (x ≡ Map8 → ⊥) → (x ≡ Map32 → ⊥) → has_inside (row x).kind ≡ false
unfolding row
code_alone DescribedType d l m n a b p q = absurd (d refl)
code_alone List0 d l m n a b p q = absurd (l refl)
code_alone List8 d l m n a b p q = absurd (m refl)
code_alone List32 d l m n a b p q = absurd (n refl)
code_alone Array8 d l m n a b p q = absurd (a refl)
code_alone Array32 d l m n a b p q = absurd (b refl)
code_alone Map8 d l m n a b p q = absurd (p refl)
code_alone Map32 d l m n a b p q = absurd (q refl)
code_alone _ d l m n a b p q = refl

-- there is no other code of a value without parts
pub no_other : (x : EncodingCodes) → has_inside (row x).kind ≡ false → (x ≡ Null → ⊥) → (x ≡ Boolean → ⊥) → (x ≡ BooleanTrue → ⊥) → (x ≡ BooleanFalse → ⊥) → (x ≡ Ubyte → ⊥) → (x ≡ Ushort → ⊥) → (x ≡ Uint → ⊥) → (x ≡ SmallUint → ⊥) → (x ≡ Uint0 → ⊥) → (x ≡ Ulong → ⊥) → (x ≡ SmallUlong → ⊥) → (x ≡ Ulong0 → ⊥) → (x ≡ Byte → ⊥) → (x ≡ Short → ⊥) → (x ≡ Int → ⊥) → (x ≡ SmallInt → ⊥) → (x ≡ Long → ⊥) → (x ≡ SmallLong → ⊥) → (x ≡ Float → ⊥) → (x ≡ Double → ⊥) → (x ≡ Decimal32 → ⊥) → (x ≡ Decimal64 → ⊥) → (x ≡ Decimal128 → ⊥) → (x ≡ Char → ⊥) → (x ≡ Timestamp → ⊥) → (x ≡ Uuid → ⊥) → (x ≡ Vbin8 → ⊥) → (x ≡ Vbin32 → ⊥) → (x ≡ Str8 → ⊥) → (x ≡ Str32 → ⊥) → (x ≡ Sym8 → ⊥) → (x ≡ Sym32 → ⊥) → ⊥
unfolding row
no_other Null h n0 n1 n2 n3 n4 n5 n6 n7 n8 n9 n10 n11 n12 n13 n14 n15 n16 n17 n18 n19 n20 n21 n22 n23 n24 n25 n26 n27 n28 n29 n30 n31 = n0 refl
no_other Boolean h n0 n1 n2 n3 n4 n5 n6 n7 n8 n9 n10 n11 n12 n13 n14 n15 n16 n17 n18 n19 n20 n21 n22 n23 n24 n25 n26 n27 n28 n29 n30 n31 = n1 refl
no_other BooleanTrue h n0 n1 n2 n3 n4 n5 n6 n7 n8 n9 n10 n11 n12 n13 n14 n15 n16 n17 n18 n19 n20 n21 n22 n23 n24 n25 n26 n27 n28 n29 n30 n31 = n2 refl
no_other BooleanFalse h n0 n1 n2 n3 n4 n5 n6 n7 n8 n9 n10 n11 n12 n13 n14 n15 n16 n17 n18 n19 n20 n21 n22 n23 n24 n25 n26 n27 n28 n29 n30 n31 = n3 refl
no_other Ubyte h n0 n1 n2 n3 n4 n5 n6 n7 n8 n9 n10 n11 n12 n13 n14 n15 n16 n17 n18 n19 n20 n21 n22 n23 n24 n25 n26 n27 n28 n29 n30 n31 = n4 refl
no_other Ushort h n0 n1 n2 n3 n4 n5 n6 n7 n8 n9 n10 n11 n12 n13 n14 n15 n16 n17 n18 n19 n20 n21 n22 n23 n24 n25 n26 n27 n28 n29 n30 n31 = n5 refl
no_other Uint h n0 n1 n2 n3 n4 n5 n6 n7 n8 n9 n10 n11 n12 n13 n14 n15 n16 n17 n18 n19 n20 n21 n22 n23 n24 n25 n26 n27 n28 n29 n30 n31 = n6 refl
no_other SmallUint h n0 n1 n2 n3 n4 n5 n6 n7 n8 n9 n10 n11 n12 n13 n14 n15 n16 n17 n18 n19 n20 n21 n22 n23 n24 n25 n26 n27 n28 n29 n30 n31 = n7 refl
no_other Uint0 h n0 n1 n2 n3 n4 n5 n6 n7 n8 n9 n10 n11 n12 n13 n14 n15 n16 n17 n18 n19 n20 n21 n22 n23 n24 n25 n26 n27 n28 n29 n30 n31 = n8 refl
no_other Ulong h n0 n1 n2 n3 n4 n5 n6 n7 n8 n9 n10 n11 n12 n13 n14 n15 n16 n17 n18 n19 n20 n21 n22 n23 n24 n25 n26 n27 n28 n29 n30 n31 = n9 refl
no_other SmallUlong h n0 n1 n2 n3 n4 n5 n6 n7 n8 n9 n10 n11 n12 n13 n14 n15 n16 n17 n18 n19 n20 n21 n22 n23 n24 n25 n26 n27 n28 n29 n30 n31 = n10 refl
no_other Ulong0 h n0 n1 n2 n3 n4 n5 n6 n7 n8 n9 n10 n11 n12 n13 n14 n15 n16 n17 n18 n19 n20 n21 n22 n23 n24 n25 n26 n27 n28 n29 n30 n31 = n11 refl
no_other Byte h n0 n1 n2 n3 n4 n5 n6 n7 n8 n9 n10 n11 n12 n13 n14 n15 n16 n17 n18 n19 n20 n21 n22 n23 n24 n25 n26 n27 n28 n29 n30 n31 = n12 refl
no_other Short h n0 n1 n2 n3 n4 n5 n6 n7 n8 n9 n10 n11 n12 n13 n14 n15 n16 n17 n18 n19 n20 n21 n22 n23 n24 n25 n26 n27 n28 n29 n30 n31 = n13 refl
no_other Int h n0 n1 n2 n3 n4 n5 n6 n7 n8 n9 n10 n11 n12 n13 n14 n15 n16 n17 n18 n19 n20 n21 n22 n23 n24 n25 n26 n27 n28 n29 n30 n31 = n14 refl
no_other SmallInt h n0 n1 n2 n3 n4 n5 n6 n7 n8 n9 n10 n11 n12 n13 n14 n15 n16 n17 n18 n19 n20 n21 n22 n23 n24 n25 n26 n27 n28 n29 n30 n31 = n15 refl
no_other Long h n0 n1 n2 n3 n4 n5 n6 n7 n8 n9 n10 n11 n12 n13 n14 n15 n16 n17 n18 n19 n20 n21 n22 n23 n24 n25 n26 n27 n28 n29 n30 n31 = n16 refl
no_other SmallLong h n0 n1 n2 n3 n4 n5 n6 n7 n8 n9 n10 n11 n12 n13 n14 n15 n16 n17 n18 n19 n20 n21 n22 n23 n24 n25 n26 n27 n28 n29 n30 n31 = n17 refl
no_other Float h n0 n1 n2 n3 n4 n5 n6 n7 n8 n9 n10 n11 n12 n13 n14 n15 n16 n17 n18 n19 n20 n21 n22 n23 n24 n25 n26 n27 n28 n29 n30 n31 = n18 refl
no_other Double h n0 n1 n2 n3 n4 n5 n6 n7 n8 n9 n10 n11 n12 n13 n14 n15 n16 n17 n18 n19 n20 n21 n22 n23 n24 n25 n26 n27 n28 n29 n30 n31 = n19 refl
no_other Decimal32 h n0 n1 n2 n3 n4 n5 n6 n7 n8 n9 n10 n11 n12 n13 n14 n15 n16 n17 n18 n19 n20 n21 n22 n23 n24 n25 n26 n27 n28 n29 n30 n31 = n20 refl
no_other Decimal64 h n0 n1 n2 n3 n4 n5 n6 n7 n8 n9 n10 n11 n12 n13 n14 n15 n16 n17 n18 n19 n20 n21 n22 n23 n24 n25 n26 n27 n28 n29 n30 n31 = n21 refl
no_other Decimal128 h n0 n1 n2 n3 n4 n5 n6 n7 n8 n9 n10 n11 n12 n13 n14 n15 n16 n17 n18 n19 n20 n21 n22 n23 n24 n25 n26 n27 n28 n29 n30 n31 = n22 refl
no_other Char h n0 n1 n2 n3 n4 n5 n6 n7 n8 n9 n10 n11 n12 n13 n14 n15 n16 n17 n18 n19 n20 n21 n22 n23 n24 n25 n26 n27 n28 n29 n30 n31 = n23 refl
no_other Timestamp h n0 n1 n2 n3 n4 n5 n6 n7 n8 n9 n10 n11 n12 n13 n14 n15 n16 n17 n18 n19 n20 n21 n22 n23 n24 n25 n26 n27 n28 n29 n30 n31 = n24 refl
no_other Uuid h n0 n1 n2 n3 n4 n5 n6 n7 n8 n9 n10 n11 n12 n13 n14 n15 n16 n17 n18 n19 n20 n21 n22 n23 n24 n25 n26 n27 n28 n29 n30 n31 = n25 refl
no_other Vbin8 h n0 n1 n2 n3 n4 n5 n6 n7 n8 n9 n10 n11 n12 n13 n14 n15 n16 n17 n18 n19 n20 n21 n22 n23 n24 n25 n26 n27 n28 n29 n30 n31 = n26 refl
no_other Vbin32 h n0 n1 n2 n3 n4 n5 n6 n7 n8 n9 n10 n11 n12 n13 n14 n15 n16 n17 n18 n19 n20 n21 n22 n23 n24 n25 n26 n27 n28 n29 n30 n31 = n27 refl
no_other Str8 h n0 n1 n2 n3 n4 n5 n6 n7 n8 n9 n10 n11 n12 n13 n14 n15 n16 n17 n18 n19 n20 n21 n22 n23 n24 n25 n26 n27 n28 n29 n30 n31 = n28 refl
no_other Str32 h n0 n1 n2 n3 n4 n5 n6 n7 n8 n9 n10 n11 n12 n13 n14 n15 n16 n17 n18 n19 n20 n21 n22 n23 n24 n25 n26 n27 n28 n29 n30 n31 = n29 refl
no_other Sym8 h n0 n1 n2 n3 n4 n5 n6 n7 n8 n9 n10 n11 n12 n13 n14 n15 n16 n17 n18 n19 n20 n21 n22 n23 n24 n25 n26 n27 n28 n29 n30 n31 = n30 refl
no_other Sym32 h n0 n1 n2 n3 n4 n5 n6 n7 n8 n9 n10 n11 n12 n13 n14 n15 n16 n17 n18 n19 n20 n21 n22 n23 n24 n25 n26 n27 n28 n29 n30 n31 = n31 refl
no_other _ h n0 n1 n2 n3 n4 n5 n6 n7 n8 n9 n10 n11 n12 n13 n14 n15 n16 n17 n18 n19 n20 n21 n22 n23 n24 n25 n26 n27 n28 n29 n30 n31 = absurd cc

-- a value without parts
of_scalar : (n : ℕ) (k : Kind) (i : Item) → IsTrue (is_of k i) → IsTrue (nested n i)
unfolding nested
of_scalar zero k (scalar v) t = refl
of_scalar (suc n) k (scalar v) t = refl
of_scalar n k (list is) t = absurd cc
of_scalar n k (map ps) t = absurd cc
of_scalar n k (array is) t = absurd cc
of_scalar n k (described d v) t = absurd cc

kind_apart : (k j : Kind) → has_inside k ≡ false → k ≡ j → has_inside j ≡ true → ⊥
kind_apart k j p h q = let z : false ≡ true = sym p ∙ ap has_inside h ∙ q in absurd cc

kind_alone : (k : Kind) (i : Item) → has_inside k ≡ false → k ≡ item_kind i → IsTrue (is_of k i)
kind_alone k (scalar v) p h = kind_same (kind_of v) k (sym h)
kind_alone k (list is) p h = absurd (kind_apart k Kind.list p h refl)
kind_alone k (map ps) p h = absurd (kind_apart k Kind.map p h refl)
kind_alone k (array is) p h = absurd (kind_apart k Kind.array p h refl)
kind_alone k (described d v) p h = absurd (kind_apart k Kind.described p h refl)

-- an item with others inside
with_inside : (inside : Inside) (takes : Item → Bool) (i : Item) → IsTrue (taken_with inside takes i) → IsTrue (around takes i)
with_inside Inside.Value takes (described d v) t = t
with_inside Inside.Value takes (scalar v) t = absurd cc
with_inside Inside.Value takes (list is) t = absurd cc
with_inside Inside.Value takes (map ps) t = absurd cc
with_inside Inside.Value takes (array is) t = absurd cc
with_inside Inside.Elements takes (list is) t = t
with_inside Inside.Elements takes (array is) t = t
with_inside Inside.Elements takes (scalar v) t = absurd cc
with_inside Inside.Elements takes (map ps) t = absurd cc
with_inside Inside.Elements takes (described d v) t = absurd cc
with_inside Inside.Entries takes (map ps) t = t
with_inside Inside.Entries takes (scalar v) t = absurd cc
with_inside Inside.Entries takes (list is) t = absurd cc
with_inside Inside.Entries takes (array is) t = absurd cc
with_inside Inside.Entries takes (described d v) t = absurd cc

by_kind : (inside : Inside) (k : Kind) (takes : Item → Bool) (i : Item) → IsInside k (Some inside) → k ≡ item_kind i → IsTrue (around takes i) → IsTrue (taken_with inside takes i)
by_kind inside k takes (scalar v) p h t = let z : false ≡ true = sym (scalar_alone v) ∙ sym (ap has_inside h) ∙ is_inside k inside p in absurd cc
by_kind Inside.Value k takes (described d v) p h t = t
by_kind Inside.Value k takes (list is) p h t = let z : Kind.described ≡ Kind.list = sym p ∙ h in absurd cc
by_kind Inside.Value k takes (map ps) p h t = let z : Kind.described ≡ Kind.map = sym p ∙ h in absurd cc
by_kind Inside.Value k takes (array is) p h t = let z : Kind.described ≡ Kind.array = sym p ∙ h in absurd cc
by_kind Inside.Elements k takes (list is) p h t = t
by_kind Inside.Elements k takes (array is) p h t = t
by_kind Inside.Elements k takes (map ps) (inl p) h t = let z : Kind.list ≡ Kind.map = sym p ∙ h in absurd cc
by_kind Inside.Elements k takes (map ps) (inr p) h t = let z : Kind.array ≡ Kind.map = sym p ∙ h in absurd cc
by_kind Inside.Elements k takes (described d v) (inl p) h t = let z : Kind.list ≡ Kind.described = sym p ∙ h in absurd cc
by_kind Inside.Elements k takes (described d v) (inr p) h t = let z : Kind.array ≡ Kind.described = sym p ∙ h in absurd cc
by_kind Inside.Entries k takes (map ps) p h t = t
by_kind Inside.Entries k takes (list is) p h t = let z : Kind.map ≡ Kind.list = sym p ∙ h in absurd cc
by_kind Inside.Entries k takes (array is) p h t = let z : Kind.map ≡ Kind.array = sym p ∙ h in absurd cc
by_kind Inside.Entries k takes (described d v) p h t = let z : Kind.map ≡ Kind.described = sym p ∙ h in absurd cc

refused_by_kind : (inside : Inside) (k : Kind) (takes : Item → Bool) (refuses : Refusing) (c : Constructor) (s : List ℕ) (e : Error) → IsInside k (Some inside) → refused_with inside takes refuses c s e → inside_refusal takes refuses k c s e
refused_by_kind Inside.Value k takes refuses c s e p r = subst (λ (j : Kind). inside_refusal takes refuses j c s e) (sym p) r
refused_by_kind Inside.Elements k takes refuses c s e (inl p) r = subst (λ (j : Kind). inside_refusal takes refuses j c s e) (sym p) r
refused_by_kind Inside.Elements k takes refuses c s e (inr p) r = subst (λ (j : Kind). inside_refusal takes refuses j c s e) (sym p) r
refused_by_kind Inside.Entries k takes refuses c s e p r = subst (λ (j : Kind). inside_refusal takes refuses j c s e) (sym p) r

-- ---- refusals of any item

as_any : (n : ℕ) (c : Constructor) (s : List ℕ) (e : Error) → ((inside : Kind → Refusing) → AnyRefused inside c s e) → ignored_refusal n c s e
unfolding ignored_refusal
as_any zero c s e f = f too_deep
as_any (suc n) c s e f = f (inside_refusal (nested n) (ignored_refusal n))

and_not_true : (a b : Bool) → b ≡ true → (a && not b) ≡ false
and_not_true true b h = rw h refl
and_not_true false b h = refl

-- under its own code a decimal isn't refused by another width
own_refusal : (c : Constructor) (s rest : List ℕ) (e : Error) (x : EncodingCodes) → code_at c s ≡ Ok (x, rest) → any_scalar_refusal (row x).kind c s e → scalar_refusal (row x).kind c s e
unfolding decimal_refusal
own_refusal c s rest e x q (inl p) = p
own_refusal c s rest e x q (inr p) =
    let k = (row x).kind in
    let other : is_other_width k (code_at c s) ≡ false = rw q (and_not_true (is_decimal_kind k) (same_kind k k) (kind_same k k refl)) in
    subst (λ (b : Bool). one_or_other b (IsMessage e) (scalar_refusal k c s e)) other p

module _ (n : ℕ) (buffers : Bool) (old mid new : Decoding) (x : EncodingCodes) (l : Looks old mid x) where
  -- a value without parts
  pub scalar_found : Found (is_of (row x).kind) anything mid new → Found (nested n) anything old new
  scalar_found f = found_behind (nested n) anything old mid new x l (found_of (is_of (row x).kind) (nested n) anything anything mid new (λ o. (of_scalar n (row x).kind o.item o.taken, tt)) f)

  pub scalar_missed : (e : Error) → has_inside (row x).kind ≡ false → Missed (is_of (row x).kind) true buffers mid new e → Missed (nested n) true buffers old new e
  scalar_missed e p m = missed_of_kind (is_of (row x).kind) (nested n) true true buffers old mid new x e (λ h. h) (λ i k q. kind_alone (row x).kind i p k) l m

  pub scalar_named : (e : Error) → has_inside (row x).kind ≡ false → Named (any_scalar_refusal (row x).kind) true buffers mid new e → Named (ignored_refusal n) true buffers old new e
  scalar_named e p m = named_looked old mid new x e l (λ s rest q r. as_any n (stands_under old) s e (λ inside. no_scalar x rest q p (own_refusal (stands_under old) s rest e x q r))) m

  -- an item with others inside
  module _ (m : ℕ) (deeper : m ≡ suc n) (inside : Inside) where
    pub inside_found : Found (taken_with inside (nested n)) anything mid new → Found (nested m) anything old new
    unfolding nested
    inside_found f = rw deeper (found_behind (nested (suc n)) anything old mid new x l (found_of (taken_with inside (nested n)) (nested (suc n)) anything anything mid new (λ o. (with_inside inside (nested n) o.item o.taken, tt)) f))

    pub inside_missed : (e : Error) → IsInside (row x).kind (Some inside) → Missed (taken_with inside (nested n)) true buffers mid new e → Missed (nested m) true buffers old new e
    unfolding nested
    inside_missed e p r = rw deeper (missed_of_kind (taken_with inside (nested n)) (nested (suc n)) true true buffers old mid new x e (λ h. h) (λ i k q. by_kind inside (row x).kind (nested n) i p k q) l r)

    pub inside_named : (e : Error) → IsInside (row x).kind (Some inside) → Named (refused_with inside (nested n) (ignored_refusal n)) true buffers mid new e → Named (ignored_refusal m) true buffers old new e
    unfolding ignored_refusal
    inside_named e p r = rw deeper (named_looked old mid new x e l (λ s rest q z. no_inside x rest q (is_inside (row x).kind inside p) (refused_by_kind inside (row x).kind (nested n) (ignored_refusal n) (stands_under old) s e p z)) r)

-- ---- nested too deep

scalar_kind : (i : Item) → IsTrue (is_scalar i) → has_inside (item_kind i) ≡ false
scalar_kind (scalar v) t = scalar_alone v
scalar_kind (list is) t = absurd cc
scalar_kind (map ps) t = absurd cc
scalar_kind (array is) t = absurd cc
scalar_kind (described d v) t = absurd cc

module _ (n : ℕ) (none : n ≡ 0) (buffers : Bool) (old new : Decoding) (x : EncodingCodes) (l : Looks old new x) (inside : Inside) (p : IsInside (row x).kind (Some inside)) where
  pub deep_missed : Missed (nested n) true buffers old new InvalidValue
  unfolding nested
  deep_missed = rw none record {
    why = λ a i t rest w q at h.
        let k = l.kind i t w (may_known new.reading t rest (keeps_known old.reading.to_come new.reading.to_come (t ++ rest) l.looked.stays.to_come at)) in
        absurd (kind_apart (item_kind i) (row x).kind (scalar_kind i q) (sym k) (is_inside (row x).kind inside p));
    spent = λ a. none_spent old new l.begun l.looked.stays;
    steady = (stayed l.looked.stays);
    device = λ d. absurd d;
    memory = λ m. absurd cc;
  }

  pub deep_named : Named (ignored_refusal n) true buffers old new InvalidValue
  unfolding ignored_refusal
  deep_named = rw none record { why = λ a s at h. let k = l.exact s at in inl (no_inside x k.0 k.1 (is_inside (row x).kind inside p) refl) }

-- ---- no code stands there

pub any_unseen : (n : ℕ) (buffers : Bool) (old new : Decoding) (e : Error) → LooksNot buffers old new e → Missed (nested n) true buffers old new e
any_unseen n buffers old new e l = missed_unseen (nested n) true buffers old new e (λ _. refl) l

pub any_unseen_named : (n : ℕ) (buffers : Bool) (old new : Decoding) (e : Error) → LooksNot buffers old new e → Named (ignored_refusal n) true buffers old new e
any_unseen_named n buffers old new e l = record { why = λ a s at h. tell s ((l.rejects a).why s at h) }
  where
    tell : (s : List ℕ) → (code_at (stands_under old) s ≡ Err e) ⊎ Excused buffers buffers old.reading new.reading e → ignored_refusal n (stands_under old) s e ⊎ Excused true buffers old.reading new.reading e
    tell s (inl p) = inl (as_any n (stands_under old) s e (λ inside. no_code p))
    tell s (inr y) = inr (excused_more old.reading new.reading e (λ _. refl) y)

-- ---- a value behind a descriptor

pub value_found : (n : ℕ) (d : Descriptor) (old mid new : Decoding) → Describes d old mid → Found (nested n) anything mid new → Found (is_described_of (nested n)) anything old new
value_found n d old mid new x f = found_as (is_described_of (nested n)) (is_described_of (nested n)) (means_described anything d) anything old new (λ i t h. (t, tt)) (described_found (nested n) anything d old mid new x f)
