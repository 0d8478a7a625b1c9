-- An enum whose variants stand behind descriptors of their own, by which they are told (1.1.2, 1.2).
use Rattle.std.specs.Prelude.{if◌then◌else◌, ◌≡◌, Bool, true, false, ◌&&◌, IsTrue, Option, Some, None}
use Rattle.std.proofs.Common.{refl}
use Rattle.amqp_base.specs.declared.error.Error.{Error}
use Rattle.amqp_base.specs.declared.one_of.OneOf.{OneOf}
use Rattle.amqp_base.specs.declared.one_of.OneOf.TheVariants.{This, Other}
use Rattle.amqp_base.specs.declared.one_of.NoVariant.{NoVariant}
use Rattle.amqp_base.specs.declared.shape.Setting.TheVariants.{Plain}
use Rattle.amqp_base.specs.Describing.{Descriptors, by_descriptor_refusal}
use Rattle.amqp_base.specs.Enums.{of_one, same_one, takes_one, means_one, one_in, sound_one}
use Rattle.amqp_base.specs.Item.{Descriptor, Item, scalar, list, map, array, described}
use Rattle.amqp_base.specs.Meaning.{Meaning, first_of, second_of}
use Rattle.amqp_base.specs.Refusals.{IsMessage}
use Rattle.amqp_base.specs.Refusing.{Refusing, one_or_other}
use Rattle.amqp_base.specs.Typing.{OneValue, is_null}
use Rattle.amqp_de.specs.Decoding.{Decoding}
use Rattle.amqp_de.specs.Law.{Found, Missed, Named}

-- ---- what is read

-- Of the variants: which items behind a descriptor are read, and as which of them, with what it holds.
pub record VariantsBehind (S : Type 0) : Type 1 where
  pub takes : Descriptor → Item → Bool
  pub means : Descriptor → Item → S → Type 0
  -- how an item behind a descriptor is refused
  pub refuses : Descriptor → Refusing

-- there is none: an item behind any descriptor is a message
abbrev pub none_behind : VariantsBehind NoVariant
none_behind = record { takes = λ d i. false; means = λ d i s. ⊥; refuses = λ d c s e. IsMessage e }

-- one behind these descriptors, and the others
abbrev pub first_behind : {T S : Type 0} → (Descriptor → Bool) → Meaning T → VariantsBehind S → VariantsBehind (OneOf T S)
first_behind among m others = record {
  takes = λ d i. takes_one (among d) (m.takes i) (others.takes d i);
  means = λ d i. means_one (among d) (m.means i) (others.means d i);
  refuses = λ d c s x. one_or_other (among d) (m.refuses c s x) (others.refuses d c s x);
}

-- an item that is taken behind its own descriptor
abbrev pub takes_by_descriptor : (Descriptor → Item → Bool) → Item → Bool
takes_by_descriptor takes (described d v) = takes d (described d v)
takes_by_descriptor takes (scalar v) = false
takes_by_descriptor takes (list is) = false
takes_by_descriptor takes (map ps) = false
takes_by_descriptor takes (array is) = false

-- what it means
abbrev pub means_by_descriptor : (Descriptor → Item → Type 0) → Item → Type 0
means_by_descriptor means (described d v) = means d (described d v)
means_by_descriptor means (scalar v) = ⊥
means_by_descriptor means (list is) = ⊥
means_by_descriptor means (map ps) = ⊥
means_by_descriptor means (array is) = ⊥

module _ {S : Type 0} (row : VariantsBehind S) where
  -- the item at the front, behind this descriptor, was read as one of the variants; it was refused, and by name
  abbrev pub BehindRead : Descriptor → S → Decoding → Decoding → Type 0
  BehindRead d s old new = Found (row.takes d) (λ i. row.means d i s) old new

  abbrev pub BehindRefused : Descriptor → Bool → Decoding → Decoding → Error → Type 0
  BehindRefused d buffers old new e = Missed (row.takes d) true buffers old new e

  abbrev pub BehindNamed : Descriptor → Bool → Decoding → Decoding → Error → Type 0
  BehindNamed d buffers old new e = Named (row.refuses d) true buffers old new e

  -- the same of the item at the front by its own descriptor
  abbrev pub DescribedRead : S → Decoding → Decoding → Type 0
  DescribedRead s old new = Found (takes_by_descriptor row.takes) (means_by_descriptor (λ d i. row.means d i s)) old new

  abbrev pub DescribedRefused : Bool → Decoding → Decoding → Error → Type 0
  DescribedRefused buffers old new e = Missed (takes_by_descriptor row.takes) true buffers old new e

  abbrev pub DescribedNamed : Bool → Decoding → Decoding → Error → Type 0
  DescribedNamed buffers old new e = Named (by_descriptor_refusal row.refuses) true buffers old new e

-- ---- what is written

-- the descriptor of an item, where it is described
abbrev pub descriptor_in : Item → Option Descriptor
descriptor_in (described d v) = Some d
descriptor_in (scalar v) = None
descriptor_in (list is) = None
descriptor_in (map ps) = None
descriptor_in (array is) = None

-- The variants, one after the other. A value of S is one of them, with what it holds.
pub record DescribedVariants (S : Type 0) : Type 1 where
  pub read : VariantsBehind S
  -- the item of a value, and the descriptor in front of it
  pub item : S → Item
  pub at : S → Descriptor
  pub stands : (s : S) → descriptor_in (item s) ≡ Some (at s)
  -- whether none of them is written behind one of these descriptors
  pub outside : (Descriptor → Bool) → Bool
  pub apart : (among : Descriptor → Bool) → IsTrue (outside among) → (s : S) → among (at s) ≡ false
  pub same : S → S → Type 0
  pub one_value : (d : Descriptor) → OneValue (read.means d) same
  pub sound : S → Type 0
  pub always_sound : Bool
  pub is_sound : IsTrue always_sound → (s : S) → sound s
  pub reads_back : Bool
  pub taken_back : IsTrue reads_back → (s : S) → sound s → IsTrue (read.takes (at s) (item s))
  pub read_back : IsTrue reads_back → (s : S) → sound s → read.means (at s) (item s) s

abbrev pub no_variant : DescribedVariants NoVariant
no_variant = record {
  read = none_behind;
  item = λ s. elim s [ ];
  at = λ s. elim s [ ];
  stands = λ s. elim s [ ];
  outside = λ among. true;
  apart = λ among h s. elim s [ ];
  same = λ s t. Unit {0};
  one_value = λ d i s t p q. tt;
  sound = λ s. Unit {0};
  always_sound = true;
  is_sound = λ a s. tt;
  reads_back = true;
  taken_back = λ r s. elim s [ ];
  read_back = λ r s. elim s [ ];
}

-- ---- one more before the others

abbrev pub one_or_rest : {A T S : Type 0} → (T → A) → (S → A) → OneOf T S → A
one_or_rest first rest (This v) = first v
one_or_rest first rest (Other s) = rest s

abbrev pub is_outside : (Descriptor → Bool) → Descriptor → Bool
is_outside among d = if among d then false else true

outside_not : (b : Bool) → IsTrue (if b then false else true) → b ≡ false
outside_not true h = absurd cc
outside_not false h = refl

module _ {T S : Type 0} (ds : Descriptors) (m : Meaning T) (own : (v : T) → descriptor_in (m.item v Plain) ≡ Some ds.written) (others : DescribedVariants S) where
  pub first_stands : (s : OneOf T S) → descriptor_in (one_or_rest (λ v. m.item v Plain) others.item s) ≡ Some (one_or_rest (λ _. ds.written) others.at s)
  first_stands (This v) = own v
  first_stands (Other s) = others.stands s

  pub first_apart : (among : Descriptor → Bool) → IsTrue (is_outside among ds.written && others.outside among) → (s : OneOf T S) → among (one_or_rest (λ _. ds.written) others.at s) ≡ false
  first_apart among h (This v) = outside_not (among ds.written) (first_of (is_outside among ds.written) (others.outside among) h)
  first_apart among h (Other s) = others.apart among (second_of (is_outside among ds.written) (others.outside among) h) s

  abbrev pub both_back : Bool
  both_back = m.reads_back && (others.outside ds.among && others.reads_back)

  rest_apart : IsTrue both_back → (s : S) → ds.among (others.at s) ≡ false
  rest_apart r s = others.apart ds.among (first_of (others.outside ds.among) others.reads_back (second_of m.reads_back (others.outside ds.among && others.reads_back) r)) s

  rest_back : IsTrue both_back → IsTrue others.reads_back
  rest_back r = second_of (others.outside ds.among) others.reads_back (second_of m.reads_back (others.outside ds.among && others.reads_back) r)

  pub first_taken : IsTrue both_back → (s : OneOf T S) → of_one m.sound others.sound s → IsTrue ((first_behind ds.among m others.read).takes (one_or_rest (λ _. ds.written) others.at s) (one_or_rest (λ v. m.item v Plain) others.item s))
  first_taken r (This v) h = rw ds.own (m.taken_back (first_of m.reads_back (others.outside ds.among && others.reads_back) r) v h)
  first_taken r (Other s) h = rw (rest_apart r s) (others.taken_back (rest_back r) s h)

  pub first_read : IsTrue both_back → (s : OneOf T S) → of_one m.sound others.sound s → (first_behind ds.among m others.read).means (one_or_rest (λ _. ds.written) others.at s) (one_or_rest (λ v. m.item v Plain) others.item s) s
  first_read r (This v) h = (ds.own, m.read_back (first_of m.reads_back (others.outside ds.among && others.reads_back) r) v h)
  first_read r (Other s) h = (rest_apart r s, others.read_back (rest_back r) s h)

-- a variant that holds a value of this meaning, behind its descriptor
abbrev pub behind : {T S : Type 0} (ds : Descriptors) (m : Meaning T) → ((v : T) → descriptor_in (m.item v Plain) ≡ Some ds.written) → DescribedVariants S → DescribedVariants (OneOf T S)
behind ds m own others = record {
  read = first_behind ds.among m others.read;
  item = one_or_rest (λ v. m.item v Plain) others.item;
  at = one_or_rest (λ _. ds.written) others.at;
  stands = first_stands ds m own others;
  outside = λ among. is_outside among ds.written && others.outside among;
  apart = first_apart ds m own others;
  same = same_one m.same others.same;
  one_value = λ d i. one_in (ds.among d) (m.means i) (others.read.means d i) m.same others.same (m.one_value i) (others.one_value d i);
  sound = of_one m.sound others.sound;
  always_sound = m.always_sound && others.always_sound;
  is_sound = λ a. sound_one m.sound others.sound (m.is_sound (first_of m.always_sound others.always_sound a)) (others.is_sound (second_of m.always_sound others.always_sound a));
  reads_back = both_back ds m own others;
  taken_back = first_taken ds m own others;
  read_back = first_read ds m own others;
}

-- one variant, or those behind it
infixr 5 ◌or◌
abbrev pub ◌or◌ : {S T : Type 0} → (DescribedVariants S → DescribedVariants T) → DescribedVariants S → DescribedVariants T
first or rest = first rest

-- ---- the whole

own_taken : (takes : Descriptor → Item → Bool) (i : Item) (d : Descriptor) → descriptor_in i ≡ Some d → IsTrue (takes d i) → IsTrue (takes_by_descriptor takes i)
own_taken takes (described e v) d h t = let q : e ≡ d = cc in rw q (rw q at t)
own_taken takes (scalar v) d h t = absurd cc
own_taken takes (list is) d h t = absurd cc
own_taken takes (map ps) d h t = absurd cc
own_taken takes (array is) d h t = absurd cc

own_read : (means : Descriptor → Item → Type 0) (i : Item) (d : Descriptor) → descriptor_in i ≡ Some d → means d i → means_by_descriptor means i
own_read means (described e v) d h t = let q : e ≡ d = cc in rw q (rw q at t)
own_read means (scalar v) d h t = absurd cc
own_read means (list is) d h t = absurd cc
own_read means (map ps) d h t = absurd cc
own_read means (array is) d h t = absurd cc

own_not_null : (i : Item) (d : Descriptor) → descriptor_in i ≡ Some d → is_null i ≡ false
own_not_null (described e v) d h = refl
own_not_null (scalar v) d h = absurd cc
own_not_null (list is) d h = refl
own_not_null (map ps) d h = refl
own_not_null (array is) d h = refl

module _ {S : Type 0} (row : DescribedVariants S) where
  pub variant_taken : IsTrue row.reads_back → (s : S) → row.sound s → IsTrue (takes_by_descriptor row.read.takes (row.item s))
  variant_taken r s h = own_taken row.read.takes (row.item s) (row.at s) (row.stands s) (row.taken_back r s h)

  pub variant_read : IsTrue row.reads_back → (s : S) → row.sound s → means_by_descriptor (λ d i. row.read.means d i s) (row.item s)
  variant_read r s h = own_read (λ d i. row.read.means d i s) (row.item s) (row.at s) (row.stands s) (row.read_back r s h)

  pub variant_not_null : (s : S) → is_null (row.item s) ≡ false
  variant_not_null s = own_not_null (row.item s) (row.at s) (row.stands s)

  pub variant_one : (i : Item) (s t : S) → means_by_descriptor (λ d j. row.read.means d j s) i → means_by_descriptor (λ d j. row.read.means d j t) i → row.same s t
  variant_one (described d v) s t p q = row.one_value d (described d v) s t p q
  variant_one (scalar v) s t p q = absurd p
  variant_one (list is) s t p q = absurd p
  variant_one (map ps) s t p q = absurd p
  variant_one (array is) s t p q = absurd p

-- An enum of these variants: `which` says of a value which of them it is, and what it holds.
abbrev pub described_enum_of : {V S : Type 0} → DescribedVariants S → (V → S) → Meaning V
described_enum_of row which = record {
  item = λ v _. row.item (which v);
  takes = takes_by_descriptor row.read.takes;
  means = λ i v. means_by_descriptor (λ d j. row.read.means d j (which v)) i;
  same = λ v w. row.same (which v) (which w);
  refuses = by_descriptor_refusal row.read.refuses;
  grows = true;
  in_described_list = λ _. refl;
  in_described_basic = λ _. refl;
  one_value = λ i v w. variant_one row i (which v) (which w);
  sound = λ v. row.sound (which v);
  always_sound = row.always_sound;
  is_sound = λ a v. row.is_sound a (which v);
  reads_back = row.reads_back;
  taken_back = λ r v s. variant_taken row r (which v) s;
  read_back = λ r v s. variant_read row r (which v) s;
  never_null = true;
  not_null = λ _ v. variant_not_null row (which v);
}
