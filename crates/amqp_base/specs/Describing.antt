-- Described values: a descriptor, and the value behind it (1.1.2, 1.2).
use Rattle.std.specs.Prelude.{if◌then◌else◌, ◌≡◌, ℕ, zero, suc, ◌⊎◌, Bool, true, false, ◌&&◌, ◌==◌, IsTrue, List, [], ◌∷◌, bytes_eq, Ok, Err}
use Rattle.std.proofs.Common.{refl, sym, subst, ◌∙◌}
use Rattle.std.proofs.lemmas.Bool.{eq-eqb}
use Rattle.amqp_base.specs.declared.error.Error.{Error}
use Rattle.amqp_base.specs.declared.error.Error.TheVariants.{InvalidFormatCode}
use Rattle.amqp_base.specs.declared.format_code.EncodingCodes.{EncodingCodes}
use Rattle.amqp_base.specs.Canon.{same_descriptor}
use Rattle.amqp_base.specs.Codes.{Kind, row}
use Rattle.amqp_base.specs.SameKind.{same_kind}
use Rattle.amqp_base.specs.Item.{Descriptor, name, code, Item, scalar, list, map, array, described}
use Rattle.amqp_base.specs.Leading.{leading_data, leading_part_refusal, leading_of}
use Rattle.amqp_base.specs.Meaning.{Meaning, Row}
use Rattle.amqp_base.specs.Parse.{Parsed, ◌>>=◌, byte_at, descriptor_at, item_at}
use Rattle.amqp_base.specs.ReadBack.{both}
use Rattle.amqp_base.specs.Refusals.{IsMessage, StandsFor}
use Rattle.amqp_base.specs.Refusing.{Refusing, PartsRefusing, one_or_other, all_awaited, awaited_count}
use Rattle.amqp_base.specs.Typing.{OneValue}
use Rattle.amqp_base.specs.Wire.{Constructor, bare, under, under_pair}
use Rattle.amqp_base.specs.declared.shape.Setting.TheVariants.{Plain, DescribedBasic}

-- any described item
abbrev pub is_described : Item → Bool
is_described (described d v) = true
is_described (scalar v) = false
is_described (list is) = false
is_described (map ps) = false
is_described (array is) = false

-- a described item whose value is taken
abbrev pub is_described_of : (Item → Bool) → Item → Bool
is_described_of takes (described d v) = takes v
is_described_of takes (scalar v) = false
is_described_of takes (list is) = false
is_described_of takes (map ps) = false
is_described_of takes (array is) = false

-- with this descriptor, and a value of this meaning
abbrev pub means_described : (Item → Type 0) → Descriptor → Item → Type 0
means_described means d (described e v) = (e ≡ d) × means v
means_described means d (scalar v) = ⊥
means_described means d (list is) = ⊥
means_described means d (map ps) = ⊥
means_described means d (array is) = ⊥

-- means one descriptor and one value at most
pub one_described : {T : Type 0} (means : Item → T → Type 0) (same : T → T → Type 0) → OneValue means same
    → (i : Item) (d e : Descriptor) (v w : T) → means_described (λ j. means j v) d i → means_described (λ j. means j w) e i → (d ≡ e) × same v w
one_described means same one (described f x) d e v w p q = (sym p.0 ∙ q.0, one x v w p.1 q.1)
one_described means same one (scalar x) d e v w p q = absurd p
one_described means same one (list is) d e v w p q = absurd p
one_described means same one (map ps) d e v w p q = absurd p
one_described means same one (array is) d e v w p q = absurd p

-- ---- what the bytes call for

-- a descriptor, and what the value behind it stands under
pub record BehindDescriptor : Type 0 where
  pub descriptor : Descriptor
  pub stands : Constructor

-- behind the first byte: 0x00 and a descriptor, whose value has its own constructor
abbrev pub describing_behind : Error → ℕ → List ℕ → Parsed BehindDescriptor
describing_behind custom zero s = descriptor_at custom s >>= λ d. Ok (record { descriptor = d.0; stands = bare }, d.1)
describing_behind custom (suc n) s = Err InvalidFormatCode

-- 0x00 and a descriptor; inside an array of described elements neither of them is there
unfoldable pub describing_at : Error → Constructor → List ℕ → Parsed BehindDescriptor
describing_at custom bare s = byte_at s >>= λ b. describing_behind custom b.0 b.1
describing_at custom (under e) s = Err InvalidFormatCode
describing_at custom (under_pair d e) s = Ok (record { descriptor = d; stands = under e }, s)

-- no descriptor is seen there
abbrev pub undescribed : Refusing
undescribed c s e = describing_at InvalidFormatCode c s ≡ Err e

-- a descriptor is seen there, and this is so of it
pub record DescriptorStands (later : Descriptor → Type 0) (c : Constructor) (s : List ℕ) : Type 0 where
  pub found : BehindDescriptor
  pub rest : List ℕ
  pub header : describing_at InvalidFormatCode c s ≡ Ok (found, rest)
  pub behind : later found.descriptor

-- as no descriptor is seen there, or as an item behind this one is refused
unfoldable pub by_descriptor_refusal : (Descriptor → Refusing) → Refusing
by_descriptor_refusal refuses c s e = undescribed c s e ⊎ DescriptorStands (λ d. refuses d c s e) c s

-- a descriptor stands there, and what follows it is so
pub record DescribedThen (later : BehindDescriptor → List ℕ → Type 0) (c : Constructor) (s : List ℕ) : Type 0 where
  pub found : BehindDescriptor
  pub rest : List ℕ
  pub header : (custom : Error) → describing_at custom c s ≡ Ok (found, rest)
  pub behind : later found rest

-- by the descriptor, or as the value behind it is refused
unfoldable pub described_refusal : Refusing → Refusing
described_refusal refuses c s e =
    ((custom : Error) → StandsFor custom e → describing_at custom c s ≡ Err e)
    ⊎ DescribedThen (λ d rest. refuses d.stands rest e) c s

-- ---- a type of described values

abbrev pub described_of : {V T : Type 0} → Meaning T → (V → Descriptor) → (V → T) → Meaning V
described_of m descriptor value = record {
  item = λ v _. described (descriptor v) (m.item (value v) DescribedBasic);
  takes = is_described_of m.takes;
  means = λ i v. means_described (λ j. m.means j (value v)) (descriptor v) i;
  same = λ v w. (descriptor v ≡ descriptor w) × m.same (value v) (value w);
  refuses = described_refusal m.refuses;
  grows = true;
  in_described_list = λ _. refl;
  in_described_basic = λ _. refl;
  one_value = λ i v w. one_described m.means m.same m.one_value i (descriptor v) (descriptor w) (value v) (value w);
  sound = λ v. m.sound (value v);
  always_sound = m.always_sound;
  is_sound = λ a v. m.is_sound a (value v);
  reads_back = m.reads_back;
  taken_back = λ r v s. subst (λ i. IsTrue (m.takes i)) (sym (m.in_described_basic (value v))) (m.taken_back r (value v) s);
  read_back = λ r v s. (refl, subst (λ i. m.means i (value v)) (sym (m.in_described_basic (value v))) (m.read_back r (value v) s));
  never_null = true;
  not_null = λ _ _. refl;
}

-- ---- a type of values behind its descriptor

bytes_same : (a : List ℕ) → bytes_eq a a ≡ true
bytes_same [] = refl
bytes_same (x ∷ a) = rw (eq-eqb x x refl) (bytes_same a)

pub same_as_itself : (d : Descriptor) → same_descriptor d d ≡ true
same_as_itself (name a) = bytes_same a
same_as_itself (code n) = eq-eqb n n refl

-- Which descriptor stands in front of what is written, and which ones are taken in front of what is read.
pub record Descriptors : Type 0 where
  pub written : Descriptor
  pub among : Descriptor → Bool
  pub own : among written ≡ true

-- just this one
abbrev pub just : Descriptor → Descriptors
just d = record { written = d; among = same_descriptor d; own = same_as_itself d }

abbrev pub is_code_or_name : ℕ → List ℕ → Descriptor → Bool
is_code_or_name n a (code m) = n == m
is_code_or_name n a (name b) = bytes_eq a b

-- this code, in whose place the name of the same type may be read
abbrev pub code_or_name : ℕ → List ℕ → Descriptors
code_or_name n a = record { written = code n; among = is_code_or_name n a; own = eq-eqb n n refl }

-- a value behind one of these descriptors is taken
abbrev pub is_behind : (Descriptor → Bool) → (Item → Bool) → Item → Bool
is_behind among takes (described d v) = among d && takes v
is_behind among takes (scalar v) = false
is_behind among takes (list is) = false
is_behind among takes (map ps) = false
is_behind among takes (array is) = false

abbrev pub means_behind : (Item → Type 0) → Item → Type 0
means_behind means (described e v) = means v
means_behind means (scalar v) = ⊥
means_behind means (list is) = ⊥
means_behind means (map ps) = ⊥
means_behind means (array is) = ⊥

pub one_behind : {T : Type 0} (means : Item → T → Type 0) (same : T → T → Type 0) → OneValue means same
    → (i : Item) (v w : T) → means_behind (λ j. means j v) i → means_behind (λ j. means j w) i → same v w
one_behind means same one (described f x) v w p q = one x v w p q
one_behind means same one (scalar x) v w p q = absurd p
one_behind means same one (list is) v w p q = absurd p
one_behind means same one (map ps) v w p q = absurd p
one_behind means same one (array is) v w p q = absurd p

-- another descriptor is a message; behind one of these the value is refused so
unfoldable pub behind_refusal : (Descriptor → Bool) → Refusing → Refusing
behind_refusal among behind c s e =
    ((custom : Error) → StandsFor custom e → describing_at custom c s ≡ Err e)
    ⊎ DescribedThen (λ f rest. one_or_other (among f.descriptor) (behind f.stands rest e) (IsMessage e)) c s

-- the same values, each behind its descriptor; what stands there is refused so
abbrev pub under_descriptor : {V : Type 0} → Descriptors → Refusing → Meaning V → Meaning V
under_descriptor ds behind m = record {
  item = λ v _. described ds.written (m.item v Plain);
  takes = is_behind ds.among m.takes;
  means = λ i v. means_behind (λ j. m.means j v) i;
  same = m.same;
  refuses = behind_refusal ds.among behind;
  grows = true;
  in_described_list = λ _. refl;
  in_described_basic = λ _. refl;
  one_value = λ i v w. one_behind m.means m.same m.one_value i v w;
  sound = m.sound;
  always_sound = m.always_sound;
  is_sound = m.is_sound;
  reads_back = m.reads_back;
  taken_back = λ r v s. both (ds.among ds.written) (m.takes (m.item v Plain)) ds.own (m.taken_back r v s);
  read_back = λ r v s. m.read_back r v s;
  never_null = true;
  not_null = λ _ _. refl;
}

-- ---- a struct under a descriptor: a list of its fields in order

-- an item of this kind; a code of another kind is a message
unfoldable pub kind_data : Kind → (EncodingCodes → List ℕ → Parsed ℕ) → Error → EncodingCodes → List ℕ → Parsed ℕ
kind_data k parse custom e s = if same_kind (row e).kind k then parse e s else Err custom

-- a header stands there, and what follows it is so
pub record HeaderBehind (parse : Error → EncodingCodes → List ℕ → Parsed ℕ) (later : ℕ → List ℕ → Type 0) (c : Constructor) (s : List ℕ) : Type 0 where
  pub count : ℕ
  pub rest : List ℕ
  pub header : (custom : Error) → item_at (parse custom) c s ≡ Ok (count, rest)
  pub behind : later count rest

-- by the header, or by what stands behind it
unfoldable pub header_refusal : (Error → EncodingCodes → List ℕ → Parsed ℕ) → PartsRefusing → Refusing
header_refusal parse later c s e =
    ((custom : Error) → StandsFor custom e → item_at (parse custom) c s ≡ Err e)
    ⊎ HeaderBehind parse (λ n rest. later n rest e) c s

-- behind a descriptor: a list of as many fields at most as are awaited
abbrev pub described_list_refusal : List Bool → List (Item → Bool) → List {1} Refusing → Refusing
described_list_refusal awaited takes refuses = header_refusal (kind_data Kind.list (leading_data (awaited_count awaited))) (leading_part_refusal awaited takes refuses)

-- a struct of these fields under a descriptor, as a list; it is read where its last fields are left out, too
abbrev pub described_list_of : {V : Type 0} → Descriptors → Row V → Meaning V
described_list_of ds row = under_descriptor ds (described_list_refusal (all_awaited row.takes) row.takes row.refuses) (leading_of row)
