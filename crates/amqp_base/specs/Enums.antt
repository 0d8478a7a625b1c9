-- What an enum means.
use Rattle.std.specs.Prelude.{◌≡◌, ℕ, suc, Bool, true, false, ◌&&◌, IsTrue, List, Option, Some, None}
use Rattle.std.proofs.Common.{refl}
use Rattle.amqp_base.specs.declared.error.Error.{Error}
use Rattle.amqp_base.specs.declared.error.Error.TheVariants.{InvalidFormatCode, SequenceLengthMismatch}
use Rattle.amqp_base.specs.declared.one_of.OneOf.{OneOf}
use Rattle.amqp_base.specs.declared.one_of.OneOf.TheVariants.{This, Other}
use Rattle.amqp_base.specs.declared.one_of.NoVariant.{NoVariant}
use Rattle.amqp_base.specs.declared.shape.Setting.TheVariants.{Plain}
use Rattle.amqp_base.specs.Item.{Item, scalar, list, map, array, described, ulong, string, Items, none, more, in_turn}
use Rattle.amqp_base.specs.Meaning.{Meaning, first_of, second_of}
use Rattle.amqp_base.specs.Refusals.{IsMessage}
use Rattle.amqp_base.specs.Refusing.{Refusing, one_or_other}
use Rattle.amqp_base.specs.Shapes.{whole}
use Rattle.amqp_base.specs.Typing.{OneValue, is_null}
use Rattle.amqp_base.specs.VariantItems.{Key, index, named, key_in, key_of, is_first, behind_first, enum_item, takes_enum, means_two, means_enum, key_refusal, enum_refusal, by_key, meant_by_key}

-- The variants of an enum, one after the other. A value of S is one of them, with what it holds.
pub record Variants (S : Type 0) : Type 1 where
  -- the index of a value's variant, and what it holds, where it isn't a unit
  pub place : S → ℕ
  pub holds : S → Option Item
  -- which of them are read, by a key: alone, or with what is held
  pub takes : Key → Option Item → Bool
  pub means : Key → Option Item → S → Type 0
  -- how a key alone is refused, and what stands behind a key
  pub refuses_alone : Key → Error → Type 0
  pub refuses : Key → Refusing
  pub same : S → S → Type 0
  pub one_value : (k : Key) (o : Option Item) (s t : S) → means k o s → means k o t → same s t
  pub sound : S → Type 0
  pub always_sound : Bool
  pub is_sound : IsTrue always_sound → (s : S) → sound s
  pub reads_back : Bool
  pub taken_back : IsTrue reads_back → (s : S) → sound s → IsTrue (takes (index (place s)) (holds s))
  pub read_back : IsTrue reads_back → (s : S) → sound s → means (index (place s)) (holds s) s

-- an item means a value: by a key alone, or by a pair
unfoldable pub means_variant : {S : Type 0} → Variants S → S → Item → Type 0
means_variant row s i = means_enum (λ k o. row.means k o s) i

-- ---- no variant: each key is refused as a message

abbrev pub no_variant : Variants NoVariant
no_variant = record {
  place = λ s. elim s [ ];
  holds = λ s. elim s [ ];
  takes = λ k o. false;
  means = λ k o s. ⊥;
  refuses_alone = λ k e. IsMessage e;
  refuses = λ k c z e. IsMessage e;
  same = λ s t. Unit {0};
  one_value = λ k o s t p q. tt;
  sound = λ s. Unit {0};
  always_sound = true;
  is_sound = λ a s. tt;
  reads_back = true;
  taken_back = λ r s. elim s [ ];
  read_back = λ r s. elim s [ ];
}

-- ---- what a variant holds

-- nothing, or a value that stands behind its key
pub record Payload (T : Type 0) : Type 1 where
  -- its item, where it holds a value
  pub item : T → Option Item
  -- which items are read behind its key, or none
  pub takes : Option Item → Bool
  pub means : Option Item → T → Type 0
  -- how its key alone is refused, and what stands behind its key
  pub refuses_alone : Error → Type 0
  pub refuses : Refusing
  pub same : T → T → Type 0
  pub one_value : (o : Option Item) (v w : T) → means o v → means o w → same v w
  pub sound : T → Type 0
  pub always_sound : Bool
  pub is_sound : IsTrue always_sound → (v : T) → sound v
  pub reads_back : Bool
  pub taken_back : IsTrue reads_back → (v : T) → sound v → IsTrue (takes (item v))
  pub read_back : IsTrue reads_back → (v : T) → sound v → means (item v) v

abbrev pub takes_nothing : Option Item → Bool
takes_nothing None = true
takes_nothing (Some i) = false

abbrev pub means_nothing : Option Item → Type 0
means_nothing None = Unit {0}
means_nothing (Some i) = ⊥

-- nothing: no value may stand behind its key
abbrev pub nothing : Payload (Unit {0})
nothing = record {
  item = λ _. None;
  takes = takes_nothing;
  means = λ o _. means_nothing o;
  refuses_alone = λ e. ⊥;
  refuses = λ c s e. e ≡ SequenceLengthMismatch;
  same = λ v w. Unit {0};
  one_value = λ o v w p q. tt;
  sound = λ _. Unit {0};
  always_sound = true;
  is_sound = λ _ _. tt;
  reads_back = true;
  taken_back = λ _ _ _. refl;
  read_back = λ _ _ _. tt;
}

abbrev pub takes_value : (Item → Bool) → Option Item → Bool
takes_value takes None = false
takes_value takes (Some i) = takes i

abbrev pub means_value : {T : Type 0} → (Item → T → Type 0) → Option Item → T → Type 0
means_value means None v = ⊥
means_value means (Some i) v = means i v

pub one_payload : {T : Type 0} (means : Item → T → Type 0) (same : T → T → Type 0) → OneValue means same → (o : Option Item) (v w : T) → means_value means o v → means_value means o w → same v w
one_payload means same one None v w p q = absurd p
one_payload means same one (Some i) v w p q = one i v w p q

-- a value: it has to stand behind its key
abbrev pub value_of : {T : Type 0} → Meaning T → Payload T
value_of m = record {
  item = λ v. Some (m.item v Plain);
  takes = takes_value m.takes;
  means = means_value m.means;
  refuses_alone = λ e. e ≡ InvalidFormatCode;
  refuses = m.refuses;
  same = m.same;
  one_value = one_payload m.means m.same m.one_value;
  sound = m.sound;
  always_sound = m.always_sound;
  is_sound = m.is_sound;
  reads_back = m.reads_back;
  taken_back = m.taken_back;
  read_back = m.read_back;
}

-- ---- one more variant before the others

abbrev pub place_of : {T S : Type 0} → (S → ℕ) → OneOf T S → ℕ
place_of place (This v) = 0
place_of place (Other s) = suc (place s)

abbrev pub held_by : {T S : Type 0} → (T → Option Item) → (S → Option Item) → OneOf T S → Option Item
held_by first rest (This v) = first v
held_by first rest (Other s) = rest s

-- what holds of the first, and of those behind it
abbrev pub of_one : {T S : Type 0} → (T → Type 0) → (S → Type 0) → OneOf T S → Type 0
of_one first rest (This v) = first v
of_one first rest (Other s) = rest s

abbrev pub same_one : {T S : Type 0} → (T → T → Type 0) → (S → S → Type 0) → OneOf T S → OneOf T S → Type 0
same_one first rest (This v) (This w) = first v w
same_one first rest (This v) (Other t) = ⊥
same_one first rest (Other s) (This w) = ⊥
same_one first rest (Other s) (Other t) = rest s t

-- where the key is that of the first, and where it isn't
abbrev pub takes_one : Bool → Bool → Bool → Bool
takes_one true first rest = first
takes_one false first rest = rest

abbrev pub means_one : {T S : Type 0} → Bool → (T → Type 0) → (S → Type 0) → OneOf T S → Type 0
means_one b first rest (This v) = (b ≡ true) × first v
means_one b first rest (Other s) = (b ≡ false) × rest s

module _ {T S : Type 0} where
  pub one_in : (b : Bool) (P : T → Type 0) (Q : S → Type 0) (first : T → T → Type 0) (rest : S → S → Type 0) → ((v w : T) → P v → P w → first v w) → ((s t : S) → Q s → Q t → rest s t) → (s t : OneOf T S) → means_one b P Q s → means_one b P Q t → same_one first rest s t
  one_in b P Q first rest f g (This v) (This w) p q = f v w p.1 q.1
  one_in b P Q first rest f g (This v) (Other t) p q = absurd cc (p.0, q.0)
  one_in b P Q first rest f g (Other s) (This w) p q = absurd cc (p.0, q.0)
  one_in b P Q first rest f g (Other s) (Other t) p q = g s t p.1 q.1

  pub sound_one : (P : T → Type 0) (Q : S → Type 0) → ((v : T) → P v) → ((s : S) → Q s) → (s : OneOf T S) → of_one P Q s
  sound_one P Q f g (This v) = f v
  sound_one P Q f g (Other s) = g s

module _ {T S : Type 0} (name : List ℕ) (p : Payload T) (row : Variants S) where
  pub variant_taken : IsTrue (p.reads_back && row.reads_back) → (s : OneOf T S) → of_one p.sound row.sound s
      → IsTrue (takes_one (is_first name (index (place_of row.place s))) (p.takes (held_by p.item row.holds s)) (row.takes (behind_first (index (place_of row.place s))) (held_by p.item row.holds s)))
  variant_taken r (This v) h = p.taken_back (first_of p.reads_back row.reads_back r) v h
  variant_taken r (Other s) h = row.taken_back (second_of p.reads_back row.reads_back r) s h

  pub variant_read : IsTrue (p.reads_back && row.reads_back) → (s : OneOf T S) → of_one p.sound row.sound s
      → means_one (is_first name (index (place_of row.place s))) (p.means (held_by p.item row.holds s)) (row.means (behind_first (index (place_of row.place s))) (held_by p.item row.holds s)) s
  variant_read r (This v) h = (refl, p.read_back (first_of p.reads_back row.reads_back r) v h)
  variant_read r (Other s) h = (refl, row.read_back (second_of p.reads_back row.reads_back r) s h)

-- a variant of this name, and the variants behind it
abbrev pub variant : {T S : Type 0} → List ℕ → Payload T → Variants S → Variants (OneOf T S)
variant name p row = record {
  place = place_of row.place;
  holds = held_by p.item row.holds;
  takes = λ k o. takes_one (is_first name k) (p.takes o) (row.takes (behind_first k) o);
  means = λ k o. means_one (is_first name k) (p.means o) (row.means (behind_first k) o);
  refuses_alone = λ k e. one_or_other (is_first name k) (p.refuses_alone e) (row.refuses_alone (behind_first k) e);
  refuses = λ k c s e. one_or_other (is_first name k) (p.refuses c s e) (row.refuses (behind_first k) c s e);
  same = same_one p.same row.same;
  one_value = λ k o. one_in (is_first name k) (p.means o) (row.means (behind_first k) o) p.same row.same (p.one_value o) (row.one_value (behind_first k) o);
  sound = of_one p.sound row.sound;
  always_sound = p.always_sound && row.always_sound;
  is_sound = λ a. sound_one p.sound row.sound (p.is_sound (first_of p.always_sound row.always_sound a)) (row.is_sound (second_of p.always_sound row.always_sound a));
  reads_back = p.reads_back && row.reads_back;
  taken_back = variant_taken name p row;
  read_back = variant_read name p row;
}

-- one that holds nothing, and one that holds a value: of its one field, or the tuple of its fields
abbrev pub unit : {S : Type 0} → List ℕ → Variants S → Variants (OneOf (Unit {0}) S)
unit name row = variant name nothing row

abbrev pub holding : {T S : Type 0} → List ℕ → Meaning T → Variants S → Variants (OneOf T S)
holding name m row = variant name (value_of m) row

-- one variant, or those behind it
infixr 5 ◌or◌
abbrev pub ◌or◌ : {S T : Type 0} → (Variants S → Variants T) → Variants S → Variants T
first or rest = first rest

-- ---- the whole

-- what is written for a variant is read by its index
pub item_taken : (takes : Key → Option Item → Bool) (n : ℕ) (o : Option Item) → IsTrue (takes (index n) o) → IsTrue (takes_enum takes (enum_item n o))
unfolding takes_enum whole
item_taken takes n None h = h
item_taken takes n (Some i) h = h

pub item_read : {S : Type 0} (row : Variants S) (s : S) (n : ℕ) (o : Option Item) → row.means (index n) o s → means_variant row s (enum_item n o)
unfolding means_variant means_enum whole
item_read row s n None h = h
item_read row s n (Some i) h = h

pub item_not_null : (n : ℕ) (o : Option Item) → is_null (enum_item n o) ≡ false
unfolding whole
item_not_null n None = refl
item_not_null n (Some i) = refl

-- a key has one meaning
by_one_key : (P Q : Key → Type 0) (R : Type 0) (o : Option Key) → ((k : Key) → P k → Q k → R) → meant_by_key o P → meant_by_key o Q → R
by_one_key P Q R None f p q = absurd p
by_one_key P Q R (Some k) f p q = f k p q

module _ {S : Type 0} (row : Variants S) (s t : S) where
  two_one : (is : Items) → means_two (λ k o. row.means k o s) is → means_two (λ k o. row.means k o t) is → row.same s t
  two_one (more k (more v none)) p q = by_one_key (λ key. row.means key (Some v) s) (λ key. row.means key (Some v) t) (row.same s t) (key_of k) (λ key. row.one_value key (Some v) s t) p q
  two_one is p q = absurd p

  pub enum_one : (i : Item) → means_variant row s i → means_variant row t i → row.same s t
  unfolding means_variant means_enum
  enum_one (scalar v) p q = by_one_key (λ key. row.means key None s) (λ key. row.means key None t) (row.same s t) (key_in v) (λ key. row.one_value key None s t) p q
  enum_one (map ps) p q = two_one (in_turn ps) p q
  enum_one (list is) p q = two_one is p q
  enum_one (array is) p q = absurd p
  enum_one (described d v) p q = absurd p

-- An enum of these variants: `which` says of a value which of them it is, and what it holds.
abbrev pub enum_of : {V S : Type 0} → Variants S → (V → S) → Meaning V
enum_of row which = record {
  item = λ v _. enum_item (row.place (which v)) (row.holds (which v));
  takes = takes_enum row.takes;
  means = λ i v. means_variant row (which v) i;
  same = λ v w. row.same (which v) (which w);
  refuses = enum_refusal row.refuses_alone row.refuses;
  grows = true;
  in_described_list = λ _. refl;
  in_described_basic = λ _. refl;
  one_value = λ i v w. enum_one row (which v) (which w) i;
  sound = λ v. row.sound (which v);
  always_sound = row.always_sound;
  is_sound = λ a v. row.is_sound a (which v);
  reads_back = row.reads_back;
  taken_back = λ r v s. item_taken row.takes (row.place (which v)) (row.holds (which v)) (row.taken_back r (which v) s);
  read_back = λ r v s. item_read row (which v) (row.place (which v)) (row.holds (which v)) (row.read_back r (which v) s);
  never_null = true;
  not_null = λ _ v. item_not_null (row.place (which v)) (row.holds (which v));
}

-- ---- a key by itself

abbrev pub key_item : Key → Item
key_item (index n) = scalar (ulong n)
key_item (named b) = scalar (string b)

abbrev pub is_key : Item → Bool
is_key i = by_key (key_of i) (λ k. true)

pub key_taken : (k : Key) → IsTrue (is_key (key_item k))
key_taken (index n) = refl
key_taken (named b) = refl

pub key_read : (k : Key) → key_of (key_item k) ≡ Some k
key_read (index n) = refl
key_read (named b) = refl

pub key_not_null : (k : Key) → is_null (key_item k) ≡ false
key_not_null (index n) = refl
key_not_null (named b) = refl

pub some_key : (o : Option Key) (k l : Key) → o ≡ Some k → o ≡ Some l → k ≡ l
some_key o k l p q = cc (p, q)

-- a type whose values are keys
abbrev pub key_meaning : {K : Type 0} → (K → Key) → Meaning K
key_meaning view = record {
  item = λ v _. key_item (view v);
  takes = is_key;
  means = λ i v. key_of i ≡ Some (view v);
  same = λ v w. view v ≡ view w;
  refuses = key_refusal;
  grows = true;
  in_described_list = λ _. refl;
  in_described_basic = λ _. refl;
  one_value = λ i v w. some_key (key_of i) (view v) (view w);
  sound = λ _. Unit {0};
  always_sound = true;
  is_sound = λ _ _. tt;
  reads_back = true;
  taken_back = λ _ v _. key_taken (view v);
  read_back = λ _ v _. key_read (view v);
  never_null = true;
  not_null = λ _ v. key_not_null (view v);
}
