-- What a type means, as one value, and what puts such values together.
use Rattle.std.specs.Prelude.{◌≡◌, ℕ, Bool, true, false, ◌&&◌, ◌||◌, IsTrue, List, [], ◌∷◌, map, All, Option, Some, None}
use Rattle.std.proofs.Common.{refl, subst}
use Rattle.std.specs.Map.{keys_of}
use Rattle.std.proofs.lemmas.List.Elements.{All-nil, All-cons}
use Rattle.amqp_base.specs.Codes.{Kind}
use Rattle.amqp_base.specs.Canon.{kind_of}
use Rattle.amqp_base.specs.Item.{Item, Scalar, scalar, string, null}
use Rattle.amqp_base.specs.Refusing.{Refusing, any_refusal, scalar_refusal, chosen_refusal, option_refusal, seq_refusal, array_refusal, all_awaited, row_refusal, map_refusal, struct_refusal}
use Rattle.amqp_base.specs.Shapes.{whole}
use Rattle.amqp_base.specs.Typing.{OneValue, is_of, is_null, text_item, is_seq_of, means_seq, takes_array, means_array, all_same}
use Rattle.amqp_base.specs.OneValue.{one_of, one_seq, one_array, bytes_in}
use Rattle.amqp_base.specs.ReadBack.{of_own_kind, both, list_taken_back, list_read_back, list_not_null, array_taken_back, array_read_back, array_not_null}
use Rattle.amqp_base.specs.Options.{option_item, takes_option, means_option, same_option, option_as_plain, one_option, sound_option, option_taken_back, option_read_back}
use Rattle.amqp_base.specs.Maps.{pair_items, is_map_of, means_map, SameRows, SoundEntries, one_map, put_in_turn}
use Rattle.amqp_base.specs.MapsReadBack.{map_taken_back, map_read_back, map_not_null}
use Rattle.amqp_base.specs.Fields.{takes_fields, means_fields, field, one_fields, TakenBack, taken_none, taken_more, ReadBack, read_none, read_more, list_of_taken, list_of_read, tuple_of_taken, tuple_of_read, tuple_not_null}
use Rattle.amqp_base.specs.Structs.{FieldItem, named, struct_item, fields_parts, struct_in_list, struct_in_basic}
use Rattle.amqp_base.specs.NamedFields.{takes_struct, means_struct, OneRow, one_field, one_struct, struct_taken, struct_read}
use Rattle.amqp_base.specs.declared.shape.Shape.{Shape}
use Rattle.amqp_base.specs.declared.shape.Setting.{Setting}
use Rattle.amqp_base.specs.declared.shape.Setting.TheVariants.{Plain, DescribedList, DescribedBasic}

pub record Meaning (T : Type 0) : Type 1 where
  -- the item that a value is written as, under a setting of the serializer
  pub item : T → Setting → Item
  -- whether an item is read as a value of this type
  pub takes : Item → Bool
  -- the value that an item is read as
  pub means : Item → T → Type 0
  -- whether two values hold the same, capacity and allocator aside
  pub same : T → T → Type 0
  -- which refusal it makes of bytes under a constructor
  pub refuses : Refusing
  -- whether reading takes memory of its own
  pub grows : Bool
  -- a field of a described list is written as by itself, and so is the value behind a descriptor
  pub in_described_list : (v : T) → item v DescribedList ≡ item v Plain
  pub in_described_basic : (v : T) → item v DescribedBasic ≡ item v Plain
  -- an item is read as one value at most
  pub one_value : OneValue means same
  -- what holds of every value that a program has: the keys of a map differ
  pub sound : T → Type 0
  -- whether every value is sound, as where the type holds no map
  pub always_sound : Bool
  pub is_sound : IsTrue always_sound → (v : T) → sound v
  -- whether sound values are read back from what is written for them
  pub reads_back : Bool
  pub taken_back : IsTrue reads_back → (v : T) → sound v → IsTrue (takes (item v Plain))
  pub read_back : IsTrue reads_back → (v : T) → sound v → means (item v Plain) v
  -- whether no value is written as null
  pub never_null : Bool
  pub not_null : IsTrue never_null → (v : T) → is_null (item v Plain) ≡ false

-- what holds of the first of two, and of the second
pub first_of : (a b : Bool) → IsTrue (a && b) → IsTrue a
first_of true b h = refl
first_of false b h = h

pub second_of : (a b : Bool) → IsTrue (a && b) → IsTrue b
second_of a true h = refl
second_of true false h = h
second_of false false h = h

pub from_false : {A : Type 0} → IsTrue false → A
from_false h = absurd cc h

pub all_sound : {T : Type 0} (sound : T → Type 0) → ((v : T) → sound v) → (vs : List T) → All sound vs
all_sound sound h [] = All-nil sound
all_sound sound h (v ∷ vs) = All-cons sound v vs (h v) (all_sound sound h vs)

pub option_sound : {T : Type 0} (sound : T → Type 0) → ((v : T) → sound v) → (o : Option T) → sound_option sound o
option_sound sound h None = tt
option_sound sound h (Some v) = h v

-- ---- values without parts

-- a kind of item without parts: how a content makes an item of it, and which content an item of it has
pub record Sort (A : Type 0) : Type 0 where
  pub kind : Kind
  pub make : A → Scalar
  pub inside : Item → A
  pub again : (a : A) → inside (scalar (make a)) ≡ a
  pub own : (a : A) → kind_of (make a) ≡ kind
  pub not_null : (a : A) → is_null (scalar (make a)) ≡ false

pub own_kind : {A : Type 0} (k : Sort A) (a : A) → IsTrue (is_of k.kind (scalar (k.make a)))
own_kind k a = subst (λ q. IsTrue (is_of q (scalar (k.make a)))) (k.own a) (of_own_kind (k.make a))

abbrev pub scalar_of : {T A : Type 0} → Sort A → Bool → (T → A) → Meaning T
scalar_of k grows content = record {
  item = λ v _. scalar (k.make (content v));
  takes = is_of k.kind;
  means = λ i v. i ≡ scalar (k.make (content v));
  same = λ v w. content v ≡ content w;
  refuses = scalar_refusal k.kind;
  grows = grows;
  in_described_list = λ _. refl;
  in_described_basic = λ _. refl;
  one_value = λ i v w. one_of k.make k.inside k.again i (content v) (content w);
  sound = λ _. Unit {0};
  always_sound = true;
  is_sound = λ _ _. tt;
  reads_back = true;
  taken_back = λ _ v _. own_kind k (content v);
  read_back = λ _ _ _. refl;
  never_null = true;
  not_null = λ _ v. k.not_null (content v);
}

-- the same of a type that has some of the contents alone
abbrev pub chosen_of : {V A : Type 0} → Sort A → Bool → (content : V → A) (allowed : A → Bool) → ((v : V) → IsTrue (allowed (content v))) → Meaning V
chosen_of k grows content allowed own = record {
  item = λ v _. scalar (k.make (content v));
  takes = λ i. is_of k.kind i && allowed (k.inside i);
  means = λ i v. i ≡ scalar (k.make (content v));
  same = λ v w. content v ≡ content w;
  refuses = chosen_refusal k.kind (λ i. allowed (k.inside i));
  grows = grows;
  in_described_list = λ _. refl;
  in_described_basic = λ _. refl;
  one_value = λ i v w. one_of k.make k.inside k.again i (content v) (content w);
  sound = λ _. Unit {0};
  always_sound = true;
  is_sound = λ _ _. tt;
  reads_back = true;
  taken_back = λ _ v _. both (is_of k.kind (scalar (k.make (content v)))) _ (own_kind k (content v)) (rw k.again (own v));
  read_back = λ _ _ _. refl;
  never_null = true;
  not_null = λ _ v. k.not_null (content v);
}

-- the same, where it refuses so; and where nothing is said of what is refused
abbrev pub refused_as : {T : Type 0} → Refusing → Meaning T → Meaning T
refused_as refuses m = record m { refuses = refuses }

abbrev pub unnamed : {T : Type 0} → Meaning T → Meaning T
unnamed m = refused_as any_refusal m

-- a text: a symbol under the symbol setting, else a string
abbrev pub text_of : {T : Type 0} → Bool → (T → List ℕ) → Meaning T
text_of grows content = record {
  item = λ v setting. text_item (content v) setting;
  takes = is_of Kind.string;
  means = λ i v. i ≡ scalar (string (content v));
  same = λ v w. content v ≡ content w;
  refuses = scalar_refusal Kind.string;
  grows = grows;
  in_described_list = λ _. refl;
  in_described_basic = λ _. refl;
  one_value = λ i v w. one_of string bytes_in (λ _. refl) i (content v) (content w);
  sound = λ _. Unit {0};
  always_sound = true;
  is_sound = λ _ _. tt;
  reads_back = true;
  taken_back = λ _ v _. of_own_kind (string (content v));
  read_back = λ _ _ _. refl;
  never_null = true;
  not_null = λ _ _. refl;
}

-- the one value of a type that is null (1.6.1)
abbrev pub a_null : Meaning (Unit {0})
a_null = record {
  item = λ _ _. scalar null;
  takes = is_of Kind.null;
  means = λ i _. i ≡ scalar null;
  same = λ v w. v ≡ w;
  refuses = scalar_refusal Kind.null;
  grows = false;
  in_described_list = λ _. refl;
  in_described_basic = λ _. refl;
  one_value = λ i v w p q. refl;
  sound = λ _. Unit {0};
  always_sound = true;
  is_sound = λ _ _. tt;
  reads_back = true;
  taken_back = λ _ _ _. of_own_kind null;
  read_back = λ _ _ _. refl;
  never_null = false;
  not_null = λ h. from_false h;
}

-- ---- lists, arrays, options, maps

-- a list, which is read from an array, too
abbrev pub list_of : {V T : Type 0} → Meaning T → (V → List T) → Meaning V
list_of m content = record {
  item = λ v _. whole Shape.List (map (λ x. m.item x Plain) (content v));
  takes = is_seq_of m.takes;
  means = λ i v. means_seq m.means i (content v);
  same = λ v w. all_same m.same (content v) (content w);
  refuses = seq_refusal m.takes m.refuses;
  grows = true;
  in_described_list = λ _. refl;
  in_described_basic = λ _. refl;
  one_value = λ i v w. one_seq m.means m.same m.one_value i (content v) (content w);
  sound = λ v. All m.sound (content v);
  always_sound = m.always_sound;
  is_sound = λ a v. all_sound m.sound (m.is_sound a) (content v);
  reads_back = m.reads_back;
  taken_back = λ r v. list_taken_back m.takes (λ x. m.item x Plain) m.sound (m.taken_back r) (content v);
  read_back = λ r v. list_read_back m.means (λ x. m.item x Plain) m.sound (m.read_back r) (content v);
  never_null = true;
  not_null = λ _ v. list_not_null (map (λ x. m.item x Plain) (content v));
}

-- an array, which any other item is read as with one element
abbrev pub array_of : {V T : Type 0} → Meaning T → (V → List T) → Meaning V
array_of m content = record {
  item = λ v _. whole Shape.Array (map (λ x. m.item x Plain) (content v));
  takes = takes_array m.takes;
  means = λ i v. means_array m.means i (content v);
  same = λ v w. all_same m.same (content v) (content w);
  refuses = array_refusal m.takes m.refuses;
  grows = true;
  in_described_list = λ _. refl;
  in_described_basic = λ _. refl;
  one_value = λ i v w. one_array m.means m.same m.one_value i (content v) (content w);
  sound = λ v. All m.sound (content v);
  always_sound = m.always_sound;
  is_sound = λ a v. all_sound m.sound (m.is_sound a) (content v);
  reads_back = m.reads_back;
  taken_back = λ r v. array_taken_back m.takes (λ x. m.item x Plain) m.sound (m.taken_back r) (content v);
  read_back = λ r v. array_read_back m.means (λ x. m.item x Plain) m.sound (m.read_back r) (content v);
  never_null = true;
  not_null = λ _ v. array_not_null (map (λ x. m.item x Plain) (content v));
}

abbrev pub option_of : {T : Type 0} → Meaning T → Meaning (Option T)
option_of m = record {
  item = option_item m.item;
  takes = takes_option m.takes;
  means = means_option m.means;
  same = same_option m.same;
  refuses = option_refusal m.refuses;
  grows = m.grows;
  in_described_list = option_as_plain m.item DescribedList Plain m.in_described_list;
  in_described_basic = option_as_plain m.item DescribedBasic Plain m.in_described_basic;
  one_value = one_option m.means m.same m.one_value;
  sound = sound_option m.sound;
  always_sound = m.always_sound;
  is_sound = λ a. option_sound m.sound (m.is_sound a);
  reads_back = m.reads_back && m.never_null;
  taken_back = λ r. option_taken_back m.takes m.item Plain m.sound (m.taken_back (first_of m.reads_back m.never_null r));
  read_back = λ r. option_read_back m.means m.item Plain m.sound (m.not_null (second_of m.reads_back m.never_null r)) (m.read_back (first_of m.reads_back m.never_null r));
  never_null = false;
  not_null = λ h. from_false h;
}

-- `put` gives the entries after one more, and putting entries whose keys are `distinct` in turn gives them
abbrev pub map_of : {M K V : Type 0} → Meaning K → Meaning V → (put : List (K × V) → K → V → List (K × V)) (distinct : List K → Type 0)
    → ((es : List (K × V)) → distinct (keys_of es) → put_in_turn put es ≡ es) → (M → List (K × V)) → Meaning M
map_of k x put distinct again content = record {
  item = λ v _. whole Shape.Map (pair_items (λ a. k.item a Plain) (λ b. x.item b Plain) (content v));
  takes = is_map_of k.takes x.takes;
  means = λ i v. means_map k.means x.means put i (content v);
  same = λ v w. SameRows k.same x.same put (content v) (content w);
  refuses = map_refusal k.takes k.refuses x.takes x.refuses;
  grows = true;
  in_described_list = λ _. refl;
  in_described_basic = λ _. refl;
  one_value = λ i v w. one_map k.means x.means put k.one_value x.one_value i (content v) (content w);
  sound = λ v. SoundEntries distinct k.sound x.sound (content v);
  always_sound = false;
  is_sound = λ h. from_false h;
  reads_back = k.reads_back && x.reads_back;
  taken_back = λ r v. map_taken_back (λ a. k.item a Plain) (λ b. x.item b Plain) k.takes x.takes (k.taken_back (first_of k.reads_back x.reads_back r)) (x.taken_back (second_of k.reads_back x.reads_back r)) distinct (content v);
  read_back = λ r v. map_read_back (λ a. k.item a Plain) (λ b. x.item b Plain) k.means x.means (k.read_back (first_of k.reads_back x.reads_back r)) (x.read_back (second_of k.reads_back x.reads_back r)) put distinct again (content v);
  never_null = true;
  not_null = λ _ v. map_not_null (pair_items (λ a. k.item a Plain) (λ b. x.item b Plain) (content v));
}

-- ---- rows of fields: structs and tuples

pub record Row (V : Type 0) : Type 1 where
  pub names : List (List ℕ)
  pub items : V → List FieldItem
  pub takes : List (Item → Bool)
  pub means : V → List {1} (Item → Type 0)
  pub same : V → V → Type 0
  pub refuses : List {1} Refusing
  pub grows : Bool
  pub one : (v w : V) → OneRow names (means v) (means w) (same v w)
  pub sound : V → Type 0
  pub always_sound : Bool
  pub is_sound : IsTrue always_sound → (v : V) → sound v
  pub reads_back : Bool
  pub taken_back : IsTrue reads_back → (v : V) → sound v → TakenBack takes (fields_parts Shape.List (items v))
  pub read_back : IsTrue reads_back → (v : V) → sound v → ReadBack (means v) (fields_parts Shape.List (items v))

pub one_none : OneRow [] [] [] (Unit {0})
one_none = record { in_list = λ is p q. tt; in_map = λ ps p q. tt }

abbrev pub no_field : {V : Type 0} → Row V
no_field = record {
  names = [];
  items = λ _. [];
  takes = [];
  means = λ _. [];
  same = λ _ _. Unit {0};
  refuses = [];
  grows = false;
  one = λ _ _. one_none;
  sound = λ _. Unit {0};
  always_sound = true;
  is_sound = λ _ _. tt;
  reads_back = true;
  taken_back = λ _ _ _. taken_none;
  read_back = λ _ _ _. read_none;
}

abbrev pub field_of : {V T : Type 0} → List ℕ → Meaning T → (V → T) → Row V → Row V
field_of name m get rest = record {
  names = name ∷ rest.names;
  items = λ v. named name (m.item (get v)) ∷ rest.items v;
  takes = m.takes ∷ rest.takes;
  means = λ v. field m.means (get v) ∷ rest.means v;
  same = λ v w. m.same (get v) (get w) × rest.same v w;
  refuses = m.refuses ∷ rest.refuses;
  grows = m.grows || rest.grows;
  one = λ v w. one_field name m.one_value (get v) (get w) (rest.one v w);
  sound = λ v. m.sound (get v) × rest.sound v;
  always_sound = m.always_sound && rest.always_sound;
  is_sound = λ a v. (m.is_sound (first_of m.always_sound rest.always_sound a) (get v), rest.is_sound (second_of m.always_sound rest.always_sound a) v);
  reads_back = m.reads_back && rest.reads_back;
  taken_back = λ r v s. taken_more (m.taken_back (first_of m.reads_back rest.reads_back r) (get v) s.0) (rest.taken_back (second_of m.reads_back rest.reads_back r) v s.1);
  read_back = λ r v s. read_more (m.read_back (first_of m.reads_back rest.reads_back r) (get v) s.0) (rest.read_back (second_of m.reads_back rest.reads_back r) v s.1);
}

-- a field of a struct: its name, what its type means, and its value
pub record Field (V : Type 0) : Type 1 where
  pub name : List ℕ
  pub Value : Type 0
  pub meaning : Meaning Value
  pub get : V → Value

abbrev pub at : {V T : Type 0} → List ℕ → Meaning T → (V → T) → Field V
at {V} {T} name m get = record { name = name; Value = T; meaning = m; get = get }

-- these fields
abbrev pub row_of : {V : Type 0} → List {1} (Field V) → Row V
row_of [] = no_field
row_of (f ∷ fs) = field_of f.name f.meaning f.get (row_of fs)

-- a part of a tuple has no name
abbrev pub part : {V T : Type 0} → Meaning T → (V → T) → Field V
part m get = at [] m get

pub struct_not_null : (fs : List FieldItem) → is_null (struct_item Plain fs) ≡ false
unfolding struct_item whole
struct_not_null fs = refl

-- a struct of fields that have names
abbrev pub struct_of : {V : Type 0} → Row V → Meaning V
struct_of row = record {
  item = λ v setting. struct_item setting (row.items v);
  takes = takes_struct row.names row.takes;
  means = λ i v. means_struct row.names (row.means v) i;
  same = row.same;
  refuses = struct_refusal (all_awaited row.names) row.names row.takes row.refuses;
  grows = true;
  in_described_list = λ v. struct_in_list (row.items v);
  in_described_basic = λ v. struct_in_basic (row.items v);
  one_value = λ i v w. one_struct (row.one v w) i;
  sound = row.sound;
  always_sound = row.always_sound;
  is_sound = row.is_sound;
  reads_back = row.reads_back;
  taken_back = λ r v s. struct_taken row.names (row.items v) (row.taken_back r v s);
  read_back = λ r v s. struct_read row.names (row.items v) (row.read_back r v s);
  never_null = true;
  not_null = λ _ v. struct_not_null (row.items v);
}

pub one_parts : {names : List (List ℕ)} {P Q : List {1} (Item → Type 0)} {R : Type 0} → OneRow names P Q R → (i : Item) → means_fields P i → means_fields Q i → R
one_parts {names} {P} {Q} rows i p q = one_fields P Q rows.in_list i p q

-- a row of parts that are put together so, into a list
abbrev pub row_as : {V : Type 0} (list : List Item → Item)
    → ((fields : List (Item → Bool)) (xs : List Item) → TakenBack fields xs → IsTrue (takes_fields fields (list xs)))
    → ((fields : List {1} (Item → Type 0)) (xs : List Item) → ReadBack fields xs → means_fields fields (list xs))
    → ((xs : List Item) → is_null (list xs) ≡ false) → Row V → Meaning V
row_as list taken read not_null row = record {
  item = λ v _. list (fields_parts Shape.List (row.items v));
  takes = takes_fields row.takes;
  means = λ i v. means_fields (row.means v) i;
  same = row.same;
  refuses = row_refusal (all_awaited row.takes) row.takes row.refuses;
  grows = row.grows;
  in_described_list = λ _. refl;
  in_described_basic = λ _. refl;
  one_value = λ i v w. one_parts (row.one v w) i;
  sound = row.sound;
  always_sound = row.always_sound;
  is_sound = row.is_sound;
  reads_back = row.reads_back;
  taken_back = λ r v s. taken row.takes (fields_parts Shape.List (row.items v)) (row.taken_back r v s);
  read_back = λ r v s. read (row.means v) (fields_parts Shape.List (row.items v)) (row.read_back r v s);
  never_null = true;
  not_null = λ _ v. not_null (fields_parts Shape.List (row.items v));
}

-- a tuple of n parts
abbrev pub tuple_of : {V : Type 0} → ℕ → Row V → Meaning V
tuple_of n row = row_as (whole (Shape.Tuple n)) (λ fields xs h. tuple_of_taken n h) (λ fields xs h. tuple_of_read n h) (tuple_not_null n) row

-- a tuple struct
abbrev pub tuple_struct_of : {V : Type 0} → Row V → Meaning V
tuple_struct_of row = row_as (whole Shape.List) (λ fields xs h. list_of_taken h) (λ fields xs h. list_of_read h) list_not_null row

-- ---- a type that holds a value of another, and means the same

abbrev pub newtype_of : {V T : Type 0} → Meaning T → (V → T) → Meaning V
newtype_of m get = record {
  item = λ v. m.item (get v);
  takes = m.takes;
  means = λ i v. m.means i (get v);
  same = λ v w. m.same (get v) (get w);
  refuses = m.refuses;
  grows = m.grows;
  in_described_list = λ v. m.in_described_list (get v);
  in_described_basic = λ v. m.in_described_basic (get v);
  one_value = λ i v w. m.one_value i (get v) (get w);
  sound = λ v. m.sound (get v);
  always_sound = m.always_sound;
  is_sound = λ a v. m.is_sound a (get v);
  reads_back = m.reads_back;
  taken_back = λ r v. m.taken_back r (get v);
  read_back = λ r v. m.read_back r (get v);
  never_null = m.never_null;
  not_null = λ h v. m.not_null h (get v);
}
