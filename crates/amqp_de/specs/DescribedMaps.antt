-- A struct under one descriptor, as a map from the names of its fields to their values (1.2, 1.6.23).
use Rattle.std.specs.Prelude.{◌≡◌, ℕ, true, false, IsTrue, List, [], ◌∷◌, bytes_eq}
use Rattle.std.proofs.Common.{refl, sym, subst}
use Rattle.amqp_base.specs.declared.shape.Setting.TheVariants.{Plain, DescribedMap}
use Rattle.amqp_base.specs.declared.shape.Shape.{Shape}
use Rattle.amqp_base.specs.Describing.{Descriptors, same_as_itself, under_descriptor}
use Rattle.amqp_base.specs.Item.{name, Item, scalar, list, map, array, described}
use Rattle.amqp_base.specs.Meaning.{Meaning, Row, Field, at, row_of, option_of, newtype_of, struct_of, first_of, second_of, from_false}
use Rattle.amqp_base.specs.NamedFields.{OneRow, takes_named, means_named, takes_map, means_map, takes_struct, means_struct}
use Rattle.amqp_base.specs.Options.{option_taken_back, option_read_back}
use Rattle.amqp_base.specs.Parse.{map_data}
use Rattle.amqp_base.specs.ReadBack.{both}
use Rattle.amqp_base.specs.Refusing.{opened_refusal, fields_refusal, all_awaited}
use Rattle.amqp_base.specs.Shapes.{pairs_of, whole}
use Rattle.amqp_base.specs.Structs.{fields_parts, struct_item}
use Rattle.amqp_base.specs.Typing.{is_null}
use Rattle.amqp_de.specs.DescribedFields.{described_map_refusal}

-- What is written for a value as a field of a map is read back, too: there a struct is a map itself.
pub record KeptInMap {T : Type 0} (m : Meaning T) : Type 0 where
  pub taken : IsTrue m.reads_back → (v : T) → m.sound v → IsTrue (m.takes (m.item v DescribedMap))
  pub read : IsTrue m.reads_back → (v : T) → m.sound v → m.means (m.item v DescribedMap) v
  pub not_null : IsTrue m.never_null → (v : T) → is_null (m.item v DescribedMap) ≡ false

-- where it is what is written for it anywhere
pub as_ever : {T : Type 0} {m : Meaning T} → ◌≡◌ {A = T → Item} (λ v. m.item v DescribedMap) (λ v. m.item v Plain) → KeptInMap m
as_ever {T} {m} h = record {
  taken = λ r v s. subst (λ f. IsTrue (m.takes (f v))) (sym h) (m.taken_back r v s);
  read = λ r v s. subst (λ f. m.means (f v) v) (sym h) (m.read_back r v s);
  not_null = λ n v. subst (λ f. is_null (f v) ≡ false) (sym h) (m.not_null n v);
}

-- of an option, and of a type that holds a value of another
pub option_kept : {T : Type 0} (m : Meaning T) → KeptInMap m → KeptInMap (option_of m)
option_kept m k = record {
  taken = λ r. option_taken_back m.takes m.item DescribedMap m.sound (k.taken (first_of m.reads_back m.never_null r));
  read = λ r. option_read_back m.means m.item DescribedMap m.sound (k.not_null (second_of m.reads_back m.never_null r)) (k.read (first_of m.reads_back m.never_null r));
  not_null = λ h. from_false h;
}

pub newtype_kept : {V T : Type 0} (m : Meaning T) (get : V → T) → KeptInMap m → KeptInMap (newtype_of m get)
newtype_kept m get k = record {
  taken = λ r v s. k.taken r (get v) s;
  read = λ r v s. k.read r (get v) s;
  not_null = λ n v. k.not_null n (get v);
}

-- each field is
abbrev pub AllKept : {V : Type 0} → List {1} (Field V) → Type 0
AllKept [] = Unit {0}
AllKept (f ∷ fs) = KeptInMap f.meaning × AllKept fs

-- ---- a map of fields in order is read back: each name stands first where it is looked for

own_name : (a : List ℕ) → bytes_eq a a ≡ true
own_name a = same_as_itself (name a)

pub fields_taken : {V : Type 0} (fs : List {1} (Field V)) → AllKept fs → IsTrue (row_of fs).reads_back → (v : V) → (row_of fs).sound v
    → IsTrue (takes_named (row_of fs).names (row_of fs).takes (pairs_of (fields_parts Shape.Fields ((row_of fs).items v))))
fields_taken [] k r v s = refl
fields_taken (f ∷ fs) k r v s =
    rw (own_name f.name)
    (both (f.meaning.takes (f.meaning.item (f.get v) DescribedMap)) (takes_named (row_of fs).names (row_of fs).takes (pairs_of (fields_parts Shape.Fields ((row_of fs).items v))))
    (k.0.taken (first_of f.meaning.reads_back (row_of fs).reads_back r) (f.get v) s.0)
    (fields_taken fs k.1 (second_of f.meaning.reads_back (row_of fs).reads_back r) v s.1))

pub fields_read : {V : Type 0} (fs : List {1} (Field V)) → AllKept fs → IsTrue (row_of fs).reads_back → (v : V) → (row_of fs).sound v
    → means_named (row_of fs).names ((row_of fs).means v) (pairs_of (fields_parts Shape.Fields ((row_of fs).items v)))
fields_read [] k r v s = tt
fields_read (f ∷ fs) k r v s =
    rw (own_name f.name) (
      k.0.read (first_of f.meaning.reads_back (row_of fs).reads_back r) (f.get v) s.0,
      fields_read fs k.1 (second_of f.meaning.reads_back (row_of fs).reads_back r) v s.1,
    )

pub map_taken : {V : Type 0} (fs : List {1} (Field V)) → AllKept fs → IsTrue (row_of fs).reads_back → (v : V) → (row_of fs).sound v
    → IsTrue (takes_map (row_of fs).names (row_of fs).takes (struct_item DescribedMap ((row_of fs).items v)))
unfolding takes_map struct_item whole
map_taken fs k r v s = fields_taken fs k r v s

pub map_read : {V : Type 0} (fs : List {1} (Field V)) → AllKept fs → IsTrue (row_of fs).reads_back → (v : V) → (row_of fs).sound v
    → means_map (row_of fs).names ((row_of fs).means v) (struct_item DescribedMap ((row_of fs).items v))
unfolding means_map struct_item whole
map_read fs k r v s = fields_read fs k r v s

-- ---- such maps as values

pub one_named : {names : List (List ℕ)} {P Q : List {1} (Item → Type 0)} {R : Type 0} → OneRow names P Q R → (i : Item) → means_map names P i → means_map names Q i → R
unfolding means_map
one_named rows (map ps) p q = rows.in_map ps p q
one_named rows (list is) p q = absurd p
one_named rows (scalar v) p q = absurd p
one_named rows (array is) p q = absurd p
one_named rows (described d v) p q = absurd p

pub map_present : {V : Type 0} (row : Row V) (v : V) → is_null (struct_item DescribedMap (row.items v)) ≡ false
unfolding struct_item whole
map_present row v = refl

-- a struct is read back from such a map, too
struct_taken : {V : Type 0} (fs : List {1} (Field V)) → AllKept fs → IsTrue (row_of fs).reads_back → (v : V) → (row_of fs).sound v
    → IsTrue (takes_struct (row_of fs).names (row_of fs).takes (struct_item DescribedMap ((row_of fs).items v)))
unfolding takes_struct struct_item whole
struct_taken fs k r v s = fields_taken fs k r v s

struct_read : {V : Type 0} (fs : List {1} (Field V)) → AllKept fs → IsTrue (row_of fs).reads_back → (v : V) → (row_of fs).sound v
    → means_struct (row_of fs).names ((row_of fs).means v) (struct_item DescribedMap ((row_of fs).items v))
unfolding means_struct struct_item whole
struct_read fs k r v s = fields_read fs k r v s

-- a map from the names of these fields, each once, in any order
abbrev pub named_of : {V : Type 0} → (fs : List {1} (Field V)) → AllKept fs → Meaning V
named_of fs kept = record {
  item = λ v _. struct_item DescribedMap ((row_of fs).items v);
  takes = takes_map (row_of fs).names (row_of fs).takes;
  means = λ i v. means_map (row_of fs).names ((row_of fs).means v) i;
  same = (row_of fs).same;
  refuses = opened_refusal map_data (fields_refusal (row_of fs).names (row_of fs).takes (row_of fs).refuses (all_awaited (row_of fs).names));
  grows = true;
  in_described_list = λ _. refl;
  in_described_basic = λ _. refl;
  one_value = λ i v w. one_named ((row_of fs).one v w) i;
  sound = (row_of fs).sound;
  always_sound = (row_of fs).always_sound;
  is_sound = (row_of fs).is_sound;
  reads_back = (row_of fs).reads_back;
  taken_back = λ r v s. map_taken fs kept r v s;
  read_back = λ r v s. map_read fs kept r v s;
  never_null = true;
  not_null = λ _ v. map_present (row_of fs) v;
}

-- an entry of a map: its name, what the type of its value means, the value, and why that is read back
pub record Entry (V : Type 0) : Type 1 where
  pub field : Field V
  pub kept : KeptInMap field.meaning

abbrev pub entry : {V T : Type 0} → List ℕ → (m : Meaning T) → (V → T) → KeptInMap m → Entry V
entry key m get kept = record { field = at key m get; kept = kept }

abbrev pub fields_of : {V : Type 0} → List {1} (Entry V) → List {1} (Field V)
fields_of [] = []
fields_of (e ∷ es) = e.field ∷ fields_of es

abbrev pub each_kept : {V : Type 0} → (es : List {1} (Entry V)) → AllKept (fields_of es)
each_kept [] = tt
each_kept (e ∷ es) = (e.kept, each_kept es)

-- a value that is a struct of such fields is itself a map in a map
pub struct_kept : {V : Type 0} (es : List {1} (Entry V)) → KeptInMap (struct_of (row_of (fields_of es)))
struct_kept es = record {
  taken = λ r v s. struct_taken (fields_of es) (each_kept es) r v s;
  read = λ r v s. struct_read (fields_of es) (each_kept es) r v s;
  not_null = λ _ v. map_present (row_of (fields_of es)) v;
}

-- a struct of these fields under a descriptor, as a map from their names
abbrev pub described_map_of : {V : Type 0} → Descriptors → List {1} (Entry V) → Meaning V
described_map_of ds es =
    let row = row_of (fields_of es) in
    under_descriptor ds (described_map_refusal row.names row.takes row.refuses (all_awaited row.names)) (named_of (fields_of es) (each_kept es))
