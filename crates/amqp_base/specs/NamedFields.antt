-- Structs that are read: a list of their fields in order, or a map in which each field stands once under its name, in any
-- order. For the meaning of a struct with the fields a and b:
--   takes = takes_struct (codes "a" ∷ codes "b" ∷ []) (A.takes ∷ B.takes ∷ [])
--   means = λ i v. means_struct (codes "a" ∷ codes "b" ∷ []) (field A.means v.a ∷ field B.means v.b ∷ []) i
--   one_value = λ i v w. one_struct (one_field _ A.one_value v.a w.a (last_field _ B.one_value v.b w.b)) i
use Rattle.std.specs.Prelude.{ℕ, Bool, true, false, ◌&&◌, IsTrue, List, [], ◌∷◌, Option, Some, None, if◌then◌else◌}
use Rattle.std.specs.Str.{bytes_eq}
use Rattle.amqp_base.specs.Item.{Item, Scalar, scalar, list, map, array, described, string, Items, Pairs, no_pairs, pair}
use Rattle.amqp_base.specs.Fields.{all_fields, all_meanings, field, one_more, TakenBack, ReadBack}
use Rattle.amqp_base.specs.Shapes.{whole}
use Rattle.amqp_base.specs.Structs.{FieldItem, struct_item, fields_parts}
use Rattle.amqp_base.specs.Typing.{OneValue}
use Rattle.amqp_base.specs.declared.shape.Shape.{Shape}
use Rattle.amqp_base.specs.declared.shape.Setting.TheVariants.{Plain}

-- the key of a field: the string (1.6.20) of its name
abbrev pub is_name : List ℕ → Scalar → Bool
is_name name (string b) = bytes_eq name b
is_name name v = false

abbrev pub is_named : List ℕ → Item → Bool
is_named name (scalar v) = is_name name v
is_named name i = false

-- the value of the first pair under a name
abbrev pub value_of : List ℕ → Pairs → Option Item
value_of name no_pairs = None
value_of name (pair k v ps) = if is_named name k then Some v else value_of name ps

-- the pairs without that one
abbrev pub without : List ℕ → Pairs → Pairs
without name no_pairs = no_pairs
without name (pair k v ps) = if is_named name k then ps else pair k v (without name ps)

abbrev pub taken_value : (Item → Bool) → Option Item → Bool
taken_value takes None = false
taken_value takes (Some i) = takes i

abbrev pub no_pair : Pairs → Bool
no_pair no_pairs = true
no_pair (pair k v ps) = false

-- under each name stands a value that its field takes, and no pair is left
abbrev pub takes_named : List (List ℕ) → List (Item → Bool) → Pairs → Bool
takes_named [] [] ps = no_pair ps
takes_named [] (t ∷ ts) ps = false
takes_named (n ∷ ns) [] ps = false
takes_named (n ∷ ns) (t ∷ ts) ps = taken_value t (value_of n ps) && takes_named ns ts (without n ps)

-- a map of just these fields
unfoldable pub takes_map : List (List ℕ) → List (Item → Bool) → Item → Bool
takes_map names fields (map ps) = takes_named names fields ps
takes_map names fields i = false

-- a list of just these fields in order, or such a map
unfoldable pub takes_struct : List (List ℕ) → List (Item → Bool) → Item → Bool
takes_struct names fields (list is) = all_fields fields is
takes_struct names fields (map ps) = takes_named names fields ps
takes_struct names fields i = false

abbrev pub meant_value : (Item → Type 0) → Option Item → Type 0
meant_value means None = ⊥
meant_value means (Some i) = means i

-- under each name stands a value with the meaning of its field
abbrev pub means_named : List (List ℕ) → List {1} (Item → Type 0) → Pairs → Type 0
means_named [] [] ps = Unit {0}
means_named [] (m ∷ ms) ps = ⊥
means_named (n ∷ ns) [] ps = ⊥
means_named (n ∷ ns) (m ∷ ms) ps = meant_value m (value_of n ps) × means_named ns ms (without n ps)

unfoldable pub means_map : List (List ℕ) → List {1} (Item → Type 0) → Item → Type 0
means_map names fields (map ps) = means_named names fields ps
means_map names fields i = ⊥

unfoldable pub means_struct : List (List ℕ) → List {1} (Item → Type 0) → Item → Type 0
means_struct names fields (list is) = all_meanings fields is
means_struct names fields (map ps) = means_named names fields ps
means_struct names fields i = ⊥

-- ---- Parts that mean two rows of values mean the same, in a list and in a map.

pub record OneRow (names : List (List ℕ)) (P Q : List {1} (Item → Type 0)) (R : Type 0) : Type 0 where
  pub in_list : (is : Items) → all_meanings P is → all_meanings Q is → R
  pub in_map : (ps : Pairs) → means_named names P ps → means_named names Q ps → R

one_meant : {T : Type 0} {means : Item → T → Type 0} {same : T → T → Type 0} → OneValue means same → (v w : T) (o : Option Item) → meant_value (field means v) o → meant_value (field means w) o → same v w
one_meant one v w None p q = absurd p
one_meant one v w (Some i) p q = one i v w p q

pub one_field : {T : Type 0} {means : Item → T → Type 0} {same : T → T → Type 0} {names : List (List ℕ)} {P Q : List {1} (Item → Type 0)} {R : Type 0} (name : List ℕ) → OneValue means same → (v w : T) → OneRow names P Q R
    → OneRow (name ∷ names) (field means v ∷ P) (field means w ∷ Q) (same v w × R)
one_field {P = P} {Q = Q} name one v w rest = record {
  in_list = one_more P Q one v w rest.in_list;
  in_map = λ ps p q. (one_meant one v w (value_of name ps) p.0 q.0, rest.in_map (without name ps) p.1 q.1);
}

pub one_struct : {names : List (List ℕ)} {P Q : List {1} (Item → Type 0)} {R : Type 0} → OneRow names P Q R → (i : Item) → means_struct names P i → means_struct names Q i → R
unfolding means_struct
one_struct rows (list is) p q = rows.in_list is p q
one_struct rows (map ps) p q = rows.in_map ps p q
one_struct rows (scalar v) p q = absurd p
one_struct rows (array is) p q = absurd p
one_struct rows (described d v) p q = absurd p

-- ---- a struct is read back as it was written: as a list of its fields

pub struct_taken : (names : List (List ℕ)) {fields : List (Item → Bool)} (fs : List FieldItem) → TakenBack fields (fields_parts Shape.List fs) → IsTrue (takes_struct names fields (struct_item Plain fs))
unfolding struct_item whole takes_struct
struct_taken names fs h = h.all

pub struct_read : (names : List (List ℕ)) {fields : List {1} (Item → Type 0)} (fs : List FieldItem) → ReadBack fields (fields_parts Shape.List fs) → means_struct names fields (struct_item Plain fs)
unfolding struct_item whole means_struct
struct_read names fs h = h.all
