-- A list of exactly these fields, each of a type of its own.
use Rattle.std.specs.Prelude.{◌≡◌, ℕ, Bool, true, false, ◌&&◌, IsTrue, List, [], ◌∷◌}
use Rattle.std.proofs.Common.{refl}
use Rattle.amqp_base.specs.Item.{Item, scalar, list, map, array, described, Items, none, more, items_of}
use Rattle.amqp_base.specs.ReadBack.{both}
use Rattle.amqp_base.specs.Shapes.{whole}
use Rattle.amqp_base.specs.declared.shape.Shape.{Shape}
use Rattle.amqp_base.specs.Typing.{OneValue, is_null}

-- as many parts as fields, each taken by its field
abbrev pub all_fields : List (Item → Bool) → Items → Bool
all_fields [] none = true
all_fields [] (more i is) = false
all_fields (takes ∷ rest) none = false
all_fields (takes ∷ rest) (more i is) = takes i && all_fields rest is

-- a list whose parts the fields take
unfoldable pub takes_fields : List (Item → Bool) → Item → Bool
takes_fields fields (list is) = all_fields fields is
takes_fields fields i = false

-- an item means this value of a field
abbrev pub field : {T : Type 0} → (Item → T → Type 0) → T → Item → Type 0
field means v i = means i v

-- as many parts as fields, each with the meaning of its field
unfoldable pub all_meanings : List {1} (Item → Type 0) → Items → Type 0
all_meanings [] none = Unit {0}
all_meanings [] (more i is) = ⊥
all_meanings (means ∷ rest) none = ⊥
all_meanings (means ∷ rest) (more i is) = means i × all_meanings rest is

-- a list whose parts mean the fields
unfoldable pub means_fields : List {1} (Item → Type 0) → Item → Type 0
means_fields fields (list is) = all_meanings fields is
means_fields fields i = ⊥

-- Parts that mean two rows of values mean the same.
pub one_more : {T : Type 0} {means : Item → T → Type 0} {same : T → T → Type 0} {R : Type 0} → (P Q : List {1} (Item → Type 0)) → OneValue means same
    → (v w : T) → ((is : Items) → all_meanings P is → all_meanings Q is → R) → (is : Items) → all_meanings (field means v ∷ P) is → all_meanings (field means w ∷ Q) is → same v w × R
unfolding all_meanings
one_more P Q one v w rest none p q = absurd p
one_more P Q one v w rest (more i is) p q = (one i v w p.0 q.0, rest is p.1 q.1)

pub one_fields : {R : Type 0} (P Q : List {1} (Item → Type 0)) → ((is : Items) → all_meanings P is → all_meanings Q is → R) → (i : Item) → means_fields P i → means_fields Q i → R
unfolding means_fields
one_fields P Q rows (list is) p q = rows is p q
one_fields P Q rows (scalar v) p q = absurd p
one_fields P Q rows (map ps) p q = absurd p
one_fields P Q rows (array is) p q = absurd p
one_fields P Q rows (described d v) p q = absurd p

-- ---- a row of values is read back as it was written

-- each item is taken by its field
pub record TakenBack (fields : List (Item → Bool)) (xs : List Item) : Type 0 where
  pub all : IsTrue (all_fields fields (items_of xs))

pub taken_none : TakenBack [] []
taken_none = record { all = refl }

pub taken_more : {takes : Item → Bool} {rest : List (Item → Bool)} {x : Item} {xs : List Item} → IsTrue (takes x) → TakenBack rest xs → TakenBack (takes ∷ rest) (x ∷ xs)
taken_more {takes} {rest} {x} {xs} p q = record { all = both (takes x) (all_fields rest (items_of xs)) p q.all }

-- each item has the meaning of its field
pub record ReadBack (fields : List {1} (Item → Type 0)) (xs : List Item) : Type 0 where
  pub all : all_meanings fields (items_of xs)

pub read_none : ReadBack [] []
unfolding all_meanings
read_none = record { all = tt }

pub read_more : {P : Item → Type 0} {rest : List {1} (Item → Type 0)} {x : Item} {xs : List Item} → P x → ReadBack rest xs → ReadBack (P ∷ rest) (x ∷ xs)
unfolding all_meanings
read_more p q = record { all = (p, q.all) }

-- in a list
pub list_of_taken : {fields : List (Item → Bool)} {xs : List Item} → TakenBack fields xs → IsTrue (takes_fields fields (whole Shape.List xs))
unfolding whole takes_fields
list_of_taken h = h.all

pub list_of_read : {fields : List {1} (Item → Type 0)} {xs : List Item} → ReadBack fields xs → means_fields fields (whole Shape.List xs)
unfolding whole means_fields
list_of_read h = h.all

-- in a tuple
pub tuple_of_taken : (n : ℕ) {fields : List (Item → Bool)} {xs : List Item} → TakenBack fields xs → IsTrue (takes_fields fields (whole (Shape.Tuple n) xs))
unfolding whole takes_fields
tuple_of_taken n h = h.all

pub tuple_of_read : (n : ℕ) {fields : List {1} (Item → Type 0)} {xs : List Item} → ReadBack fields xs → means_fields fields (whole (Shape.Tuple n) xs)
unfolding whole means_fields
tuple_of_read n h = h.all

pub tuple_not_null : (n : ℕ) (xs : List Item) → is_null (whole (Shape.Tuple n) xs) ≡ false
unfolding whole
tuple_not_null n xs = refl
