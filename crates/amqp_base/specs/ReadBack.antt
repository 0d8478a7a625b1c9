-- A value's own item is read as that value.
use Rattle.std.specs.Prelude.{◌≡◌, Bool, true, false, ◌&&◌, ◌||◌, IsTrue, List, [], ◌∷◌, map, All}
use Rattle.std.proofs.Common.{refl}
use Rattle.std.proofs.lemmas.Bool.{eq-eqb}
use Rattle.std.proofs.lemmas.List.Elements.{All-head, All-tail}
use Rattle.amqp_base.specs.SameKind.{place, same_kind}
use Rattle.amqp_base.specs.Canon.{kind_of}
use Rattle.amqp_base.specs.Item.{Item, Scalar, scalar, items_of}
use Rattle.amqp_base.specs.Shapes.{whole}
use Rattle.amqp_base.specs.Typing.{is_of, is_null, all_taken, all_mean, is_seq_of, means_seq, takes_array, means_array}
use Rattle.amqp_base.specs.declared.shape.Shape.{Shape}

-- an item without parts is of its own kind
pub of_own_kind : (v : Scalar) → IsTrue (is_of (kind_of v) (scalar v))
unfolding same_kind
of_own_kind v = eq-eqb (place (kind_of v)) (place (kind_of v)) refl

-- what holds of both, and of the second of two
pub both : (a b : Bool) → IsTrue a → IsTrue b → IsTrue (a && b)
both true b p q = q
both false b p q = p

pub second : (a b : Bool) → IsTrue b → IsTrue (a || b)
second true b h = refl
second false b h = h

-- parts that are taken and mean the values, where each value is sound
all_taken_back : {T : Type 0} (takes : Item → Bool) (item : T → Item) (sound : T → Type 0) → ((v : T) → sound v → IsTrue (takes (item v))) → (vs : List T) → All sound vs → IsTrue (all_taken takes (items_of (map item vs)))
all_taken_back takes item sound h [] s = refl
all_taken_back takes item sound h (v ∷ vs) s = both (takes (item v)) (all_taken takes (items_of (map item vs))) (h v (All-head sound v vs s)) (all_taken_back takes item sound h vs (All-tail sound v vs s))

all_read_back : {T : Type 0} (means : Item → T → Type 0) (item : T → Item) (sound : T → Type 0) → ((v : T) → sound v → means (item v) v) → (vs : List T) → All sound vs → all_mean means (items_of (map item vs)) vs
all_read_back means item sound h [] s = tt
all_read_back means item sound h (v ∷ vs) s = (h v (All-head sound v vs s), all_read_back means item sound h vs (All-tail sound v vs s))

-- a list of items that are taken is taken
pub list_taken_back : {T : Type 0} (takes : Item → Bool) (item : T → Item) (sound : T → Type 0) → ((v : T) → sound v → IsTrue (takes (item v))) → (vs : List T) → All sound vs
    → IsTrue (is_seq_of takes (whole Shape.List (map item vs)))
unfolding whole
list_taken_back takes item sound h vs s = all_taken_back takes item sound h vs s

-- and means the values
pub list_read_back : {T : Type 0} (means : Item → T → Type 0) (item : T → Item) (sound : T → Type 0) → ((v : T) → sound v → means (item v) v) → (vs : List T) → All sound vs
    → means_seq means (whole Shape.List (map item vs)) vs
unfolding whole
list_read_back means item sound h vs s = all_read_back means item sound h vs s

-- a list isn't null
pub list_not_null : (is : List Item) → is_null (whole Shape.List is) ≡ false
unfolding whole
list_not_null is = refl

-- the same of arrays
pub array_taken_back : {T : Type 0} (takes : Item → Bool) (item : T → Item) (sound : T → Type 0) → ((v : T) → sound v → IsTrue (takes (item v))) → (vs : List T) → All sound vs
    → IsTrue (takes_array takes (whole Shape.Array (map item vs)))
unfolding whole
array_taken_back takes item sound h vs s = all_taken_back takes item sound h vs s

pub array_read_back : {T : Type 0} (means : Item → T → Type 0) (item : T → Item) (sound : T → Type 0) → ((v : T) → sound v → means (item v) v) → (vs : List T) → All sound vs
    → means_array means (whole Shape.Array (map item vs)) vs
unfolding whole
array_read_back means item sound h vs s = all_read_back means item sound h vs s

pub array_not_null : (is : List Item) → is_null (whole Shape.Array is) ≡ false
unfolding whole
array_not_null is = refl
