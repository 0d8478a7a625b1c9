-- Why a whole isn't written: by its first part that has no text, else by its body.
use Rattle.std.proofs.Common.{◌≡◌, ℕ, List, [], ◌∷◌, ◌++◌, length, refl, subst, Option, Some, None, true}
use Rattle.amqp_base.specs.Item.{Item, items_of}
use Rattle.amqp_base.specs.Shapes.{whole, pairs_of}
use Rattle.amqp_base.specs.Wire.{Constructor}
use Rattle.amqp_base.specs.Canon.{canon, canons, body, bodies, array_body, kind_code, constructor_text, is_under}
use Rattle.amqp_base.specs.declared.shape.Shape.{Shape}
use Rattle.amqp_write.specs.State.{unmarked, first, other}
use Rattle.amqp_write.specs.Texts.{marked, placed, other_of, unwritten, why_unwritten, why_part, why_pair}
use Rattle.amqp_write.specs.Wholes.{parts_text, next_mark, Complete, is_map}
use Rattle.amqp_write.proofs.PartTexts.{bind_some, if_some, array_parts, pairs_text, true_false}

-- lists
list_why : (xs rest : List Item) (x : Item) (a : List ℕ) → canons (items_of xs) ≡ Some a → canon x ≡ None → why_part unmarked (items_of (xs ++ x ∷ rest)) ≡ Some (why_unwritten x)
unfolding canons why_part marked
list_why [] rest x a h k = rw k refl
list_why (y ∷ ys) rest x a h k =
    let p = bind_some (canon y) _ _ h in
    let q = bind_some (canons (items_of ys)) _ _ p.2 in
    rw p.1 (list_why ys rest x q.0 q.1 k)

list_all : (xs : List Item) (a : List ℕ) → canons (items_of xs) ≡ Some a → why_part unmarked (items_of xs) ≡ None
unfolding canons why_part marked
list_all [] a h = refl
list_all (y ∷ ys) a h =
    let p = bind_some (canon y) _ _ h in
    let q = bind_some (canons (items_of ys)) _ _ p.2 in
    rw p.1 (list_all ys q.0 q.1)

-- elements
bodies_why : (c : Constructor) (xs rest : List Item) (x : Item) (a : List ℕ) → bodies c (items_of xs) ≡ Some a → placed (other c) (kind_code x) (body x) ≡ None → why_part (other c) (items_of (xs ++ x ∷ rest)) ≡ Some (why_unwritten x)
unfolding bodies why_part marked
bodies_why c [] rest x a h k = rw k refl
bodies_why c (y ∷ ys) rest x a h k =
    let t = if_some (is_under c (kind_code y)) _ _ h in
    let p = bind_some (body y) _ _ t.1 in
    let q = bind_some (bodies c (items_of ys)) _ _ p.2 in
    rw (t.0, p.1) (bodies_why c ys rest x q.0 q.1 k)

bodies_all : (c : Constructor) (xs : List Item) (a : List ℕ) → bodies c (items_of xs) ≡ Some a → why_part (other c) (items_of xs) ≡ None
unfolding bodies why_part marked
bodies_all c [] a h = refl
bodies_all c (y ∷ ys) a h =
    let t = if_some (is_under c (kind_code y)) _ _ h in
    let p = bind_some (body y) _ _ t.1 in
    let q = bind_some (bodies c (items_of ys)) _ _ p.2 in
    rw (t.0, p.1) (bodies_all c ys q.0 q.1)

placed_first : (k : Option Constructor) (c : Constructor) (b : Option (List ℕ)) (m d : List ℕ) → k ≡ Some c → constructor_text c ≡ Some m → b ≡ Some d → placed first k b ≡ Some (m ++ d)
placed_first k c b m d h i j = rw (h, i, j) refl

array_why : (y : Item) (ys rest : List Item) (x : Item) (a : List ℕ) → array_body (items_of (y ∷ ys)) ≡ Some a → marked (other_of (kind_code y)) x ≡ None → why_part first (items_of (y ∷ (ys ++ x ∷ rest))) ≡ Some (why_unwritten x)
unfolding marked why_part
array_why y ys rest x a h k =
    let p = array_parts y ys a h in
    let l : placed (other p.0) (kind_code x) (body x) ≡ None = subst (λ o. marked (other_of o) x ≡ None) p.4 k in
    rw (placed_first (kind_code y) p.0 (body y) p.1 p.2 p.4 p.5 p.6, p.4) (bodies_why p.0 ys rest x p.3 p.7 l)

array_all : (xs : List Item) (a : List ℕ) → array_body (items_of xs) ≡ Some a → why_part first (items_of xs) ≡ None
unfolding marked why_part
array_all [] a h = refl
array_all (y ∷ ys) a h =
    let p = array_parts y ys a h in
    rw (placed_first (kind_code y) p.0 (body y) p.1 p.2 p.4 p.5 p.6, p.4) (bodies_all p.0 ys p.3 p.7)

-- keys and values in turn
pair_why : (xs : List Item) → Complete true xs → why_pair (pairs_of xs) ≡ why_part unmarked (items_of xs)
unfolding why_part why_pair marked
pair_why [] c = refl
pair_why (k ∷ []) c = absurd (true_false c)
pair_why (k ∷ v ∷ xs) c = rw (pair_why xs c) refl

-- a whole is refused as its first part that has no text
pub part_why : (shape : Shape) (xs rest : List Item) (x : Item) (a : List ℕ) → parts_text shape (items_of xs) ≡ Some a → marked (next_mark shape xs) x ≡ None → Complete (is_map shape) (xs ++ x ∷ rest) → why_unwritten (whole shape (xs ++ x ∷ rest)) ≡ why_unwritten x
unfolding whole parts_text next_mark marked why_unwritten why_part
part_why Shape.List xs rest x a h k c = rw (list_why xs rest x a h k) refl
part_why (Shape.Tuple n) xs rest x a h k c = rw (list_why xs rest x a h k) refl
part_why Shape.Map xs rest x a h k c = rw (pair_why (xs ++ x ∷ rest) c, list_why xs rest x a h k) refl
part_why Shape.Fields xs rest x a h k c = rw (pair_why (xs ++ x ∷ rest) c, list_why xs rest x a h k) refl
part_why Shape.Array [] rest x a h k c = rw k refl
part_why Shape.Array (y ∷ ys) rest x a h k c = rw (array_why y ys rest x a h k) refl

-- a whole whose parts have a text is refused by the length of its body
pub body_why : (shape : Shape) (xs : List Item) (b : List ℕ) → parts_text shape (items_of xs) ≡ Some b → Complete (is_map shape) xs → why_unwritten (whole shape xs) ≡ unwritten (length b)
unfolding whole parts_text why_unwritten
body_why Shape.List xs b h c = rw (list_all xs b h, h) refl
body_why (Shape.Tuple n) xs b h c = rw (list_all xs b h, h) refl
body_why Shape.Map xs b h c = rw (pair_why xs c, list_all xs b h, pairs_text xs c, h) refl
body_why Shape.Fields xs b h c = rw (pair_why xs c, list_all xs b h, pairs_text xs c, h) refl
body_why Shape.Array xs b h c = rw (array_all xs b h, h) refl
