-- The texts of parts, one more at a time.
use Rattle.std.proofs.Common.{arith, ◌%◌, ◌==◌, ◌≡◌, ℕ, List, [], ◌∷◌, ◌++◌, suc, length, refl, sym, ◌∙◌, ap, subst, Option, Some, None, true, false, Bool, if◌then◌else◌, append_assoc}
use Rattle.std.proofs.lemmas.List.{append-nil}
use Rattle.amqp_base.specs.Item.{Item, items_of, in_turn, count}
use Rattle.amqp_base.specs.Shapes.{pairs_of}
use Rattle.amqp_base.specs.Wire.{Constructor}
use Rattle.amqp_base.specs.Canon.{◌>>=◌, canon, canons, pair_canons, body, bodies, array_body, kind_code, constructor_text, is_under}
use Rattle.amqp_base.specs.declared.shape.Shape.{Shape}
use Rattle.amqp_write.specs.State.{first, other}
use Rattle.amqp_write.specs.Law.{marked, placed}
use Rattle.amqp_write.specs.Wholes.{parts_text, next_mark, other_of, Complete, awaits_value}

pub bind_some : {A B : Type 0} (o : Option A) (f : A → Option B) (y : B) → o >>= f ≡ Some y → (x : A) × (o ≡ Some x) × (f x ≡ Some y)
bind_some None f y h = cc
bind_some (Some x) f y h = (x, refl, h)

none_some : {A : Type 0} (x : A) → Some x ≡ None → ⊥
none_some x h = cc

pub if_some : (t : Bool) (o : Option (List ℕ)) (y : List ℕ) → (if t then o else None) ≡ Some y → (t ≡ true) × (o ≡ Some y)
if_some true o y h = (refl, h)
if_some false o y h = cc

if_none : (t : Bool) (o : Option (List ℕ)) → o ≡ None → (if t then o else None) ≡ None
if_none true o h = h
if_none false o h = refl

then_none : (o : Option (List ℕ)) (r : Option (List ℕ)) → r ≡ None → (o >>= λ a. r >>= λ b. Some (a ++ b)) ≡ None
then_none None r h = refl
then_none (Some a) r h = rw h refl

join_two : (o r : Option (List ℕ)) (x y : List ℕ) → o ≡ Some x → r ≡ Some y → (o >>= λ a. r >>= λ b. Some (a ++ b)) ≡ Some (x ++ y)
join_two o r x y h k = rw (h, k) refl

if_two : (t : Bool) (o r : Option (List ℕ)) (x y : List ℕ) → t ≡ true → o ≡ Some x → r ≡ Some y → (if t then (o >>= λ a. r >>= λ b. Some (a ++ b)) else None) ≡ Some (x ++ y)
if_two t o r x y w h k = rw (w, h, k) refl

join_four : (k : Option Constructor) (c : Constructor) (b : Option (List ℕ)) (r : Constructor → Option (List ℕ)) (m d e : List ℕ) → k ≡ Some c → constructor_text c ≡ Some m → b ≡ Some d → r c ≡ Some e → (k >>= λ f. constructor_text f >>= λ n. b >>= λ a. r f >>= λ z. Some (n ++ (a ++ z))) ≡ Some (m ++ (d ++ e))
join_four k c b r m d e h i j l = rw (h, i, j, l) refl

grouped : (p q a b : List ℕ) → p ++ q ≡ a → p ++ (q ++ b) ≡ a ++ b
grouped p q a b e = sym (append_assoc p q b) ∙ ap (λ z. z ++ b) e

some_is : (x y : List ℕ) → Some x ≡ Some y → x ≡ y
some_is x y h = cc

-- lists
list_more : (xs : List Item) (x : Item) (a b : List ℕ) → canons (items_of xs) ≡ Some a → canon x ≡ Some b → canons (items_of (xs ++ x ∷ [])) ≡ Some (a ++ b)
unfolding canons
list_more [] x a b h k = let e : [] ≡ a = cc in rw (k, sym e, append-nil b) refl
list_more (y ∷ ys) x a b h k =
    let p = bind_some (canon y) _ _ h in
    let q = bind_some (canons (items_of ys)) _ _ p.2 in
    join_two _ _ p.0 (q.0 ++ b) p.1 (list_more ys x q.0 b q.1 k) ∙ ap Some (grouped p.0 q.0 a b (some_is _ _ q.2))

list_none : (xs rest : List Item) (x : Item) → canon x ≡ None → canons (items_of (xs ++ x ∷ rest)) ≡ None
unfolding canons
list_none [] rest x k = rw k refl
list_none (y ∷ ys) rest x k = then_none (canon y) _ (list_none ys rest x k)

-- elements
bodies_more : (c : Constructor) (xs : List Item) (x : Item) (a b : List ℕ) → bodies c (items_of xs) ≡ Some a → placed (other c) (kind_code x) (body x) ≡ Some b → bodies c (items_of (xs ++ x ∷ [])) ≡ Some (a ++ b)
unfolding bodies
bodies_more c [] x a b h k =
    let e : [] ≡ a = cc in
    let p = if_some (is_under c (kind_code x)) (body x) b k in
    if_two _ _ _ b [] p.0 p.1 refl ∙ ap Some (append-nil b ∙ ap (λ z. z ++ b) e)
bodies_more c (y ∷ ys) x a b h k =
    let t = if_some (is_under c (kind_code y)) _ _ h in
    let p = bind_some (body y) _ _ t.1 in
    let q = bind_some (bodies c (items_of ys)) _ _ p.2 in
    if_two _ _ _ p.0 (q.0 ++ b) t.0 p.1 (bodies_more c ys x q.0 b q.1 k) ∙ ap Some (grouped p.0 q.0 a b (some_is _ _ q.2))

refused_body : (t : Bool) (o r : Option (List ℕ)) → (if t then o else None) ≡ None → (if t then (o >>= λ a. r >>= λ b. Some (a ++ b)) else None) ≡ None
refused_body true o r h = rw h refl
refused_body false o r h = refl

bodies_none : (c : Constructor) (xs rest : List Item) (x : Item) → placed (other c) (kind_code x) (body x) ≡ None → bodies c (items_of (xs ++ x ∷ rest)) ≡ None
unfolding bodies
bodies_none c [] rest x k = refused_body (is_under c (kind_code x)) (body x) (bodies c (items_of rest)) k
bodies_none c (y ∷ ys) rest x k = if_none (is_under c (kind_code y)) _ (then_none (body y) _ (bodies_none c ys rest x k))

-- the parts of an array's body
pub array_parts : (y : Item) (ys : List Item) (a : List ℕ) → array_body (items_of (y ∷ ys)) ≡ Some a → (c : Constructor) × (m d e : List ℕ) × (kind_code y ≡ Some c) × (constructor_text c ≡ Some m) × (body y ≡ Some d) × (bodies c (items_of ys) ≡ Some e) × (m ++ (d ++ e) ≡ a)
unfolding array_body
array_parts y ys a h =
    let p = bind_some (kind_code y) _ _ h in
    let q = bind_some (constructor_text p.0) _ _ p.2 in
    let r = bind_some (body y) _ _ q.2 in
    let s = bind_some (bodies p.0 (items_of ys)) _ _ r.2 in
    let e : q.0 ++ (r.0 ++ s.0) ≡ a = cc s.2 in
    (p.0, q.0, r.0, s.0, p.1, q.1, r.1, s.1, e)

array_first : (x : Item) (a : List ℕ) → placed first (kind_code x) (body x) ≡ Some a → array_body (items_of (x ∷ [])) ≡ Some a
unfolding array_body bodies
array_first x a h =
    let p = bind_some (kind_code x) _ _ h in
    let q = bind_some (constructor_text p.0) _ _ p.2 in
    let r = bind_some (body x) _ _ q.2 in
    join_four _ p.0 _ (λ c. Some []) q.0 r.0 [] p.1 q.1 r.1 refl ∙ ap Some (ap (λ z. q.0 ++ z) (append-nil r.0) ∙ some_is _ _ r.2)

array_more : (y : Item) (ys : List Item) (x : Item) (a b : List ℕ) → array_body (items_of (y ∷ ys)) ≡ Some a → marked (other_of (kind_code y)) x ≡ Some b → array_body (items_of (y ∷ (ys ++ x ∷ []))) ≡ Some (a ++ b)
unfolding array_body marked
array_more y ys x a b h k =
    let p = array_parts y ys a h in
    let l : placed (other p.0) (kind_code x) (body x) ≡ Some b = subst (λ o. marked (other_of o) x ≡ Some b) p.4 k in
    join_four _ p.0 _ (λ c. bodies c (items_of (ys ++ x ∷ []))) p.1 p.2 (p.3 ++ b) p.4 p.5 p.6 (bodies_more p.0 ys x p.3 b p.7 l) ∙ ap Some (ap (λ z. p.1 ++ z) (sym (append_assoc p.2 p.3 b)) ∙ grouped p.1 (p.2 ++ p.3) a b p.8)

first_none : (t b r : Option (List ℕ)) → (t >>= λ m. b >>= λ a. Some (m ++ a)) ≡ None → (t >>= λ m. b >>= λ a. r >>= λ e. Some (m ++ (a ++ e))) ≡ None
first_none None b r h = refl
first_none (Some m) None r h = refl
first_none (Some m) (Some a) r h = absurd (none_some _ h)

first_refused : (k : Option Constructor) (b : Option (List ℕ)) (r : Constructor → Option (List ℕ)) → placed first k b ≡ None → (k >>= λ c. constructor_text c >>= λ m. b >>= λ a. r c >>= λ e. Some (m ++ (a ++ e))) ≡ None
first_refused None b r h = refl
first_refused (Some c) b r h = first_none (constructor_text c) b (r c) h

third_none : (b r : Option (List ℕ)) (m : List ℕ) → r ≡ None → (b >>= λ a. r >>= λ e. Some (m ++ (a ++ e))) ≡ None
third_none None r m h = refl
third_none (Some a) r m h = rw h refl

fourth_none : (t b r : Option (List ℕ)) → r ≡ None → (t >>= λ n. b >>= λ a. r >>= λ z. Some (n ++ (a ++ z))) ≡ None
fourth_none None b r h = refl
fourth_none (Some m) b r h = third_none b r m h

known_none : (k : Option Constructor) (c : Constructor) (b : Option (List ℕ)) (r : Constructor → Option (List ℕ)) → k ≡ Some c → r c ≡ None → (k >>= λ f. constructor_text f >>= λ n. b >>= λ a. r f >>= λ z. Some (n ++ (a ++ z))) ≡ None
known_none k c b r h z = rw h (fourth_none (constructor_text c) b (r c) z)

array_none : (y : Item) (ys rest : List Item) (x : Item) (a : List ℕ) → array_body (items_of (y ∷ ys)) ≡ Some a → marked (other_of (kind_code y)) x ≡ None → array_body (items_of (y ∷ (ys ++ x ∷ rest))) ≡ None
unfolding array_body marked
array_none y ys rest x a h k =
    let p = array_parts y ys a h in
    let l : placed (other p.0) (kind_code x) (body x) ≡ None = subst (λ o. marked (other_of o) x ≡ None) p.4 k in
    known_none (kind_code y) p.0 (body y) (λ c. bodies c (items_of (ys ++ x ∷ rest))) p.4 (bodies_none p.0 ys rest x l)

-- a part behind parts
pub parts_more : (shape : Shape) (xs : List Item) (x : Item) (a b : List ℕ) → parts_text shape (items_of xs) ≡ Some a → marked (next_mark shape xs) x ≡ Some b → parts_text shape (items_of (xs ++ x ∷ [])) ≡ Some (a ++ b)
unfolding parts_text next_mark marked array_body
parts_more Shape.List xs x a b h k = list_more xs x a b h k
parts_more (Shape.Tuple n) xs x a b h k = list_more xs x a b h k
parts_more Shape.Map xs x a b h k = list_more xs x a b h k
parts_more Shape.Fields xs x a b h k = list_more xs x a b h k
parts_more Shape.Array [] x a b h k = let e : [] ≡ a = cc in rw (sym e) (array_first x b k)
parts_more Shape.Array (y ∷ ys) x a b h k = array_more y ys x a b h k

pub parts_none : (shape : Shape) (xs rest : List Item) (x : Item) (a : List ℕ) → parts_text shape (items_of xs) ≡ Some a → marked (next_mark shape xs) x ≡ None → parts_text shape (items_of (xs ++ x ∷ rest)) ≡ None
unfolding parts_text next_mark marked array_body
parts_none Shape.List xs rest x a h k = list_none xs rest x k
parts_none (Shape.Tuple n) xs rest x a h k = list_none xs rest x k
parts_none Shape.Map xs rest x a h k = list_none xs rest x k
parts_none Shape.Fields xs rest x a h k = list_none xs rest x k
parts_none Shape.Array [] rest x a h k = first_refused (kind_code x) (body x) (λ c. bodies c (items_of rest)) k
parts_none Shape.Array (y ∷ ys) rest x a h k = array_none y ys rest x a h k

pub true_false : true ≡ false → ⊥
true_false e = cc

-- keys and values in turn have the texts of the pairs
pairs_grouped : (k v r : Option (List ℕ)) → (k >>= λ a. v >>= λ b. r >>= λ t. Some (a ++ (b ++ t))) ≡ (k >>= λ a. (v >>= λ b. r >>= λ t. Some (b ++ t)) >>= λ u. Some (a ++ u))
pairs_grouped None v r = refl
pairs_grouped (Some a) None r = refl
pairs_grouped (Some a) (Some b) None = refl
pairs_grouped (Some a) (Some b) (Some t) = refl

pub pairs_text : (xs : List Item) → Complete true xs → pair_canons (pairs_of xs) ≡ canons (items_of xs)
unfolding canons pair_canons
pairs_text [] c = refl
pairs_text (k ∷ []) c = absurd (true_false c)
pairs_text (k ∷ v ∷ xs) c = rw (pairs_text xs c) (pairs_grouped (canon k) (canon v) (canons (items_of xs)))

pub pairs_count : (xs : List Item) → Complete true xs → count (in_turn (pairs_of xs)) ≡ length xs
pairs_count [] c = refl
pairs_count (k ∷ []) c = absurd (true_false c)
pairs_count (k ∷ v ∷ xs) c = ap (λ n. suc (suc n)) (pairs_count xs c)

-- a key stands last where the number of parts is odd
pub odd_count : (xs : List Item) → (length xs % 2 == 1) ≡ awaits_value xs
odd_count [] = refl
odd_count (k ∷ []) = refl
odd_count (k ∷ v ∷ xs) = let e : suc (suc (length xs)) % 2 ≡ length xs % 2 = omega arith in rw e (odd_count xs)

-- behind a key in turn a value is awaited
pub awaits_more : (xs : List Item) (k : Item) → awaits_value xs ≡ false → awaits_value (xs ++ k ∷ []) ≡ true
awaits_more [] k h = refl
awaits_more (x ∷ []) k h = absurd (true_false h)
awaits_more (x ∷ y ∷ xs) k h = awaits_more xs k h
