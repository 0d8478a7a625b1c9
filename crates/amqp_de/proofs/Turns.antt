-- The pairs of a map, and their keys and values in turn.
use Rattle.std.proofs.Common.{◌≡◌, refl, ap, ◌∙◌}
use Rattle.amqp_base.specs.Item.{Item, Items, more, Pairs, no_pairs, pair, in_turn}
use Rattle.amqp_de.specs.ReadParts.{and_last, joined}
use Rattle.amqp_de.specs.ReadPairs.{and_pair}

pub pair_turn : (ps : Pairs) (k v : Item) → in_turn (and_pair ps k v) ≡ and_last (and_last (in_turn ps) k) v
pair_turn no_pairs k v = refl
pair_turn (pair i j ps) k v = ap (λ (x : Items). more i (more j x)) (pair_turn ps k v)

pub one_turn : (ps qs : Pairs) → in_turn ps ≡ in_turn qs → ps ≡ qs
one_turn no_pairs no_pairs h = refl
one_turn no_pairs (pair k l qs) h = absurd cc
one_turn (pair i j ps) no_pairs h = absurd cc
one_turn (pair i j ps) (pair k l qs) h =
    let t : in_turn ps ≡ in_turn qs = cc in
    let a : i ≡ k = cc in
    let b : j ≡ l = cc in
    rw (a, b, one_turn ps qs t) refl

-- ---- pairs behind pairs

abbrev pub and_pairs : Pairs → Pairs → Pairs
and_pairs no_pairs qs = qs
and_pairs (pair k v ps) qs = pair k v (and_pairs ps qs)

pub pairs_last : (ps : Pairs) (k v : Item) (qs : Pairs) → and_pairs (and_pair ps k v) qs ≡ and_pairs ps (pair k v qs)
pairs_last no_pairs k v qs = refl
pairs_last (pair i j ps) k v qs = ap (pair i j) (pairs_last ps k v qs)

pub pairs_none : (ps : Pairs) → and_pairs ps no_pairs ≡ ps
pairs_none no_pairs = refl
pairs_none (pair k v ps) = ap (pair k v) (pairs_none ps)

same_pair : {k i v l : Item} {ps qs : Pairs} → k ≡ i → v ≡ l → ps ≡ qs → pair k v ps ≡ pair i l qs
same_pair {i = i} {v = v} {l = l} {ps = ps} a b c = ap (λ (x : Item). pair x v ps) a ∙ (ap (λ (x : Item). pair i x ps) b ∙ ap (pair i l) c)

-- what stands behind pairs is a key and its value
pub key_and_value : (qs ps : Pairs) (j : Item) (js : Items) → in_turn ps ≡ joined (in_turn qs) (more j js) → (v : Item) × (rs : Pairs) × (ps ≡ and_pairs qs (pair j v rs))
key_and_value no_pairs no_pairs j js e = absurd cc
key_and_value no_pairs (pair k v ps) j js e = let a : k ≡ j = cc in (v, ps, rw a refl)
key_and_value (pair i l qs) no_pairs j js e = absurd cc
key_and_value (pair i l qs) (pair k v ps) j js e =
    let a : k ≡ i = cc in
    let b : v ≡ l = cc in
    let r : in_turn ps ≡ joined (in_turn qs) (more j js) = cc in
    let t = key_and_value qs ps j js r in
    (t.0, t.1, same_pair a b t.2)

-- what stands behind pairs and a key is its value
pub own_value : (qs ps : Pairs) (i j : Item) (js : Items) → in_turn ps ≡ joined (and_last (in_turn qs) i) (more j js) → (rs : Pairs) × (ps ≡ and_pairs qs (pair i j rs))
own_value no_pairs no_pairs i j js e = absurd cc
own_value no_pairs (pair k v ps) i j js e = let a : k ≡ i = cc in let b : v ≡ j = cc in (ps, rw (a, b) refl)
own_value (pair x l qs) no_pairs i j js e = absurd cc
own_value (pair x l qs) (pair k v ps) i j js e =
    let a : k ≡ x = cc in
    let b : v ≡ l = cc in
    let r : in_turn ps ≡ joined (and_last (in_turn qs) i) (more j js) = cc in
    let t = own_value qs ps i j js r in
    (t.0, same_pair a b t.1)
