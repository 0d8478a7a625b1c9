-- What maps mean (1.6.23): pairs of a key and a value in order, where of equal keys the first stays and the last value stands.
use Rattle.std.specs.Prelude.{◌≡◌, Bool, true, false, ◌&&◌, List, [], ◌∷◌, fold, All}
use Rattle.std.specs.Map.{keys_of}
use Rattle.amqp_base.specs.Item.{Item, scalar, list, map, array, described, Pairs, no_pairs, pair}
use Rattle.amqp_base.specs.Typing.{OneValue, all_same}

-- keys and values in turn, each as its item
abbrev pub pair_items : {K V : Type 0} → (K → Item) → (V → Item) → List (K × V) → List Item
pair_items key value [] = []
pair_items key value (p ∷ ps) = key p.0 ∷ value p.1 ∷ pair_items key value ps

-- every key and every value is taken
abbrev pub all_pairs_taken : (Item → Bool) → (Item → Bool) → Pairs → Bool
all_pairs_taken key value no_pairs = true
all_pairs_taken key value (pair k v ps) = key k && value v && all_pairs_taken key value ps

-- a map whose keys and values are taken
abbrev pub is_map_of : (Item → Bool) → (Item → Bool) → Item → Bool
is_map_of key value (map ps) = all_pairs_taken key value ps
is_map_of key value i = false

-- the pairs mean these pairs of values, one each, in order
abbrev pub all_pairs_mean : {K V : Type 0} → (Item → K → Type 0) → (Item → V → Type 0) → Pairs → List (K × V) → Type 0
all_pairs_mean key value no_pairs [] = Unit {0}
all_pairs_mean key value no_pairs (r ∷ rows) = ⊥
all_pairs_mean key value (pair k v ps) [] = ⊥
all_pairs_mean key value (pair k v ps) (r ∷ rows) = key k r.0 × (value v r.1 × all_pairs_mean key value ps rows)

-- the entries of the map into which these pairs are put, one after the other; `put` gives the entries after one more
abbrev pub put_in_turn : {K V : Type 0} → (List (K × V) → K → V → List (K × V)) → List (K × V) → List (K × V)
put_in_turn put rows = fold (λ done r. put done r.0 r.1) [] rows

-- the pairs of an item mean rows of values, and the entries are those rows put one after the other
pub record MeansPairs {K V : Type 0} (key : Item → K → Type 0) (value : Item → V → Type 0) (put : List (K × V) → K → V → List (K × V)) (ps : Pairs) (entries : List (K × V)) : Type 0 where
  pub rows : List (K × V)
  pub mean : all_pairs_mean key value ps rows
  pub placed : entries ≡ put_in_turn put rows

-- a map whose pairs mean the entries
abbrev pub means_map : {K V : Type 0} → (Item → K → Type 0) → (Item → V → Type 0) → (List (K × V) → K → V → List (K × V)) → Item → List (K × V) → Type 0
means_map key value put (map ps) entries = MeansPairs key value put ps entries
means_map key value put i entries = ⊥

-- keys and values are the same
abbrev pub same_pair : {K V : Type 0} → (K → K → Type 0) → (V → V → Type 0) → K × V → K × V → Type 0
same_pair key value p q = key p.0 q.0 × value p.1 q.1

-- The entries of two maps came of rows that are the same. Where the same keys are equal, the entries are then the same, pair
-- by pair: `laws::same_entries`.
pub record SameRows {K V : Type 0} (key : K → K → Type 0) (value : V → V → Type 0) (put : List (K × V) → K → V → List (K × V)) (es fs : List (K × V)) : Type 0 where
  pub rows : List (K × V)
  pub others : List (K × V)
  pub same : all_same (same_pair key value) rows others
  pub placed : es ≡ put_in_turn put rows
  pub others_placed : fs ≡ put_in_turn put others

-- what holds of the entries of every map that a program has: the keys differ, and keys and values are sound
pub record SoundEntries {K V : Type 0} (distinct : List K → Type 0) (key : K → Type 0) (value : V → Type 0) (entries : List (K × V)) : Type 0 where
  pub differ : distinct (keys_of entries)
  pub sound : All (λ e. key e.0 × value e.1) entries

-- Pairs that mean two rows mean the same.
one_rows : {K V : Type 0} (key : Item → K → Type 0) (value : Item → V → Type 0) {same_key : K → K → Type 0} {same_value : V → V → Type 0} → OneValue key same_key → OneValue value same_value
    → (ps : Pairs) (rows others : List (K × V)) → all_pairs_mean key value ps rows → all_pairs_mean key value ps others → all_same (same_pair same_key same_value) rows others
one_rows key value one_key one_value no_pairs [] [] p q = tt
one_rows key value one_key one_value no_pairs [] (w ∷ ws) p q = absurd q
one_rows key value one_key one_value no_pairs (v ∷ vs) ws p q = absurd p
one_rows key value one_key one_value (pair i j ps) [] ws p q = absurd p
one_rows key value one_key one_value (pair i j ps) (v ∷ vs) [] p q = absurd q
one_rows key value one_key one_value (pair i j ps) (v ∷ vs) (w ∷ ws) p q =
    ((one_key i v.0 w.0 p.0 q.0, one_value j v.1 w.1 p.1.0 q.1.0), one_rows key value one_key one_value ps vs ws p.1.1 q.1.1)

-- so a map means the entries of one map
pub one_map : {K V : Type 0} (key : Item → K → Type 0) (value : Item → V → Type 0) {same_key : K → K → Type 0} {same_value : V → V → Type 0} (put : List (K × V) → K → V → List (K × V))
    → OneValue key same_key → OneValue value same_value → (i : Item) (es fs : List (K × V)) → means_map key value put i es → means_map key value put i fs → SameRows same_key same_value put es fs
one_map key value put one_key one_value (map ps) es fs p q = record {
  rows = p.rows;
  others = q.rows;
  same = one_rows key value one_key one_value ps p.rows q.rows p.mean q.mean;
  placed = p.placed;
  others_placed = q.placed;
}
one_map key value put one_key one_value (scalar v) es fs p q = absurd p
one_map key value put one_key one_value (list is) es fs p q = absurd p
one_map key value put one_key one_value (array is) es fs p q = absurd p
one_map key value put one_key one_value (described d v) es fs p q = absurd p
