-- The headers that a writer needs before it writes the parts: outer before inner, left before right.
use Rattle.std.specs.Prelude.{ℕ, List, [], ◌∷◌, ◌++◌, length, Option, None, Some}
use Rattle.amqp_base.specs.Item.{Item, scalar, list, map, array, described, Items, none, more, Pairs, no_pairs, pair, count, in_turn}
use Rattle.amqp_base.specs.Canon.{canons, pair_canons, array_body}

-- the length of a body, which is what stands behind the count, and the count (1.2.3, 1.2.4)
pub record Size : Type 0 where
  pub length : ℕ
  pub count : ℕ

-- the length of bytes, 0 where there are none
abbrev pub length_of : Option (List ℕ) → ℕ
length_of None = 0
length_of (Some b) = length b

-- the size of a body with this count
abbrev pub size_of : Option (List ℕ) → ℕ → Size
size_of b k = record { length = length_of b; count = k }

unfoldable mutual
  -- those of the lists, maps and arrays in an item, in the order in which they open
  pub sizes : Item → List Size
  sizes (scalar v) = []
  sizes (list is) = size_of (canons is) (count is) ∷ sizes_in is
  sizes (map ps) = size_of (pair_canons ps) (count (in_turn ps)) ∷ sizes_in_pairs ps
  sizes (array is) = size_of (array_body is) (count is) ∷ sizes_in is
  sizes (described d v) = sizes v

  -- those in each item in turn
  pub sizes_in : Items → List Size
  sizes_in none = []
  sizes_in (more i is) = sizes i ++ sizes_in is

  -- those in each key and value in turn
  pub sizes_in_pairs : Pairs → List Size
  sizes_in_pairs no_pairs = []
  sizes_in_pairs (pair k v ps) = sizes k ++ (sizes v ++ sizes_in_pairs ps)
