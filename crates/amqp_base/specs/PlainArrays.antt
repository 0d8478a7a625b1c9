-- Items whose arrays have elements that aren't described.
use Rattle.amqp_base.specs.Item.{Item, scalar, list, map, array, described, Items, none, more, Pairs, no_pairs, pair}

-- it has no descriptor of its own
abbrev pub NotDescribed : Item → Type 0
NotDescribed (described d v) = ⊥
NotDescribed _ = Unit {0}

abbrev mutual
  -- no array in the item has described elements (1.2.4)
  pub PlainArrays : Item → Type 0
  PlainArrays (scalar v) = Unit {0}
  PlainArrays (list is) = PlainArraysIn is
  PlainArrays (map ps) = PlainArraysInPairs ps
  PlainArrays (array is) = PlainElements is
  PlainArrays (described d v) = PlainArrays v

  -- of each item
  pub PlainArraysIn : Items → Type 0
  PlainArraysIn none = Unit {0}
  PlainArraysIn (more i is) = PlainArrays i × PlainArraysIn is

  -- of each key and value
  pub PlainArraysInPairs : Pairs → Type 0
  PlainArraysInPairs no_pairs = Unit {0}
  PlainArraysInPairs (pair k v ps) = PlainArrays k × PlainArrays v × PlainArraysInPairs ps

  -- of each element of an array, which isn't described itself
  pub PlainElements : Items → Type 0
  PlainElements none = Unit {0}
  PlainElements (more i is) = NotDescribed i × PlainArrays i × PlainElements is
