-- What bytes can spell: finite trees of values.
use Rattle.std.specs.Prelude.{ℕ, suc, ℤ, ◌+◌, ◌≤◌, Bool, List, [], ◌∷◌}

-- an item without parts: a value of a primitive type that holds no others (1.6.1 to 1.6.21)
pub data Scalar : Type 0 where
  null : Scalar
  boolean : Bool → Scalar
  ubyte ushort uint ulong : ℕ → Scalar
  byte short int long : ℤ → Scalar
  -- the bits
  float double : ℕ → Scalar
  -- the bytes
  decimal32 decimal64 decimal128 : List ℕ → Scalar
  -- its code point
  char : ℕ → Scalar
  -- milliseconds
  timestamp : ℤ → Scalar
  -- the bytes
  uuid binary string symbol : List ℕ → Scalar

-- A descriptor is a symbol or a ulong. Other descriptors, which 1.5 reserves, aren't read or written: this profile's own
-- rule.
pub data Descriptor : Type 0 where
  name : List ℕ → Descriptor
  code : ℕ → Descriptor

-- the symbol or ulong that a descriptor is
abbrev pub descriptor_item : Descriptor → Scalar
descriptor_item (name text) = symbol text
descriptor_item (code n) = ulong n

mutual
  -- A value: of a primitive type (1.1.1, 1.6), or described (1.1.2). A list's and an array's items and a map's pairs are in
  -- order (1.6.22 to 1.6.24), and two items are equal only where their orders are.
  pub data Item : Type 0 where
    scalar : Scalar → Item
    list : Items → Item
    map : Pairs → Item
    array : Items → Item
    described : Descriptor → Item → Item

  -- items one after the other
  pub data Items : Type 0 where
    none : Items
    more : Item → Items → Items

  -- the pairs of a map, a key and a value each (1.6.23); keys may repeat
  pub data Pairs : Type 0 where
    no_pairs : Pairs
    pair : Item → Item → Pairs → Pairs

-- how many items
abbrev pub count : Items → ℕ
count none = 0
count (more i is) = suc (count is)

-- keys and values in turn, as they are encoded (1.6.23)
abbrev pub in_turn : Pairs → Items
in_turn no_pairs = none
in_turn (pair k v ps) = more k (more v (in_turn ps))

-- the items of a list of items
abbrev pub items_of : List Item → Items
items_of [] = none
items_of (i ∷ is) = more i (items_of is)

abbrev mutual
  -- The number of items in an item, itself and all descriptors included. The elements of an array share one descriptor.
  pub items : Item → ℕ
  items (scalar v) = 1
  items (list is) = 1 + items_in is
  items (map ps) = 1 + items_in_pairs ps
  items (array is) = 1 + (shared is + elements is)
  items (described d v) = 2 + items v

  -- those of items one after the other
  pub items_in : Items → ℕ
  items_in none = 0
  items_in (more i is) = items i + items_in is

  -- those of keys and values
  pub items_in_pairs : Pairs → ℕ
  items_in_pairs no_pairs = 0
  items_in_pairs (pair k v ps) = items k + (items v + items_in_pairs ps)

  -- those of an array's elements, without their descriptor
  pub elements : Items → ℕ
  elements none = 0
  elements (more (described d v) is) = 1 + items v + elements is
  elements (more i is) = items i + elements is

  -- one for the descriptor that an array's elements share, where they have one
  pub shared : Items → ℕ
  shared (more (described d v) is) = 1
  shared _ = 0

unfoldable mutual
  -- No list or array has more than 65,536 elements, and no map more than 32,768 pairs: more of them aren't read. This
  -- profile's own rule; the standard has room for a count of 4,294,967,295 (1.2.3, 1.2.4).
  pub Capped : Item → Type 0
  Capped (scalar v) = Unit {0}
  Capped (list is) = (count is ≤ 65536) × CappedIn is
  Capped (map ps) = (count (in_turn ps) ≤ 65536) × CappedInPairs ps
  Capped (array is) = (count is ≤ 65536) × CappedIn is
  Capped (described d v) = Capped v

  -- of each item
  pub CappedIn : Items → Type 0
  CappedIn none = Unit {0}
  CappedIn (more i is) = Capped i × CappedIn is

  -- of each key and value
  pub CappedInPairs : Pairs → Type 0
  CappedInPairs no_pairs = Unit {0}
  CappedInPairs (pair k v ps) = Capped k × Capped v × CappedInPairs ps
