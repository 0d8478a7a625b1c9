-- What holds of the wire. Each is the contract of a law function.
use Rattle.std.specs.Prelude.{◌≡◌, ℕ, Bool, IsTrue, ◌≤◌, ◌<◌, ◌-◌, ◌*◌, max, List, ◌++◌, length, take, get_or, Some}
use Rattle.amqp_base.specs.Item.{Scalar, binary, string, symbol, descriptor_item, Item, scalar, list, map, array, described, Items, none, more, Pairs, no_pairs, pair, Capped, items}
use Rattle.amqp_base.specs.Wire.{Rules, lenient, strict, Constructor, bare, under, under_pair, Wire, Front}
use Rattle.amqp_base.specs.Canon.{canon}
use Rattle.amqp_base.specs.Raw.{raw}
use Rattle.amqp_base.specs.PlainArrays.{PlainArrays}
use Rattle.amqp_base.specs.Maps.{SameRows, same_pair}
use Rattle.amqp_base.specs.Typing.{all_same}
use Rattle.std.specs.declared.cmp.Ordering.{Ordering}
use Rattle.std.specs.declared.cmp.Ordering.TheVariants.{Equal}

-- bytes have at most one front: no other item, and no other length
abbrev pub OneFront : Rules → Type 0
OneFront r = (c : Constructor) (s : List ℕ) (i j : Item) (m n : ℕ) → Front r c s i m → Front r c s j n → (i ≡ j) × (m ≡ n)

-- where an item is cut short, no item stands
abbrev pub CutShort : Rules → Type 0
CutShort r = (c : Constructor) (s : List ℕ) (i j : Item) (n m k : ℕ) → Front r c s i n → m < n → Front r c (take m s) j k → ⊥

-- a described item whose own value is described
abbrev pub IsTwiceDescribed : Item → Type 0
IsTwiceDescribed (described d (described e v)) = Unit {0}
IsTwiceDescribed _ = ⊥

-- the size fields of a strict text say its length, whatever follows it
abbrev pub RawAgrees : Type 0
RawAgrees = (b : List ℕ) (i : Item) → Wire strict bare b i → (IsTwiceDescribed i → ⊥) → (y : List ℕ) → raw (b ++ y) ≡ Some (length b)

-- a canonical text is a strict form
abbrev pub CanonStrict : Type 0
CanonStrict = (i : Item) (b : List ℕ) → canon i ≡ Some b → Wire strict bare b i

-- and a wire form where no count is too high
abbrev pub CanonWire : Type 0
CanonWire = (i : Item) (b : List ℕ) → canon i ≡ Some b → Capped i → Wire lenient bare b i

-- items with equal canonical texts are equal
abbrev pub CanonOne : Type 0
CanonOne = (i j : Item) (b : List ℕ) → canon i ≡ Some b → canon j ≡ Some b → i ≡ j

-- a payload of 255 bytes has a short form that isn't written
abbrev pub IsUsual : Scalar → Type 0
IsUsual (binary b) = length b ≡ 255 → ⊥
IsUsual (string b) = length b ≡ 255 → ⊥
IsUsual (symbol b) = length b ≡ 255 → ⊥
IsUsual _ = Unit {0}

abbrev mutual
  -- no array, and no payload of 255 bytes, is in the item
  pub Usual : Item → Type 0
  Usual (scalar v) = IsUsual v
  Usual (list is) = UsualIn is
  Usual (map ps) = UsualInPairs ps
  Usual (array is) = ⊥
  Usual (described d v) = IsUsual (descriptor_item d) × Usual v

  -- of each item
  pub UsualIn : Items → Type 0
  UsualIn none = Unit {0}
  UsualIn (more i is) = Usual i × UsualIn is

  -- of each key and value
  pub UsualInPairs : Pairs → Type 0
  UsualInPairs no_pairs = Unit {0}
  UsualInPairs (pair k v ps) = Usual k × Usual v × UsualInPairs ps

-- numbers of a list are bytes
abbrev pub AreBytes : List ℕ → Type 0
AreBytes b = (k : ℕ) → get_or b k 0 < 256

-- no strict form of such an item is shorter than its canonical text
abbrev pub CanonShortest : Type 0
CanonShortest = (i : Item) (t b : List ℕ) → Usual i → canon i ≡ Some t → AreBytes b → Wire strict bare b i → length t ≤ length b

-- what an item that stands under a constructor adds: the descriptor of a pair has been counted
abbrev pub items_under : Constructor → Item → ℕ
items_under bare i = items i
items_under (under e) i = items i
items_under (under_pair d e) i = items i - 1

-- how many items n bytes can spell
abbrev pub most_items : Constructor → ℕ → ℕ
most_items bare n = 16384 * n
most_items (under e) n = max 1 (16384 * n)
most_items (under_pair d e) n = max 2 (16384 * n)

-- a front of n bytes spells few items
abbrev pub ItemsBounded : Type 0
ItemsBounded = (c : Constructor) (s : List ℕ) (i : Item) (n : ℕ) → AreBytes s → Front lenient c s i n → items_under c i ≤ most_items c n

-- how many items n bytes can spell where no array has described elements
abbrev pub most_plain_items : Constructor → ℕ → ℕ
most_plain_items bare n = 8192 * n
most_plain_items (under e) n = max 1 (8192 * n)
most_plain_items (under_pair d e) n = max 2 (8192 * n)

-- such a front of n bytes spells half as many
abbrev pub ItemsBoundedPlain : Type 0
ItemsBoundedPlain = (c : Constructor) (s : List ℕ) (i : Item) (n : ℕ) → AreBytes s → PlainArrays i → Front lenient c s i n → items_under c i ≤ most_plain_items c n

-- a canonical text is read again, whatever follows it
abbrev pub CanonFront : Type 0
CanonFront = (i : Item) (b rest : List ℕ) → canon i ≡ Some b → Capped i → Front lenient bare (b ++ rest) i (length b)

-- so is a sound value of a type whose values are read back
abbrev pub RoundTrips : {T : Type 0} → (T → Type 0) → (T → Item) → (Item → Bool) → (Item → T → Type 0) → Type 0
RoundTrips {T} sound item takes means = (v : T) (b rest : List ℕ) → sound v → canon (item v) ≡ Some b → Capped (item v)
    → Front lenient bare (b ++ rest) (item v) (length b) × IsTrue (takes (item v)) × means (item v) v

-- values that are the same are equal in the order
abbrev pub SameAreEqual : {K : Type 0} → (K → K → Type 0) → (K → K → Ordering) → Type 0
SameAreEqual {K} same cmp = (k l : K) → same k l → cmp k l ≡ Equal

-- two maps that came of the same rows have the same entries, pair by pair
abbrev pub SameEntries : {K V : Type 0} → (K → K → Type 0) → (V → V → Type 0) → (List (K × V) → K → V → List (K × V)) → Type 0
SameEntries {K} {V} key value put = (es fs : List (K × V)) → SameRows key value put es fs → all_same (same_pair key value) es fs
