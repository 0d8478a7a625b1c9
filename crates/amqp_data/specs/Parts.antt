-- What stands in front of parts.
use Rattle.std.specs.Prelude.{◌≡◌, ℕ, ◌+◌, ◌*◌, ◌^◌, ◌≤◌, ◌<◌, Bool, List, ◌++◌, length, ◌⊎◌, IsTrue, Option, Some, None}
use Rattle.amqp_base.specs.declared.format_code.EncodingCodes.{EncodingCodes}
use Rattle.amqp_base.specs.Item.{Item, scalar, list, map, array, described, Items, none, more, count, in_turn, items}
use Rattle.amqp_base.specs.Value.{number}
use Rattle.amqp_base.specs.Codes.{code_of}
use Rattle.amqp_base.specs.Wire.{Constructor, bare, under, under_pair, Wire, lenient, Parts}
use Rattle.amqp_base.specs.Laws.{items_under}
use Rattle.amqp_read.specs.Reading.{Reading, Takes}
use Rattle.amqp_base.specs.Parse.{least_size}

abbrev pub Within : Option ℕ → ℕ → Type 0
Within None t = Unit {0}
Within (Some m) t = t ≤ m

-- the item is a list of these parts, as a tuple is
abbrev pub HasParts : Item → Items → Type 0
HasParts (list is) js = is ≡ js
HasParts (array is) js = ⊥
HasParts (scalar v) js = ⊥
HasParts (map ps) js = ⊥
HasParts (described d v) js = ⊥

-- the item is a list or an array of these elements
abbrev pub HasElements : Item → Items → Type 0
HasElements (list is) js = is ≡ js
HasElements (array is) js = is ≡ js
HasElements (scalar v) js = ⊥
HasElements (map ps) js = ⊥
HasElements (described d v) js = ⊥

-- the item is a map of these keys and values, in turn
abbrev pub HasPairs : Item → Items → Type 0
HasPairs (map ps) js = in_turn ps ≡ js
HasPairs (list is) js = ⊥
HasPairs (array is) js = ⊥
HasPairs (scalar v) js = ⊥
HasPairs (described d v) js = ⊥

-- how many items the parts are, under their constructor
abbrev pub items_of_all : Constructor → Items → ℕ
items_of_all c none = 0
items_of_all c (more i is) = items_under c i + items_of_all c is

-- the descriptor that the parts share
abbrev pub shared_by : Constructor → ℕ
shared_by bare = 0
shared_by (under e) = 0
shared_by (under_pair d e) = 1

-- how many items n parts without bytes begin
abbrev pub cost : Constructor → ℕ → ℕ
cost bare n = 0
cost (under e) n = n
cost (under_pair d e) n = 2 * n

-- data of a code were begun, whose parts follow; `Has` says which parts an item has
pub record OpensData (Has : Item → Items → Type 0) (byte : ℕ) (old new : Reading) (c : Constructor) (left : ℕ) (limit : Option ℕ) : Type 0 where
  pub code : EncodingCodes
  pub code_is : code_of byte ≡ Some code
  pub text : List ℕ
  pub step : Takes old new text
  -- the parts behind it make data of the code
  pub whole : (b : List ℕ) (is : Items) → Parts lenient c b is → count is ≡ left → Within limit (new.taken + length b)
      → (i : Item) × Wire lenient (under code) (text ++ b) i × Has i is × (items i ≡ 1 + (shared_by c + items_of_all c is))
  -- and data of the code at the front have their parts behind it
  pub only : (t rest : List ℕ) (i : Item) (is : Items) → Has i is → Wire lenient (under code) t i → old.to_come ≡ Some (t ++ rest)
      → (b : List ℕ) × Parts lenient c b is × (count is ≡ left) × Within limit (new.taken + length b) × (new.to_come ≡ Some (b ++ rest))
  -- its bytes pay for parts that have none
  pub paid : (left ≡ 0) ⊎ (shared_by c + cost c left + 3 ≤ 16384 * length text)
  pub starts : Within limit new.taken
  pub shares : (left ≡ 0) → shared_by c ≡ 0

-- the position at which so many bytes more will have been consumed
abbrev pub limit_at : ℕ → Option ℕ → Option ℕ
limit_at t None = None
limit_at t (Some m) = Some (t + m)

-- w bytes of size and w of count were consumed, which keep the rule of every header
pub record Header (w : ℕ) (is_array : Bool) (z k : ℕ) (old new : Reading) : Type 0 where
  pub zs : List ℕ
  pub ks : List ℕ
  pub len_z : length zs ≡ w
  pub len_k : length ks ≡ w
  pub size : number zs ≡ z
  pub count : number ks ≡ k
  pub step : Takes old new (zs ++ ks)
  pub few : k ≤ 65536
  pub fits : IsTrue is_array → k ≤ z
  pub small : k < 256 ^ w
  pub wide : least_size w is_array k ≤ z
