-- Words for the worked examples.
use Rattle.std.proofs.Common.{◌≡◌, ℕ, zero, suc, ◌-◌, pos, List, [], ◌∷◌, length, Some, None}
use Rattle.amqp_base.specs.Item.{null, uint, int, Item, scalar, Items, none, more}
use Rattle.amqp_base.specs.Wire.{lenient, strict, bare, Front}
use Rattle.amqp_base.proofs.Decides.{reading, reads_front, reads_none}

-- this many bytes at the front of these are read as this item
abbrev pub Reads : List ℕ → Item → ℕ → Type 0
Reads s i n = Front lenient bare s i n

-- nothing that is read stands at the front of these bytes
abbrev pub Refused : List ℕ → Type 0
Refused s = (i : Item) (n : ℕ) → Front lenient bare s i n → ⊥

-- nor a strict form
abbrev pub NotStrict : List ℕ → Type 0
NotStrict s = (i : Item) (n : ℕ) → Front strict bare s i n → ⊥

pub refused : (s : List ℕ) → reading lenient bare s ≡ None → Refused s
refused s h = reads_none lenient bare s h

pub not_strict : (s : List ℕ) → reading strict bare s ≡ None → NotStrict s
not_strict s h = reads_none strict bare s h

pub reads : (s : List ℕ) (i : Item) (rest : List ℕ) → reading lenient bare s ≡ Some (i, rest) → Reads s i (length s - length rest)
reads s i rest h = reads_front lenient bare s rest i h

pub reads_strict : (s : List ℕ) (i : Item) (rest : List ℕ) → reading strict bare s ≡ Some (i, rest) → Front strict bare s i (length s - length rest)
reads_strict s i rest h = reads_front strict bare s rest i h

abbrev pub uint_item : ℕ → Item
uint_item n = scalar (uint n)

abbrev pub int_item : ℕ → Item
int_item n = scalar (int (pos n))

abbrev pub ints : List ℕ → List Item
ints [] = []
ints (n ∷ ns) = int_item n ∷ ints ns

abbrev pub one_item : Item → Items
one_item i = more i none

abbrev pub two_items : Item → Item → Items
two_items i j = more i (more j none)

-- n numbers from k on
abbrev pub from : ℕ → ℕ → List ℕ
from k zero = []
from k (suc n) = k ∷ from (suc k) n

-- n letters a
abbrev pub letters : ℕ → List ℕ
letters zero = []
letters (suc n) = 0x61 ∷ letters n

-- n nulls
unfoldable pub nulls : ℕ → Items
nulls zero = none
nulls (suc n) = more (scalar null) (nulls n)
