-- Which bytes spell which item: the encodings of part 1, section 1.2.
use Rattle.std.specs.Prelude.{◌≡◌, ℕ, ◌+◌, ◌-◌, ◌≤◌, List, [], ◌∷◌, ◌++◌, length, take, Some}
use Rattle.amqp_base.specs.declared.format_code.EncodingCodes.{EncodingCodes}
use Rattle.amqp_base.specs.declared.format_code.EncodingCodes.TheVariants.{List0}
use Rattle.amqp_base.specs.declared.format_code.Category.{Category}
use Rattle.amqp_base.specs.declared.format_code.Category.TheVariants.{Fixed, Variable, Compound, Array}
use Rattle.amqp_base.specs.Codes.{Kind, row, code_of}
use Rattle.amqp_base.specs.Item.{Scalar, Descriptor, descriptor_item, Item, scalar, list, map, array, described, Items, none, more, Pairs, count, in_turn}
use Rattle.amqp_base.specs.Value.{number, payload}

-- What a reader takes, and what the standard lets an encoder write: there each size is the number of the bytes behind it.
pub data Rules : Type 0 where
  lenient strict : Rules

-- The constructor that data stands under (1.2): none yet, a primitive code, or a descriptor and a primitive code. One of
-- the latter two stands before the elements of an array (1.2.4).
pub data Constructor : Type 0 where
  bare : Constructor
  under : EncodingCodes → Constructor
  under_pair : Descriptor → EncodingCodes → Constructor

-- Behind a size z stand a count k, w bytes wide, and n bytes of items (1.2.3). A reader only looks whether the size holds
-- the count, and takes no more than 65,536 items: this profile's own rule.
abbrev pub FitsList : Rules → ℕ → ℕ → ℕ → ℕ → Type 0
FitsList lenient w z k n = (w ≤ z) × (k ≤ 65536)
FitsList strict w z k n = z ≡ w + n

-- The same of an array, whose n bytes are those of the element constructor and the elements (1.2.4). A reader takes spare
-- bytes in the size, and no count above the size: this profile's own rule.
abbrev pub FitsArray : Rules → ℕ → ℕ → ℕ → ℕ → Type 0
FitsArray lenient w z k n = (w + n ≤ z) × (k ≤ 65536) × (k ≤ z)
FitsArray strict w z k n = z ≡ w + n

-- An empty array takes as many bytes as its size says, whatever they are, and its count at least: it may have an element
-- constructor or none. This profile's own rule; 1.2.4 has one always.
abbrev pub FitsEmpty : Rules → ℕ → ℕ → ℕ → Type 0
FitsEmpty lenient w z n = n ≡ z - w
FitsEmpty strict w z n = z ≡ w + n

-- the data of an item without parts, under a code of this category (1.2.1, 1.2.2)
pub data ScalarData (e : EncodingCodes) : Category → List ℕ → Scalar → Type 0 where
  fixed : {n : ℕ} {b : List ℕ} {v : Scalar} → length b ≡ n → payload e b ≡ Some v → ScalarData e (Fixed n) b v
  variable : {w : ℕ} (l b : List ℕ) {v : Scalar} → length l ≡ w → number l ≡ length b → payload e b ≡ Some v → ScalarData e (Variable w) (l ++ b) v

-- an item without parts, with its own code (1.2)
pub data ScalarText : List ℕ → Scalar → Type 0 where
  code_and_data : {x : ℕ} {e : EncodingCodes} {b : List ℕ} {v : Scalar} → code_of x ≡ Some e → ScalarData e (row e).category b v → ScalarText (x ∷ b) v

-- a descriptor, with its own code (1.2, 1.5)
abbrev pub DescriptorText : List ℕ → Descriptor → Type 0
DescriptorText a d = ScalarText a (descriptor_item d)

-- The bytes of an array's element constructor: a code; or 0x00, a descriptor and a code (1.2.4). What is described there
-- isn't described again: this profile's own rule.
pub data Spells : List ℕ → Constructor → Type 0 where
  primitive : {x : ℕ} {e : EncodingCodes} → code_of x ≡ Some e → Spells (x ∷ []) (under e)
  pair : (a : List ℕ) (x : ℕ) {d : Descriptor} {e : EncodingCodes} → DescriptorText a d → code_of x ≡ Some e → Spells (0 ∷ a ++ x ∷ []) (under_pair d e)

mutual
  -- The bytes spell the item under the constructor (1.2). Without one they begin with a code, or with 0x00, a descriptor
  -- and an item.
  pub data Wire (r : Rules) : Constructor → List ℕ → Item → Type 0 where
    of_code : {x : ℕ} {e : EncodingCodes} {b : List ℕ} {i : Item} → code_of x ≡ Some e → Wire r (under e) b i → Wire r bare (x ∷ b) i
    of_described : (a b : List ℕ) {d : Descriptor} {v : Item} → DescriptorText a d → Wire r bare b v → Wire r bare (0 ∷ a ++ b) (described d v)
    of_data : {e : EncodingCodes} {b : List ℕ} {i : Item} → Data r e (row e).kind (row e).category b i → Wire r (under e) b i
    of_pair : {d : Descriptor} {e : EncodingCodes} {b : List ℕ} {v : Item} → Wire r (under e) b v → Wire r (under_pair d e) b (described d v)

  -- The bytes are data of the item under a code of this kind and category: as wide as the code says (1.2.1); a length and
  -- a payload (1.2.2); a size, a count and items (1.2.3), for a map keys and values in turn, so an even count (1.6.23); or
  -- a size, a count, an element constructor and the data of each element (1.2.4).
  pub data Data (r : Rules) : EncodingCodes → Kind → Category → List ℕ → Item → Type 0 where
    of_fixed : {e : EncodingCodes} {k : Kind} {n : ℕ} {b : List ℕ} {v : Scalar} → ScalarData e (Fixed n) b v → Data r e k (Fixed n) b (scalar v)
    of_variable : {e : EncodingCodes} {k : Kind} {w : ℕ} {b : List ℕ} {v : Scalar} → ScalarData e (Variable w) b v → Data r e k (Variable w) b (scalar v)
    list0 : Data r List0 Kind.list (Fixed 0) [] (list none)
    of_list : {e : EncodingCodes} {w : ℕ} (z k b : List ℕ) {is : Items} → length z ≡ w → length k ≡ w → number k ≡ count is
        → Parts r bare b is → FitsList r w (number z) (number k) (length b) → Data r e Kind.list (Compound w) (z ++ (k ++ b)) (list is)
    of_map : {e : EncodingCodes} {w : ℕ} (z k b : List ℕ) {ps : Pairs} → length z ≡ w → length k ≡ w → number k ≡ count (in_turn ps)
        → Parts r bare b (in_turn ps) → FitsList r w (number z) (number k) (length b) → Data r e Kind.map (Compound w) (z ++ (k ++ b)) (map ps)
    of_array : {e : EncodingCodes} {w : ℕ} (z k m b : List ℕ) {c : Constructor} {i : Item} {is : Items} → length z ≡ w → length k ≡ w → number k ≡ count (more i is)
        → Spells m c → Parts r c b (more i is) → FitsArray r w (number z) (number k) (length m + length b) → Data r e Kind.array (Array w) (z ++ (k ++ (m ++ b))) (array (more i is))
    empty_array : {e : EncodingCodes} {w : ℕ} (z k b : List ℕ) → length z ≡ w → length k ≡ w → number k ≡ 0
        → FitsEmpty r w (number z) (length b) → Data r e Kind.array (Array w) (z ++ (k ++ b)) (array none)

  -- the bytes are those of the items, one after the other, each under the constructor (1.2.3, 1.2.4)
  pub data Parts (r : Rules) : Constructor → List ℕ → Items → Type 0 where
    no_part : {c : Constructor} → Parts r c [] none
    part : {c : Constructor} (a b : List ℕ) {i : Item} {is : Items} → Wire r c a i → Parts r c b is → Parts r c (a ++ b) (more i is)

-- the first n bytes of s are there, and spell the item: they are the front of s
pub record Front (r : Rules) (c : Constructor) (s : List ℕ) (i : Item) (n : ℕ) : Type 0 where
  pub within : n ≤ length s
  pub spelled : Wire r c (take n s) i
