-- The texts of numbers and of strings where they stand, one after the other.
use Rattle.std.specs.Prelude.{◌≡◌, ◌⊎◌, ℕ, ◌+◌, ◌≤◌, List, [], ◌∷◌, ◌++◌, length, take, min, Option, Some, Result, Ok, Err, OnOk}
use Rattle.amqp_base.specs.Item.{Item, items_of}
use Rattle.amqp_base.specs.Canon.{◌>>=◌}
use Rattle.amqp_base.specs.Sizes.{sizes, sizes_in}
use Rattle.amqp_base.specs.declared.error.Error.{Error}
use Rattle.amqp_base.specs.declared.shape.Shape.{Shape}
use Rattle.amqp_write.specs.State.{State, Mark, unmarked, first}
use Rattle.amqp_write.specs.Law.{marked}
use Rattle.amqp_write.specs.Appending.{Appended}

-- the text of a number, as the mark has it: no compound opens in it
pub record IsText (m : Mark) (i : Item) (b : List ℕ) : Type 0 where
  pub text : marked m i ≡ Some b
  pub flat : sizes i ≡ []
  pub short : length b ≤ 9

-- the texts of items that all stand under one mark, one after the other
unfoldable pub texts_at : Mark → List Item → Option (List ℕ)
texts_at m [] = Some []
texts_at m (i ∷ is) = marked m i >>= λ a. texts_at m is >>= λ b. Some (a ++ b)

-- the texts of items without parts, one after the other
pub record AreTexts (m : Mark) (is : List Item) (b : List ℕ) : Type 0 where
  pub text : texts_at m is ≡ Some b
  pub flat : sizes_in (items_of is) ≡ []

-- a number has a text of so many bytes
abbrev pub HasTextOf : Mark → Item → ℕ → Type 0
HasTextOf m i n = (b : List ℕ) × IsText m i b × (n ≡ length b)

-- the number's text was counted, and nothing else changed
abbrev pub CountsText : Mark → Item → State → State → Type 0
CountsText m i s t = (b : List ℕ) × IsText m i b × Appended {A = Unit {0}} s b (Ok tt) t

-- they have texts of so many bytes, as far as a usize counts
abbrev pub HaveTextsOf : Mark → List Item → ℕ → Type 0
HaveTextsOf m is n = (b : List ℕ) × AreTexts m is b × (n ≡ min (length b) 18446744073709551615)

-- how many were written, where none was refused
abbrev pub how_many : {E : Type 0} → Result ℕ E → ℕ
how_many (Ok n) = n
how_many (Err e) = 0

-- so many bytes at the front of b are the number's text outside arrays
abbrev pub IsFront : Item → List ℕ → ℕ → Type 0
IsFront i b n = IsText unmarked i (take n b) × (n ≤ length b)

-- the bytes stand in a block from at on, behind what stood there
pub record PutsBytes (bytes : List ℕ) (at : ℕ) (old new : List ℕ) : Type 0 where
  pub long : length new ≡ length old
  pub front : take (at + length bytes) new ≡ take at old ++ bytes

-- the number's text stands in a block from at to end, behind what stood there
pub record Puts (m : Mark) (i : Item) (at : ℕ) (old : List ℕ) (end : ℕ) (new : List ℕ) : Type 0 where
  pub bytes : List ℕ
  pub text : IsText m i bytes
  pub ends : end ≡ at + length bytes
  pub long : length new ≡ length old
  pub front : take end new ≡ take at old ++ bytes

-- the item's text stands in a block from at to end, behind what stood there
pub record PutsText (m : Mark) (i : Item) (at : ℕ) (old : List ℕ) (end : ℕ) (new : List ℕ) : Type 0 where
  pub bytes : List ℕ
  pub texts : AreTexts m (i ∷ []) bytes
  pub ends : end ≡ at + length bytes
  pub long : length new ≡ length old
  pub within : end ≤ length new
  pub front : take end new ≡ take at old ++ bytes

-- the texts stand at the front of a block, up to end
pub record PutsAll (m : Mark) (is : List Item) (old : List ℕ) (end : ℕ) (new : List ℕ) : Type 0 where
  pub texts : AreTexts m is (take end new)
  pub long : length new ≡ length old
  pub within : end ≤ length new

-- the texts were appended; a refusal may leave a front of them
pub record WritesTexts {A : Type 0} (m : Mark) (is : List Item) (s : State) (r : Result A Error) (t : State) : Type 0 where
  pub bytes : List ℕ
  pub texts : OnOk r (AreTexts m is bytes)
  pub appended : Appended s bytes r t

-- texts of so many bytes in all were counted, whichever they are
abbrev pub CountsTexts : ℕ → State → State → Type 0
CountsTexts n s t = (m : Mark) (is : List Item) → HaveTextsOf m is n → WritesTexts {A = Unit {0}} m is s (Ok tt) t

-- the parts that follow stand under this mark: outside arrays, or under the constructor of an array's first element
abbrev pub Stand : Mark → Shape → Mark → Type 0
Stand m shape now = ((shape ≡ Shape.Array → ⊥) × (m ≡ unmarked)) ⊎ ((now ≡ m) × (m ≡ first → ⊥))
