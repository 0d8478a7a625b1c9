-- What whole calls promise.
use Rattle.std.specs.Prelude.{◌≡◌, ◌⊎◌, ℕ, Bool, IsTrue, List, Some, Result, Ok, Err}
use Rattle.amqp_base.specs.Item.{Item, Capped}
use Rattle.amqp_base.specs.Canon.{canon}
use Rattle.amqp_base.specs.Meaning.{Meaning}
use Rattle.amqp_base.specs.declared.shape.Setting.TheVariants.{Plain}
use Rattle.amqp_base.specs.Wire.{Front, lenient, bare}
use Rattle.amqp_base.specs.declared.error.Error.{Error}
use Rattle.amqp_base.specs.declared.error.Error.TheVariants.{OutOfMemory}

-- a front of the bytes spells an item that the type takes, and that means the value
pub record ReadFrom (takes : Item → Bool) (means : Item → Type 0) (s : List ℕ) : Type 0 where
  pub item : Item
  pub length : ℕ
  pub front : Front lenient bare s item length
  pub taken : IsTrue (takes item)
  pub value : means item

-- the answer where the item stands at the front: its value, or want of memory where the type grows
abbrev pub Answered : {T : Type 0} → (Item → T → Type 0) → Bool → Item → Result T Error → Type 0
Answered means grows i (Ok v) = means i v
Answered means grows i (Err e) = (e ≡ OutOfMemory) × IsTrue grows

-- every item that the type takes and that stands at the front is answered
pub record ReadsAll {T : Type 0} (takes : Item → Bool) (means : Item → T → Type 0) (grows : Bool) (s : List ℕ) (result : Result T Error) : Type 0 where
  pub answer : (i : Item) (n : ℕ) → Front lenient bare s i n → IsTrue (takes i) → Answered means grows i result

-- a refusal that the type makes of the bytes, or want of memory where the type grows
abbrev pub NamedFrom : {T : Type 0} → Meaning T → List ℕ → Error → Type 0
NamedFrom m s e = m.refuses bare s e ⊎ ((e ≡ OutOfMemory) × IsTrue m.grows)

-- the same value, or want of memory where the type grows
abbrev pub SameAgain : {T : Type 0} → (T → T → Type 0) → Bool → T → Result T Error → Type 0
SameAgain same grows v (Ok w) = same v w
SameAgain same grows v (Err e) = (e ≡ OutOfMemory) × IsTrue grows

-- these bytes, where they were written for a sound value, are read as the same value
abbrev pub KeptAs : {T : Type 0} → Meaning T → List ℕ → Result T Error → Type 0
KeptAs {T} m s result = (v : T) → m.sound v → canon (m.item v Plain) ≡ Some s → Capped (m.item v Plain)
    → SameAgain m.same m.grows v result

-- so is what was written for every sound value
abbrev pub Kept : {T : Type 0} → Meaning T → Type 0
Kept {T} m = (s : List ℕ) (result : Result T Error) → ReadsAll m.takes m.means m.grows s result → KeptAs m s result
