-- Elements that are read many at a time.
use Rattle.std.specs.Prelude.{◌≡◌, ◌<◌, ◌+◌, ◌≤◌, Bool, true, false, IsTrue, List, [], ◌∷◌, ◌++◌, length, ℕ, Result, Ok, Err}
use Rattle.amqp_base.specs.declared.error.Error.{Error}
use Rattle.amqp_base.specs.declared.error.Error.TheVariants.{OutOfMemory}
use Rattle.amqp_base.specs.Item.{Item, items}
use Rattle.amqp_base.specs.Meaning.{Meaning}
use Rattle.amqp_base.specs.Wire.{Constructor, Wire, lenient}
use Rattle.amqp_de.specs.Law.{free}
use Rattle.amqp_de.specs.Access.{Listing, Part}

-- from one state of an access to another by the next parts, one each of these values
abbrev pub AreRead : {T : Type 0} → Meaning T → Listing → List T → Listing → Type 0
AreRead m old [] new = new ≡ old
AreRead m old (v ∷ vs) new = (mid : Listing) × Part m.takes (λ i. m.means i v) old mid × AreRead m mid vs new

-- The next parts were read, and their values are behind those that were there; or nothing was done; or there was no memory
-- for a value.
abbrev pub ReadsMany : {T : Type 0} → Meaning T → Listing → List T → Result Bool Error → Listing → List T → Type 0
ReadsMany m old before (Ok true) new after = (vs : List _) × AreRead m old vs new × (after ≡ before ++ vs) × (new.left < old.left)
ReadsMany m old before (Ok false) new after = (new ≡ old) × (after ≡ before)
ReadsMany m old before (Err e) new after = (e ≡ OutOfMemory) × (new ≡ old)

-- the bytes spell one item under the constructor, which means the value; without a constructor they are some
pub record IsElement {T : Type 0} (m : Meaning T) (c : Constructor) (b : List ℕ) (v : T) : Type 0 where
  pub item : Item
  pub spelled : Wire lenient c b item
  pub taken : IsTrue (m.takes item)
  pub value : m.means item v
  pub one : items item ≡ 1
  pub some : 1 ≤ free c + length b

-- the bytes are such elements of the values, one after the other
abbrev pub AreElements : {T : Type 0} → Meaning T → Constructor → List ℕ → List T → Type 0
AreElements m c b [] = b ≡ []
AreElements m c b (v ∷ vs) = (d rest : List ℕ) × (b ≡ d ++ rest) × IsElement m c d v × AreElements m c rest vs

-- n values, which the bytes mean, are behind those that were there
pub record PutBehind {T : Type 0} (m : Meaning T) (c : Constructor) (b : List ℕ) (n : ℕ) (before after : List T) : Type 0 where
  pub values : List T
  pub meant : AreElements m c b values
  pub many : length values ≡ n
  pub items : after ≡ before ++ values
