-- Texts of a map's keys and values that are gathered before they are written.
use Rattle.std.specs.Prelude.{◌≡◌, ℕ, List, [], ◌∷◌, ◌++◌, length, map, take, Option}
use Rattle.std.specs.Borrow.{Bor}
use Rattle.std.specs.Iterator.{Drains, Yields}
use Rattle.std.specs.Map.Iter.{deref_pair}
use Rattle.amqp_base.specs.Item.{Item}
use Rattle.amqp_base.specs.Maps.{pair_items}
use Rattle.amqp_base.specs.Meaning.{Meaning}
use Rattle.amqp_base.specs.declared.shape.Setting.TheVariants.{Plain}
use Rattle.amqp_base.specs.declared.shape.Shape.{Shape}
use Rattle.amqp_write.specs.State.{unmarked}
use Rattle.amqp_write.specs.ManyTexts.{AreTexts}
use Rattle.amqp_ser.specs.State.{State}
use Rattle.amqp_ser.specs.Compound.{Open, Holds}
use Rattle.amqp_ser.specs.declared.entries.Gathered.{Gathered}

-- the keys and values of a map that has these entries
abbrev pub items_of_map : {K V : Type 0} → Meaning K → Meaning V → List (K × V) → List Item
items_of_map key value es = pair_items (λ k. key.item k Plain) (λ v. value.item v Plain) es

-- the keys and values of these entries, which are lent
abbrev pub entry_items : {K V : Type 0} → Meaning K → Meaning V → List (Bor K × Bor V) → List Item
entry_items key value es = items_of_map key value (map deref_pair es)

-- an iterator gives these entries, in order
pub record Gives {I K V : Type 0} (next : I → Option (Bor K × Bor V) → I → Type 0) (from : I) (all : List (K × V)) : Type 0 where
  pub whole : (es : List (Bor K × Bor V)) → Drains next from es → map deref_pair es ≡ all
  pub front : (es : List (Bor K × Bor V)) (rest : I) → Yields next from es rest → (left : List (K × V)) × (map deref_pair es ++ left ≡ all)

-- two iterators each give these entries, which are so many
pub record AreGiven {I K V : Type 0} (next : I → Option (Bor K × Bor V) → I → Type 0) (first second : I) (n : ℕ) (all : List (K × V)) : Type 0 where
  pub one : Gives next first all
  pub two : Gives next second all
  pub count : n ≡ length all

pub record HasNone (g : Gathered) : Type 0 where
  pub end : g.end ≡ 0
  pub count : g.count ≡ 0

-- both texts stand in a block from at to end, behind what stood there
pub record PutsTwo (k v : Item) (at : ℕ) (old : List ℕ) (end : ℕ) (new : List ℕ) : Type 0 where
  pub bytes : List ℕ
  pub texts : AreTexts unmarked (k ∷ v ∷ []) bytes
  pub front : take end new ≡ take at old ++ bytes

-- the map was opened on a serializer in the state s, and has the parts xs, of which the texts of the last are gathered in a block
pub record Gathers (s : State) (xs : List Item) (q : Open) (g : Gathered) (block : List ℕ) : Type 0 where
  pub done : List Item
  pub last : List Item
  pub all : xs ≡ done ++ last
  pub holds : Holds s Shape.Map done q
  pub texts : AreTexts unmarked last (take g.end block)
  pub count : g.count ≡ length last
