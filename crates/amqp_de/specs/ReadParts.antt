-- What was read of an item part by part, each part by a type of its own.
use Rattle.std.specs.Prelude.{◌≡◌, ℕ, ◌+◌, ◌*◌, ◌≤◌, min, Bool, true, false, List, ◌++◌, length, IsTrue, IfErr, Some, Result}
use Rattle.amqp_base.specs.declared.error.Error.{Error}
use Rattle.amqp_base.specs.declared.error.Error.TheVariants.{InvalidValue}
use Rattle.amqp_base.specs.Item.{Item, Items, none, more, count}
use Rattle.amqp_base.specs.Wire.{lenient, Parts}
use Rattle.amqp_base.specs.Fields.{all_fields, takes_fields}
use Rattle.amqp_read.specs.Reading.{Takes}
use Rattle.amqp_de.specs.Decoding.{Decoding, stands_under}
use Rattle.amqp_de.specs.Law.{Missed}
use Rattle.amqp_base.specs.Parse.{item_at, tuple_data, seq_data}
use Rattle.amqp_base.specs.Refusals.{StandsFor}
use Rattle.amqp_base.specs.Typing.{is_seq_of}
use Rattle.amqp_data.specs.Steps.{Rejects}
use Rattle.amqp_de.specs.Seq.{listing, seq_listing}
use Rattle.amqp_de.specs.Access.{Listing, Opens, OpensNot}
use Rattle.amqp_data.specs.Parts.{Within, HasParts, HasElements, items_of_all, cost}
use Rattle.amqp_de.specs.declared.list.Access.{Access}
use Rattle.amqp_de.specs.declared.list.Open.{Open}
use Rattle.amqp_de.specs.declared.seq.SeqAccess.{SeqAccess}

-- one more part behind these
abbrev pub and_last : Items → Item → Items
and_last none i = more i none
and_last (more j js) i = more j (and_last js i)

-- these, and those behind them
abbrev pub joined : Items → Items → Items
joined none js = js
joined (more i is) js = more i (joined is js)

-- an access, as contracts see what was read of it
unfoldable pub open_list : {X F : Type 0} → Access X F Open → Listing
open_list a = listing a

unfoldable pub open_seq : {X : Type 0} → SeqAccess X → Listing
open_seq a = seq_listing a

-- Since an access was `from`, these parts were read. What is left of the parts that stood at the front stands at the front
-- now.
pub record PartsRead (from : Listing) (parts : Items) (now : Listing) : Type 0 where
  pub text : List ℕ
  pub step : Takes from.state.reading now.state.reading text
  pub spelled : Parts lenient from.state.inherited text parts
  pub left : count parts + now.left ≡ from.left
  pub begun : now.state.begun ≡ from.state.begun + items_of_all from.state.inherited parts
  pub inherited : now.state.inherited ≡ from.state.inherited
  pub described : now.state.described ≡ false
  pub outer : now.outer ≡ from.outer
  pub limit : now.limit ≡ from.limit
  pub not_ended : now.state.ended ≡ false
  pub within : Within from.limit now.state.reading.taken
  pub spent : now.state.begun + 16384 * from.state.reading.taken + cost from.state.inherited now.left + min 2 (2 * now.left) ≤ from.state.begun + 16384 * now.state.reading.taken + cost from.state.inherited from.left + min 2 (2 * from.left)
  pub tracks : (is : Items) (x behind : List ℕ) → Parts lenient from.state.inherited x is → count is ≡ from.left → from.state.reading.to_come ≡ Some (x ++ behind)
      → (js : Items) × (y : List ℕ) × Parts lenient from.state.inherited y js × (is ≡ joined parts js) × (count js ≡ now.left) × (now.state.reading.to_come ≡ Some (y ++ behind)) × (now.state.reading.taken + length y ≡ from.state.reading.taken + length x)

-- Since `old` a list was opened, and these parts of it were read. A list of the fields `all` has the fields `rest` behind
-- them.
pub record Progress (old : Decoding) (all rest : List (Item → Bool)) (parts : Items) (now : Listing) : Type 0 where
  pub from : Listing
  pub opened : Opens HasParts old from
  pub reads : PartsRead from parts now
  pub fields : (js : Items) → all_fields all (joined parts js) ≡ all_fields rest js

-- one more part was read, of this meaning
pub record MoreRead (old : Decoding) (all rest : List (Item → Bool)) (parts : Items) (means : Item → Type 0) (now : Listing) : Type 0 where
  pub item : Item
  pub meant : means item
  pub more : Progress old all rest (and_last parts item) now

-- no list and no array was opened: so one of any elements is missed
pub record RefusesElements (buffers : Bool) (old last : Decoding) (e : Error) : Type 0 where
  pub not_opened : (custom : Error) → StandsFor custom e → OpensNot HasElements (seq_data custom) true buffers old last e
  pub missed : (takes : Item → Bool) → Missed (is_seq_of takes) true buffers old last e

-- no list of just so many parts was opened: so one of as many fields is missed, and want of memory is no excuse
pub record NoTuple (len : ℕ) (buffers : Bool) (old last : Decoding) (e : Error) : Type 0 where
  -- where it is ended the call changes nothing
  pub if_ended : IsTrue old.ended → (e ≡ InvalidValue) × (last ≡ old)
  pub rejects : old.ended ≡ false → Rejects buffers buffers (item_at (tuple_data len) (stands_under old)) old.reading last.reading e
  pub ended : IsTrue last.ended
  pub missed : (fields : List (Item → Bool)) → length fields ≡ len → Missed (takes_fields fields) buffers buffers old last e

-- the same of a call's answer
pub record RefusesTuple {A : Type 0} (len : ℕ) (buffers : Bool) (old : Decoding) (r : Result A Error) (last : Decoding) : Type 0 where
  pub unopened : IfErr r (λ e. NoTuple len buffers old last e)
  pub law : IfErr r (λ e. (fields : List (Item → Bool)) (grows : Bool) → length fields ≡ len → (IsTrue buffers → IsTrue grows) → Missed (takes_fields fields) grows buffers old last e)
