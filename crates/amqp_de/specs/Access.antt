-- An access to the parts of an item, and what its calls give.
use Rattle.std.specs.Prelude.{◌≡◌, ℕ, suc, ◌+◌, ◌*◌, ◌≤◌, ◌<◌, min, Bool, false, List, ◌++◌, length, ◌⊎◌, IsTrue, Option, Some, None, Result, Ok, Err}
use Rattle.amqp_base.specs.declared.format_code.EncodingCodes.{EncodingCodes}
use Rattle.amqp_base.specs.Item.{Item, Items, count}
use Rattle.amqp_base.specs.Wire.{Constructor, bare, Wire, lenient, Parts}
use Rattle.amqp_base.specs.Laws.{items_under}
use Rattle.amqp_base.specs.Refusals.{IsDevice}
use Rattle.amqp_base.specs.Refusing.{Refusing}
use Rattle.amqp_base.specs.declared.error.Error.{Error}
use Rattle.amqp_base.specs.declared.error.Error.TheVariants.{InvalidValue, OutOfMemory, SequenceLengthMismatch}
use Rattle.amqp_read.specs.Reading.{Takes}
use Rattle.amqp_de.specs.Decoding.{Decoding, stands_under}
use Rattle.amqp_de.specs.Law.{Front, Spent, free, refused_free}
use Rattle.amqp_data.specs.Excuses.{Excused, Advances}
use Rattle.amqp_base.specs.Parse.{Parsed, item_at, seq_data}
use Rattle.amqp_de.specs.Look.{looked_at}
use Rattle.amqp_data.specs.Steps.{Rejects}
use Rattle.amqp_data.specs.Parts.{Within, items_of_all, cost, limit_at}

-- an open access
pub record Listing : Type 0 where
  -- its deserializer, whose inherited constructor is that of the parts
  pub state : Decoding
  -- how many parts are left
  pub left : ℕ
  -- the constructor that was inherited before it was opened
  pub outer : Constructor
  -- the position at which the parts must have ended
  pub limit : Option ℕ

-- an item with parts was begun
pub record Opens (Has : Item → Items → Type 0) (old : Decoding) (l : Listing) : Type 0 where
  pub text : List ℕ
  pub step : Takes old.reading l.state.reading text
  pub whole : (b : List ℕ) (is : Items) → Parts lenient l.state.inherited b is → count is ≡ l.left → Within l.limit (l.state.reading.taken + length b)
      → (i : Item) × Wire lenient (stands_under old) (text ++ b) i × Has i is × (old.begun + items_under (stands_under old) i ≡ l.state.begun + items_of_all l.state.inherited is)
  pub only : (t rest : List ℕ) (i : Item) (is : Items) → Has i is → Wire lenient (stands_under old) t i → old.reading.to_come ≡ Some (t ++ rest)
      → (b : List ℕ) × Parts lenient l.state.inherited b is × (count is ≡ l.left) × Within l.limit (l.state.reading.taken + length b) × (l.state.reading.to_come ≡ Some (b ++ rest))
  -- a byte that a look would show is the item's own
  pub own : looked_at (stands_under old) ≤ length text
  pub before : old.ended ≡ false
  pub outer : l.outer ≡ old.inherited
  pub described : l.state.described ≡ false
  pub not_ended : l.state.ended ≡ false
  pub starts : Within l.limit l.state.reading.taken
  pub spent : l.state.begun + 16384 * old.reading.taken + cost l.state.inherited l.left + min 2 (2 * l.left) ≤ old.begun + 16384 * l.state.reading.taken + free (stands_under old)

-- the number of parts is what the bytes say
pub record OpensExactly (parse : EncodingCodes → List ℕ → Parsed ℕ) (old : Decoding) (l : Listing) : Type 0 where
  pub exact : (s : List ℕ) → old.reading.to_come ≡ Some s → (rest : List ℕ) × (l.state.reading.to_come ≡ Some rest) × (item_at parse (stands_under old) s ≡ Ok (l.left, rest))

-- what stands in front of the elements of a list or an array is what the bytes say
pub record OpensHeading (is_array : Bool) (old : Decoding) (l : Listing) : Type 0 where
  pub room : Option ℕ
  pub limit : l.limit ≡ limit_at l.state.reading.taken room
  pub exact : (s : List ℕ) → old.reading.to_come ≡ Some s
      → (rest : List ℕ) × (l.state.reading.to_come ≡ Some rest) × ((custom : Error) → item_at (seq_data custom) (stands_under old) s ≡ Ok (record { of_array = is_array; count = l.left; stands = l.state.inherited; room = room }, rest))

-- no item with parts was begun
pub record OpensNot {A : Type 0} (Has : Item → Items → Type 0) (parse : EncodingCodes → List ℕ → Parsed A) (grows buffers : Bool) (old new : Decoding) (err : Error) : Type 0 where
  -- where it is ended the call changes nothing
  pub if_ended : IsTrue old.ended → (err ≡ InvalidValue) × (new ≡ old)
  pub rejects : old.ended ≡ false → Rejects grows buffers (item_at parse (stands_under old)) old.reading new.reading err
  pub why : (t rest : List ℕ) (i : Item) (is : Items) → Has i is → Wire lenient (stands_under old) t i → old.reading.to_come ≡ Some (t ++ rest) → IsTrue old.reading.honest → old.ended ≡ false → Excused grows buffers old.reading new.reading err
  pub steady : Advances old.reading new.reading
  pub device : IsDevice err → old.reading.faults < new.reading.faults
  pub memory : err ≡ OutOfMemory → IsTrue grows
  pub ended : IsTrue new.ended
  pub few : old.ended ≡ false → new.begun ≡ old.begun + 1

-- the next part
pub record Part (takes : Item → Bool) (means : Item → Type 0) (old new : Listing) : Type 0 where
  pub front : Front takes means old.state new.state
  pub within : Within old.limit new.state.reading.taken
  pub spent : Spent (free (stands_under old.state)) old.state new.state
  pub left : old.left ≡ suc new.left
  pub outer : new.outer ≡ old.outer
  pub limit : new.limit ≡ old.limit

-- a part that is refused
pub record NoPart (takes : Item → Bool) (grows buffers : Bool) (old new : Listing) (err : Error) : Type 0 where
  pub if_ended : IsTrue old.state.ended → (err ≡ InvalidValue) × (new ≡ old)
  pub ended : IsTrue new.state.ended
  pub steady : Advances old.state.reading new.state.reading
  pub device : IsDevice err → old.state.reading.faults < new.state.reading.faults
  pub memory : err ≡ OutOfMemory → IsTrue grows
  pub spent : old.state.ended ≡ false → Spent (refused_free (stands_under old.state)) old.state new.state
  pub some_left : old.state.ended ≡ false → 0 < old.left
  pub why : (i : Item) (text rest : List ℕ) → Wire lenient (stands_under old.state) text i → IsTrue (takes i) → old.state.reading.to_come ≡ Some (text ++ rest) → Within old.limit (old.state.reading.taken + length text)
      → IsTrue old.state.reading.honest → old.state.ended ≡ false → Excused grows buffers old.state.reading new.state.reading err

-- a part that is taken goes past the position at which the parts must have ended
pub record PassesEnd (takes : Item → Bool) (old : Listing) (s : List ℕ) (err : Error) : Type 0 where
  pub item : Item
  pub text : List ℕ
  pub rest : List ℕ
  pub spelled : Wire lenient (stands_under old.state) text item
  pub taken : IsTrue (takes item)
  pub split : s ≡ text ++ rest
  pub past : Within old.limit (old.state.reading.taken + length text) → ⊥
  pub named : err ≡ InvalidValue

-- of known bytes a part is refused as its type refuses them, or as it goes past the end, but for the excuses
pub record PartNamed (takes : Item → Bool) (refuses : Refusing) (grows buffers : Bool) (old new : Listing) (err : Error) : Type 0 where
  pub why : old.state.ended ≡ false → (s : List ℕ) → old.state.reading.to_come ≡ Some s → IsTrue old.state.reading.honest
      → (refuses (stands_under old.state) s err ⊎ PassesEnd takes old s err) ⊎ Excused grows buffers old.state.reading new.state.reading err

-- the parts have constructors of their own, and may take any number of bytes
pub record Plain (l : Listing) : Type 0 where
  pub inherited : l.state.inherited ≡ bare
  pub limit : l.limit ≡ None

-- the next part, or none where none is left
abbrev pub Next : {T : Type 0} → (Item → Bool) → (Item → T → Type 0) → Bool → Bool → Listing → Result (Option T) Error → Listing → Type 0
Next takes means grows buffers old (Ok None) new = (old.left ≡ 0) × (new ≡ old) × (old.state.ended ≡ false)
Next takes means grows buffers old (Ok (Some v)) new = Part takes (λ i. means i v) old new × (old.state.ended ≡ false)
Next takes means grows buffers old (Err e) new = NoPart takes grows buffers old new e

-- the deserializer behind the end of an access
abbrev pub behind_end : Listing → Decoding
behind_end l = record { reading = l.state.reading; ended = false; inherited = l.outer; described = l.state.described; begun = l.state.begun }

-- all parts were read
pub record AllRead (l : Listing) (new : Decoding) : Type 0 where
  pub not_ended : l.state.ended ≡ false
  pub left : l.left ≡ 0
  pub is : new ≡ behind_end l

-- the end is refused: after a refusal, or as parts are left
pub record NoEnd (l : Listing) (new : Decoding) (err : Error) : Type 0 where
  pub ended : IsTrue new.ended
  pub reading : new.reading ≡ l.state.reading
  pub begun : new.begun ≡ l.state.begun
  pub why : (IsTrue l.state.ended × (err ≡ InvalidValue)) ⊎ ((l.state.ended ≡ false) × (l.left ≡ 0 → ⊥) × (err ≡ SequenceLengthMismatch))

-- the end of an access: all parts were read, or a refusal, which ends the deserializer
abbrev pub Ends : Listing → Result (Unit {0}) Error → Decoding → Type 0
Ends l (Ok u) new = AllRead l new
Ends l (Err e) new = NoEnd l new e
