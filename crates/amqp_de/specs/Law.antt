-- The law of reading that every type keeps.
use Rattle.std.specs.Prelude.{◌≡◌, ◌⊎◌, ℕ, ◌+◌, ◌*◌, ◌<◌, ◌≤◌, Bool, false, IsTrue, List, ◌++◌, Some}
use Rattle.amqp_base.specs.declared.error.Error.{Error}
use Rattle.amqp_base.specs.declared.error.Error.TheVariants.{OutOfMemory}
use Rattle.amqp_base.specs.Item.{Item}
use Rattle.amqp_base.specs.Wire.{Wire, lenient, Constructor, bare, under, under_pair}
use Rattle.amqp_base.specs.Laws.{items_under}
use Rattle.amqp_base.specs.Refusals.{IsDevice}
use Rattle.amqp_base.specs.Refusing.{Refusing}
use Rattle.amqp_read.specs.Reading.{Takes}
use Rattle.amqp_de.specs.Decoding.{Decoding, stands_under}
use Rattle.amqp_data.specs.Excuses.{Advances, Excused}

-- A front of the bytes to come spells an item that the type takes, and means the value. Just this front was consumed,
-- nothing behind it was received, and just its items were begun.
pub record Front (takes : Item → Bool) (means : Item → Type 0) (old new : Decoding) : Type 0 where
  pub item : Item
  pub text : List ℕ
  pub spelled : Wire lenient (stands_under old) text item
  pub taken : IsTrue (takes item)
  pub value : means item
  pub step : Takes old.reading new.reading text
  pub not_ended : new.ended ≡ false
  pub inherited : new.inherited ≡ old.inherited
  pub described : new.described ≡ false
  pub begun : new.begun ≡ old.begun + items_under (stands_under old) item

-- how many items an item without bytes may begin
abbrev pub free : Constructor → ℕ
free bare = 0
free (under e) = 1
free (under_pair d e) = 2

-- and one that is refused
abbrev pub refused_free : Constructor → ℕ
refused_free bare = 1
refused_free (under e) = 1
refused_free (under_pair d e) = 2

-- for each byte that was consumed 16,384 items were begun at most, and so many more
pub record Spent (more : ℕ) (old new : Decoding) : Type 0 where
  pub most : new.begun + 16384 * old.reading.taken ≤ old.begun + 16384 * new.reading.taken + more

-- What a type answers with a value: where the deserializer isn't ended, that value's front was consumed.
pub record Found (takes : Item → Bool) (means : Item → Type 0) (old new : Decoding) : Type 0 where
  pub front : old.ended ≡ false → Front takes means old new
  pub spent : old.ended ≡ false → Spent (free (stands_under old)) old new
  pub steady : Advances old.reading new.reading

-- What a type answers with a refusal: where the deserializer isn't ended and an item that the type takes stands at the
-- front, there is an excuse. A device's fault was counted.
pub record Missed (takes : Item → Bool) (grows buffers : Bool) (old new : Decoding) (e : Error) : Type 0 where
  pub why : old.ended ≡ false → (i : Item) (text rest : List ℕ) → Wire lenient (stands_under old) text i → IsTrue (takes i) → old.reading.to_come ≡ Some (text ++ rest) → IsTrue old.reading.honest
      → Excused grows buffers old.reading new.reading e
  pub spent : old.ended ≡ false → Spent (refused_free (stands_under old)) old new
  pub steady : Advances old.reading new.reading
  pub device : IsDevice e → old.reading.faults < new.reading.faults
  -- and only where memory is taken there may be none
  pub memory : e ≡ OutOfMemory → IsTrue grows

-- Of known bytes a refusal is one that the type makes of them, but for the excuses.
pub record Named (refuses : Refusing) (grows buffers : Bool) (old new : Decoding) (e : Error) : Type 0 where
  pub why : old.ended ≡ false → (s : List ℕ) → old.reading.to_come ≡ Some s → IsTrue old.reading.honest → refuses (stands_under old) s e ⊎ Excused grows buffers old.reading new.reading e
