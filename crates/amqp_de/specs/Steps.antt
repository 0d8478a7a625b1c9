-- What the steps of reading an item give.
use Rattle.std.specs.Prelude.{◌≡◌, ℕ, ◌+◌, ◌≤◌, ◌⊎◌, Bool, false, IsTrue, List, ◌++◌, length, Some, Result, Ok, Err, OnErr}
use Rattle.amqp_base.specs.declared.error.Error.{Error}
use Rattle.amqp_base.specs.declared.error.Error.TheVariants.{InvalidValue}
use Rattle.amqp_base.specs.declared.format_code.EncodingCodes.{EncodingCodes}
use Rattle.amqp_base.specs.Codes.{code_of}
use Rattle.amqp_base.specs.Item.{Item, described, items}
use Rattle.amqp_base.specs.Wire.{under, Wire, lenient}
use Rattle.amqp_base.specs.Laws.{items_under}
use Rattle.amqp_read.specs.Reading.{Reading, Takes}
use Rattle.amqp_de.specs.Decoding.{Decoding, stands_under}
use Rattle.amqp_data.specs.Excuses.{Excused}
use Rattle.amqp_de.specs.Law.{free}
use Rattle.amqp_base.specs.Parse.{Parsed, byte_under}
use Rattle.amqp_data.specs.Steps.{Rejects}

-- the answer that the bytes call for, where they parse so
abbrev pub ExactAt : {V A : Type 0} → (V → A) → Bool → Bool → Reading → Result V Error → Reading → Parsed A → Type 0
ExactAt view grows buffers old (Ok v) new parsed = (rest : List ℕ) × (new.to_come ≡ Some rest) × (parsed ≡ Ok (view v, rest))
ExactAt view grows buffers old (Err e) new parsed = (parsed ≡ Err e) ⊎ Excused grows buffers old new e

-- what is answered is what the bytes call for, where they are known and the source is honest
pub record Exact {V A : Type 0} (view : V → A) (grows buffers : Bool) (parse : List ℕ → Parsed A) (old : Reading) (result : Result V Error) (new : Reading) : Type 0 where
  pub answer : (s : List ℕ) → old.to_come ≡ Some s → IsTrue old.honest → ExactAt view grows buffers old result new (parse s)

-- a call of the deserializer's own: a refusal ends it, and then each call is refused
pub record Stops {A : Type 0} (old : Decoding) (result : Result A Error) (new : Decoding) : Type 0 where
  pub err : OnErr result (IsTrue new.ended)
  pub if_ended : IsTrue old.ended → (result ≡ Err InvalidValue) × (new ≡ old)

abbrev pub IsDescribed : Item → Type 0
IsDescribed (described d v) = Unit {0}
IsDescribed i = ⊥

-- an item was begun by the byte of its code, which was consumed or inherited
pub record Begins (old new : Decoding) (byte : ℕ) : Type 0 where
  pub text : List ℕ
  pub step : Takes old.reading new.reading text
  -- data of its code behind it are an item
  pub whole : (e : EncodingCodes) (b : List ℕ) (i : Item) → code_of byte ≡ Some e → Wire lenient (under e) b i → Wire lenient (stands_under old) (text ++ b) i
  -- and the item at the front is one whose data are of its code
  pub only : (t rest : List ℕ) (i : Item) → (IsDescribed i → ⊥) → Wire lenient (stands_under old) t i → old.reading.to_come ≡ Some (t ++ rest)
      → (e : EncodingCodes) × (b : List ℕ) × (code_of byte ≡ Some e) × Wire lenient (under e) b i × (new.reading.to_come ≡ Some (b ++ rest))
  -- it is the byte that is looked at
  pub exact : (s : List ℕ) → old.reading.to_come ≡ Some s → (rest : List ℕ) × (new.reading.to_come ≡ Some rest) × (byte_under (stands_under old) s ≡ Ok (byte, rest))
  pub inherited : new.inherited ≡ old.inherited
  pub described : new.described ≡ false
  pub begun : new.begun ≡ old.begun + 1
  pub ended : IsTrue new.ended
  pub counts : (e : EncodingCodes) (i : Item) → code_of byte ≡ Some e → items_under (stands_under old) i ≡ items i
  pub room : 1 ≤ free (stands_under old) + length text

-- no item was begun, as there is no byte
pub record BeginsNot (buffers : Bool) (old new : Decoding) (e : Error) : Type 0 where
  pub rejects : Rejects buffers buffers (byte_under (stands_under old)) old.reading new.reading e
  pub ended : IsTrue new.ended
  pub few : new.begun ≡ old.begun + 1
