-- What the steps of reading an item's data give.
use Rattle.std.specs.Prelude.{◌≡◌, ℕ, ◌^◌, ◌<◌, ◌⊎◌, Bool, true, IsTrue, List, ◌++◌, length, Some, Ok, Err}
use Rattle.std.specs.Str.{is_utf8}
use Rattle.amqp_base.specs.declared.error.Error.{Error}
use Rattle.std.specs.declared.io.ErrorKind.TheVariants.{UnexpectedEof}
use Rattle.amqp_base.specs.declared.error.Error.TheVariants.{Io, OutOfMemory}
use Rattle.amqp_base.specs.declared.format_code.EncodingCodes.{EncodingCodes}
use Rattle.amqp_base.specs.Codes.{code_of}
use Rattle.amqp_base.specs.Item.{Item}
use Rattle.amqp_base.specs.Value.{number}
use Rattle.amqp_base.specs.Wire.{under, Wire, lenient}
use Rattle.amqp_base.specs.Refusals.{IsDevice}
use Rattle.amqp_read.specs.Reading.{Reading, Takes, Stays}
use Rattle.amqp_read.specs.Steps.{NotTaken}
use Rattle.amqp_data.specs.Excuses.{Excused, Advances}
use Rattle.amqp_base.specs.Parse.{Parsed}

-- what was consumed parses so
pub record ParsesAs {A : Type 0} (parse : List ℕ → Parsed A) (old new : Reading) (v : A) : Type 0 where
  pub exact : (s : List ℕ) → old.to_come ≡ Some s → (rest : List ℕ) × (new.to_come ≡ Some rest) × (parse s ≡ Ok (v, rest))

-- the refusal that the bytes call for
pub record Rejects {A : Type 0} (grows buffers : Bool) (parse : List ℕ → Parsed A) (old new : Reading) (e : Error) : Type 0 where
  pub why : (s : List ℕ) → old.to_come ≡ Some s → IsTrue old.honest → (parse s ≡ Err e) ⊎ Excused grows buffers old new e
  pub steady : Advances old new
  pub device : IsDevice e → old.faults < new.faults
  pub memory : e ≡ OutOfMemory → IsTrue grows

-- memory is asked for only where no bytes are missing; a reader over a source asks for some of its own
pub record BytesFirst {A : Type 0} (buffers : Bool) (parse : List ℕ → Parsed A) (old : Reading) (e : Error) : Type 0 where
  pub there : e ≡ OutOfMemory → IsTrue buffers ⊎ ((s : List ℕ) → old.to_come ≡ Some s → parse s ≡ Err (Io UnexpectedEof) → ⊥)

-- w bytes were consumed, which spell n
pub record Number (w n : ℕ) (old new : Reading) : Type 0 where
  pub digits : List ℕ
  pub len : length digits ≡ w
  pub value : number digits ≡ n
  pub small : n < 256 ^ w
  pub step : Takes old new digits

-- w bytes of length and these bytes were consumed
pub record Payload (w : ℕ) (b : List ℕ) (old new : Reading) : Type 0 where
  pub digits : List ℕ
  pub len : length digits ≡ w
  pub value : number digits ≡ length b
  pub step : Takes old new (digits ++ b)

-- and these are UTF-8
pub record Text (w : ℕ) (b : List ℕ) (old new : Reading) : Type 0 where
  pub payload : Payload w b old new
  pub utf8 : is_utf8 b ≡ true

-- n bytes were not consumed
pub record Unread (grows buffers : Bool) (n : ℕ) (old new : Reading) (e : Error) : Type 0 where
  pub stays : Stays old new
  pub why : NotTaken grows buffers n old new e

-- data of the byte's code were consumed, which spell the item
pub record IsData (byte : ℕ) (i : Item) (old new : Reading) : Type 0 where
  pub code : EncodingCodes
  pub code_is : code_of byte ≡ Some code
  pub text : List ℕ
  pub spelled : Wire lenient (under code) text i
  pub step : Takes old new text
