-- What whole calls promise over a source, and over a sink.
use Rattle.std.specs.Prelude.{◌≡◌, ◌⊎◌, ℕ, ◌^◌, ◌<◌, ◌≤◌, Bool, IsTrue, List, length, Option, Some, Result, Ok, Err, IfOk}
use Rattle.std.specs.Io.KnownBytes.{Consumes, Appends}
use Rattle.std.specs.declared.io.Read as Read
use Rattle.std.specs.declared.io.ErrorKind.{ErrorKind}
use Rattle.std.specs.declared.io.ErrorKind.TheVariants.{Other}
use Rattle.amqp_base.specs.declared.fault.FaultCount as FaultCount
use Rattle.amqp_base.specs.declared.error.Error.{Error}
use Rattle.amqp_base.specs.declared.error.Error.TheVariants.{Io, OutOfMemory}
use Rattle.amqp_base.specs.Canon.{canon}
use Rattle.amqp_base.specs.Faults.{IsFault}
use Rattle.amqp_base.specs.Item.{Item}
use Rattle.amqp_base.specs.Meaning.{Meaning}
use Rattle.amqp_base.specs.Refusals.{IsDevice}
use Rattle.amqp_base.specs.Wire.{Wire, Front, lenient, bare}
use Rattle.amqp_ser.specs.Texts.{HasNoText}
use Rattle.serde_amqp.specs.Headline.{ReadFrom, ReadsAll}

-- ---- sources

pub record Given : Type 0 where
  -- the bytes that the source will give, where it tells them
  pub to_come : Option (List ℕ)
  -- 0 bytes for a buffer that isn't empty come only at its end
  pub honest : Bool
  -- how many faults it has answered
  pub faults : ℕ
  -- and the kind of the last of them
  pub last_fault : Option ErrorKind

abbrev pub given : {S : Type 0} → Read.Ghosts S → FaultCount.Ghosts S → (S → Bool) → S → Given
given r f honest x = record {
  to_come = r.remaining x;
  honest = honest x;
  faults = f.faults x;
  last_fault = f.last_fault x;
}

-- A front of the bytes to come spells an item that the type takes, and that means the value. Just this front was taken.
pub record TakenFrom {T : Type 0} (m : Meaning T) (v : T) (old new : Option (List ℕ)) : Type 0 where
  pub item : Item
  pub text : List ℕ
  pub spelled : Wire lenient bare text item
  pub taken : IsTrue (m.takes item)
  pub value : m.means item v
  pub left : Consumes old new text

-- a refusal that the bytes s don't call for: want of memory, a fault of the source, or more bytes than can be counted
pub data Unasked (s : List ℕ) (old new : Given) (e : Error) : Type 0 where
  no_memory : e ≡ OutOfMemory → Unasked s old new e
  faulted : IsFault new.last_fault e → old.faults < new.faults → Unasked s old new e
  uncounted : e ≡ Io Other → 2 ^ 64 ≤ length s → Unasked s old new e

-- the answer where the item stands at the front: its value, or such a refusal
abbrev pub AnsweredOf : {T : Type 0} → (Item → T → Type 0) → Item → List ℕ → Given → Given → Result T Error → Type 0
AnsweredOf means i s old new (Ok v) = means i v
AnsweredOf means i s old new (Err e) = Unasked s old new e

-- where an honest source tells its bytes, every item that the type takes and that stands at their front is answered
pub record AnswersAll {T : Type 0} (m : Meaning T) (old new : Given) (result : Result T Error) : Type 0 where
  pub answer : (s : List ℕ) → old.to_come ≡ Some s → IsTrue old.honest → (i : Item) (n : ℕ) → Front lenient bare s i n → IsTrue (m.takes i) → AnsweredOf m.means i s old new result

-- there, a refusal is one that the type makes of the bytes, or one that they don't call for; a device's fault was counted
pub record RefusedOf {T : Type 0} (m : Meaning T) (old new : Given) (e : Error) : Type 0 where
  pub why : (s : List ℕ) → old.to_come ≡ Some s → IsTrue old.honest → m.refuses bare s e ⊎ Unasked s old new e
  pub device : IsDevice e → old.faults < new.faults

-- what every answer leaves: the last of the bytes to come
pub record Leaves (old new : Given) : Type 0 where
  pub gone : List ℕ
  pub left : Consumes old.to_come new.to_come gone
  pub honest : new.honest ≡ old.honest
  pub faults : old.faults ≤ new.faults

-- ---- both readers

-- a source that tells its bytes, which can be counted, gives some at each read until its end, and answered no fault
pub record InMemory (s : List ℕ) (old new : Given) : Type 0 where
  pub told : old.to_come ≡ Some s
  pub counted : length s < 2 ^ 64
  pub honest : IsTrue old.honest
  pub no_fault : new.faults ≡ old.faults

-- two answers, of a slice and of a source: the same value, or both are refusals, or one wants memory
abbrev pub SameAnswer : {T : Type 0} → Meaning T → Result T Error → Result T Error → Type 0
SameAnswer m (Ok v) (Ok w) = m.same v w
SameAnswer m (Ok v) (Err e) = e ≡ OutOfMemory
SameAnswer m (Err e) (Ok w) = (e ≡ OutOfMemory) × IsTrue m.grows
SameAnswer m (Err e) (Err f) = Unit {0}

-- both readers answer the same of the same bytes
abbrev pub Agree : {T : Type 0} → Meaning T → Type 0
Agree {T} m = (s : List ℕ) (old new : Given) (of_slice of_source : Result T Error) → InMemory s old new
    → IfOk of_slice (λ v. ReadFrom m.takes (λ i. m.means i v) s) → ReadsAll m.takes m.means m.grows s of_slice
    → IfOk of_source (λ v. TakenFrom m v old.to_come new.to_come) → AnswersAll m old new of_source
    → SameAnswer m of_slice of_source

-- and leave the same bytes
abbrev pub AgreeBehind : {T : Type 0} → Meaning T → Type 0
AgreeBehind {T} m = (s rest : List ℕ) (left : Option (List ℕ)) (v w : T) → TakenFrom m v (Some s) (Some rest) → TakenFrom m w (Some s) left → left ≡ Some rest

-- ---- sinks

-- the item's canonical text was appended
pub record HasText (i : Item) (old new : Option (List ℕ)) : Type 0 where
  pub text : List ℕ
  pub canonical : canon i ≡ Some text
  pub appended : Appends old new text

-- why it wasn't: want of memory, a fault of the sink, or the item has no text
abbrev pub NotPut : Item → Option ErrorKind → ℕ → ℕ → Error → Type 0
NotPut i last before after e = (e ≡ OutOfMemory) ⊎ ((IsFault last e × (before < after)) ⊎ HasNoText i e)
