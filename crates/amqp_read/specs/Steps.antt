-- What the calls of a reader answer.
use Rattle.std.specs.Prelude.{◌≡◌, ◌⊎◌, ℕ, ◌+◌, ◌^◌, ◌<◌, ◌≤◌, max, Bool, true, false, IsTrue, List, length, take, drop, Option, None, Some, ⊤}
use Rattle.std.specs.Io.KnownBytes.{IsAtEnd}
use Rattle.std.specs.declared.io.ErrorKind.TheVariants.{UnexpectedEof, Other}
use Rattle.amqp_base.specs.declared.error.Error.{Error}
use Rattle.amqp_base.specs.declared.error.Error.TheVariants.{Io, OutOfMemory}
use Rattle.amqp_base.specs.Faults.{IsFault}
use Rattle.amqp_read.specs.Reading.{Reading, Agree, Stays, Takes}

-- the known bytes begin with these; where none are known, the received ones do
abbrev pub StartsWith : Option (List ℕ) → List ℕ → List ℕ → Type 0
StartsWith None received b = take (length b) received ≡ b
StartsWith (Some s) received b = take (length b) s ≡ b

-- the next bytes are these, and they were received, save where all bytes are known
abbrev pub Shows : Reading → List ℕ → Type 0
Shows r b = StartsWith r.to_come r.received b

-- behind the first n known bytes come these; where none are known, behind the first n received ones
abbrev pub ComeBehind : ℕ → Option (List ℕ) → List ℕ → List ℕ → Type 0
ComeBehind n None received b = take (length b) (drop n received) ≡ b
ComeBehind n (Some s) received b = take (length b) (drop n s) ≡ b

-- behind the next n bytes come these, and they were received, save where all bytes are known
abbrev pub ShowsBehind : ℕ → Reading → List ℕ → Type 0
ShowsBehind n r b = ComeBehind n r.to_come r.received b

-- the known bytes begin with these; where none are known, the received ones are the same as far as both go
abbrev pub Admits : Option (List ℕ) → List ℕ → List ℕ → Type 0
Admits None received b = Agree received b
Admits (Some s) received b = take (length b) s ≡ b

-- by what is known and received these may be the next bytes
abbrev pub MayCome : Reading → List ℕ → Type 0
MayCome r b = Admits r.to_come r.received b

-- fewer than n known bytes are to come
abbrev pub ShortOf : ℕ → Option (List ℕ) → Type 0
ShortOf n None = ⊤
ShortOf n (Some s) = length s < n

-- n known bytes are to come
abbrev pub Holds : ℕ → Option (List ℕ) → Type 0
Holds n None = ⊤
Holds n (Some s) = n ≤ length s

-- no byte is to come, where the source is honest
abbrev pub Ended : Reading → Type 0
Ended r = IsTrue r.honest → IsAtEnd r.to_come

-- fewer than n bytes are to come, where the source is honest
abbrev pub IsShort : ℕ → Reading → Type 0
IsShort n r = IsTrue r.honest → ShortOf n r.to_come

-- want of memory, where the call may grow; or the last fault of the source, where the reader buffers
abbrev pub Fails : Bool → Bool → Reading → Reading → Error → Type 0
Fails grows buffers old new e = ((e ≡ OutOfMemory) × IsTrue grows) ⊎ (IsFault new.last_fault e × (old.faults < new.faults) × IsTrue buffers)

-- want of memory, or a fault of some kind
abbrev pub Failed : Error → Type 0
Failed OutOfMemory = ⊤
Failed (Io kind) = ⊤
Failed e = ⊥

-- n bytes are to come, where that is known
abbrev pub HasBytes : ℕ → Option (List ℕ) → Type 0
HasBytes n None = ⊤
HasBytes n (Some s) = n ≤ length s

-- n more bytes are there but can't be counted; a reader over a slice always can
abbrev pub PassesCount : Bool → ℕ → Reading → Error → Type 0
PassesCount buffers n old e = (e ≡ Io Other) × IsTrue buffers × (2 ^ 64 ≤ old.taken + n) × HasBytes n old.to_come

-- why n bytes were not consumed
abbrev pub NotTaken : Bool → Bool → ℕ → Reading → Reading → Error → Type 0
NotTaken grows buffers n old new e = ((e ≡ Io UnexpectedEof) × IsShort n old) ⊎ (Fails grows buffers old new e ⊎ PassesCount buffers n old e)

-- why n bytes were not looked at
abbrev pub NotSeen : Bool → Bool → ℕ → Reading → Reading → Error → Type 0
NotSeen grows buffers n old new e = ((e ≡ Io UnexpectedEof) × IsShort n old) ⊎ Fails grows buffers old new e

-- n bytes were consumed
pub record Passes (n : ℕ) (old new : Reading) : Type 0 where
  pub bytes : List ℕ
  pub len : length bytes ≡ n
  pub step : Takes old new bytes

-- n bytes were consumed at most
pub record PassesSome (n : ℕ) (old new : Reading) : Type 0 where
  pub bytes : List ℕ
  pub few : length bytes ≤ n
  pub step : Takes old new bytes

-- a look: nothing was consumed, and no byte behind the n that were looked at was received
pub record Looked (n : ℕ) (old new : Reading) : Type 0 where
  pub stays : Stays old new
  pub received : length new.received ≤ max (length old.received) n

-- n known bytes are to come, and no more
abbrev pub HasJust : ℕ → Option (List ℕ) → Type 0
HasJust n None = ⊤
HasJust n (Some s) = n ≡ length s

-- n bytes are at hand: those that were received, where the reader buffers; else all that are to come
abbrev pub AtHand : Bool → ℕ → Reading → Type 0
AtHand true n r = n ≡ length r.received
AtHand false n r = HasJust n r.to_come

-- n bytes can't be consumed unless a source is asked: fewer are at hand, or they can't be counted
abbrev pub NotAtHand : Bool → ℕ → Reading → Type 0
NotAtHand true n r = (length r.received < n) ⊎ (2 ^ 64 ≤ r.taken + n)
NotAtHand false n r = IsShort n r
