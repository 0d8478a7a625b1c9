-- What devices do: sources give bytes, sinks take them, and both may answer a fault.
use Rattle.std.specs.Prelude.{◌≡◌, ◌⊎◌, ℕ, ◌+◌, ◌<◌, Bool, true, List, Option, None, Some, ◌++◌, Result, Ok, Err, ⊤}
use Rattle.std.specs.declared.io.ErrorKind.{ErrorKind}
use Rattle.std.specs.declared.io.ErrorKind.TheVariants.{OutOfMemory}
use Rattle.amqp_base.specs.declared.error.Error.{Error}
use Rattle.amqp_base.specs.declared.error.Error.TheVariants.{Io, OutOfMemory as NoMemory}

-- known bytes stay at the front
abbrev pub Extends : Option (List ℕ) → Option (List ℕ) → Type 0
Extends None new = ⊤
Extends (Some xs) None = ⊥
Extends (Some xs) (Some ys) = (more : List ℕ) × (ys ≡ xs ++ more)

-- a fault is counted, save want of memory where the value grows
abbrev pub Counts : Bool → ℕ → ℕ → {A : Type 0} → Result A ErrorKind → Type 0
Counts grows old new (Ok x) = new ≡ old
Counts grows old new (Err kind) = (new ≡ old + 1) ⊎ ((kind ≡ OutOfMemory) × (grows ≡ true) × (new ≡ old))

-- and its kind is that of the last fault then
abbrev pub Remembers : ℕ → ℕ → Option ErrorKind → Option ErrorKind → {A : Type 0} → Result A ErrorKind → Type 0
Remembers old new before after (Ok x) = after ≡ before
Remembers old new before after (Err kind) = old < new → after ≡ Some kind

-- the error has the kind of the last fault
abbrev pub IsFault : Option ErrorKind → Error → Type 0
IsFault last (Io kind) = last ≡ Some kind
IsFault last e = ⊥

-- the refusal that a fault becomes
unfoldable pub refusal_of : ErrorKind → Error
refusal_of OutOfMemory = NoMemory
refusal_of kind = Io kind
