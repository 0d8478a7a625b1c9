-- The steps in which lines are cut out of a stream.
use Rattle.std.specs.Prelude.{◌≡◌, ◌⊎◌, ℕ, ◌+◌, Option, ◌≤◌, Bool, if◌then◌else◌, List, [], ◌∷◌, ◌++◌, length}
use Rattle.std.specs.Io.KnownBytes.{Consumes}
use Rattle.std.specs.declared.io.ErrorKind.{ErrorKind}
use Rattle.std.specs.declared.io.ErrorKind.TheVariants.{Other}
use Rattle.amqp_base.specs.declared.error.Error.{Error}
use Rattle.amqp_base.specs.declared.error.Error.TheVariants.{Io, OutOfMemory}

-- the byte isn't in the list
abbrev pub Without : ℕ → List ℕ → Type 0
Without c [] = Unit {0}
Without c (x ∷ xs) = (x ≡ c → ⊥) × Without c xs

-- Bytes without a line feed went from the front of those unread to the back of a line, and the line feed behind them
-- went away where the line ended.
pub record Moved (old new line longer : List ℕ) (ended : Bool) : Type 0 where
  pub piece : List ℕ
  pub clean : Without 10 piece
  pub grown : longer ≡ line ++ piece
  pub rest : old ≡ piece ++ (if ended then 10 ∷ new else new)
  pub short : length longer ≤ 65537

-- Why a call failed: want of memory, a fault that it was answered, or more bytes than can be counted.
pub record Fails (e : Error) (faulted too_many : Type 0) : Type 0 where
  pub cause : (e ≡ OutOfMemory) ⊎ ((kind : ErrorKind) × (e ≡ Io kind) × (faulted ⊎ ((kind ≡ Other) × too_many)))

-- A line so far: its bytes were the first of those to come, and are no longer.
pub record Cut (input : Option (List ℕ)) (taken faults : ℕ) (left : Option (List ℕ)) (taken_now faults_now : ℕ) (line : List ℕ) : Type 0 where
  pub known : Consumes input left line
  pub clean : Without 10 line
  pub short : length line ≤ 65536
  pub counted : taken_now ≡ taken + length line
  pub same : faults_now ≡ faults
