-- What a source is asked for once, and what is received by it.
use Rattle.std.specs.Prelude.{◌≡◌, ℕ, ◌+◌, ◌≤◌, true, length, Result, Ok, Err, Option, Some, None, IfOk, IfErr, OnErr}
use Rattle.std.specs.declared.io.ErrorKind.{ErrorKind}
use Rattle.amqp_base.specs.Faults.{refusal_of}
use Rattle.amqp_read.specs.Reading.{Reading, Stays}
use Rattle.amqp_read.specs.Steps.{Fails}

-- a source was asked once for some of n bytes, and what it gave was received behind what had been
pub record AskedOnce (n : ℕ) (old new : Reading) (result : Result ℕ ErrorKind) : Type 0 where
  pub stays : Stays old new
  pub few : IfOk result (λ got. got ≤ n)
  pub len : IfOk result (λ got. length new.received ≡ length old.received + got)
  pub kept : OnErr result (new.received ≡ old.received)
  pub why : IfErr result (λ kind. Fails true true old new (refusal_of kind))

-- what a source answered, where the kind of its fault was put apart
abbrev pub told : Option ℕ → ErrorKind → Result ℕ ErrorKind
told (Some n) kind = Ok n
told None kind = Err kind
