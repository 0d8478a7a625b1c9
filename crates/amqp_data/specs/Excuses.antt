-- What a reading keeps in every step, and which refusals the bytes don't call for.
use Rattle.std.specs.Prelude.{◌≡◌, ℕ, ◌+◌, ◌^◌, ◌<◌, ◌≤◌, Bool, IsTrue, List, length, Option, Some, None, ⊤}
use Rattle.std.specs.declared.io.ErrorKind.TheVariants.{Other}
use Rattle.amqp_base.specs.declared.error.Error.{Error}
use Rattle.amqp_base.specs.declared.error.Error.TheVariants.{Io, OutOfMemory}
use Rattle.amqp_base.specs.Refusals.{IsDevice}
use Rattle.amqp_read.specs.Reading.{Reading}
use Rattle.std.specs.Io.KnownBytes.{Consumes}
use Rattle.amqp_base.specs.Faults.{IsFault}

-- Some of the bytes to come were consumed, and the others are to come still.
pub record Advances (old new : Reading) : Type 0 where
  pub consumed : List ℕ
  pub rest : Consumes old.to_come new.to_come consumed
  pub taken : new.taken ≡ old.taken + length consumed
  pub honest : new.honest ≡ old.honest
  pub origin : new.origin ≡ old.origin
  pub faults : old.faults ≤ new.faults

-- what no bytes call for: a device's fault, or want of memory
abbrev pub IsCause : Error → Type 0
IsCause OutOfMemory = ⊤
IsCause e = IsDevice e

-- the reader's bytes can't all be counted
abbrev pub Overfull : ℕ → Option (List ℕ) → Type 0
Overfull n None = ⊤
Overfull n (Some s) = 2 ^ 64 ≤ n + length s

-- a refusal that the bytes do not call for
pub data Excused (grows buffers : Bool) (old new : Reading) (e : Error) : Type 0 where
  no_memory : e ≡ OutOfMemory → IsTrue grows → Excused grows buffers old new e
  faulted : IsFault new.last_fault e → old.faults < new.faults → IsTrue buffers → Excused grows buffers old new e
  uncounted : e ≡ Io Other → IsTrue buffers → Overfull old.taken old.to_come → Excused grows buffers old new e
