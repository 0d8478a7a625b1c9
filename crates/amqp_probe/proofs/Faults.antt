-- What a fault becomes.
use Rattle.std.proofs.Common.{◌≡◌, ℕ, ◌<◌, ◌⊎◌, Bool, Err, refl, ◌∙◌, arith, inl, inr}
use Rattle.std.specs.declared.io.ErrorKind.{ErrorKind}
use Rattle.std.specs.declared.io.ErrorKind.TheVariants.{OutOfMemory}
use Rattle.amqp_base.specs.declared.error.Error.{Error}
use Rattle.amqp_base.specs.declared.error.Error.TheVariants.{Io, OutOfMemory as NoMemory}
use Rattle.amqp_base.specs.Faults.{Counts, refusal_of}
use Rattle.amqp_probe.specs.Pieces.{Fails}

pub refusal_cases : (kind : ErrorKind) → (refusal_of kind ≡ NoMemory) ⊎ ((refusal_of kind ≡ Io kind) × (kind ≡ OutOfMemory → ⊥))
unfolding refusal_of
refusal_cases OutOfMemory = inl refl
refusal_cases kind = inr (refl, λ e. cc e)

pub fault_fails : (A : Type 0) (e : Error) (kind : ErrorKind) (grows : Bool) (old new : ℕ) (P : Type 0)
    → Counts grows old new {A = A} (Err kind) → e ≡ refusal_of kind → Fails e (old < new) P
fault_fails A e kind grows old new P counts is = record {
  cause =
      elim (refusal_cases kind) [
        | inl memory ↦ inl (is ∙ memory)
        | inr fault ↦ elim counts [
          | inl rose ↦ inr (kind, is ∙ fault.0, inl (omega arith))
          | inr kept ↦ absurd (fault.1 kept.0)
        ]
      ];
}
