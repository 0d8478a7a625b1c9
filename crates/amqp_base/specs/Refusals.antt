-- What a refusal says.
use Rattle.std.specs.Prelude.{◌≡◌, ◌≢◌, ℕ, List, string_bytes}
use Rattle.std.specs.declared.io.ErrorKind.TheVariants.{UnexpectedEof, Other}
use Rattle.amqp_base.specs.declared.error.Error.{Error}
use Rattle.amqp_base.specs.declared.error.Error.TheVariants.{Message, Io, OutOfMemory}

-- a message of this text, or want of memory for it
abbrev pub IsCustom : List ℕ → Error → Type 0
IsCustom text (Message s) = string_bytes s ≡ text
IsCustom text OutOfMemory = Unit {0}
IsCustom text e = ⊥

-- a device's fault: not that bytes are missing, nor that something is too long
abbrev pub IsDevice : Error → Type 0
IsDevice (Io kind) = (kind ≢ UnexpectedEof) × (kind ≢ Other)
IsDevice e = ⊥

-- a message, of whatever text
abbrev pub IsMessage : Error → Type 0
IsMessage (Message s) = Unit {0}
IsMessage e = ⊥

-- `custom` is the refusal, if that is a message
abbrev pub StandsFor : Error → Error → Type 0
StandsFor custom e = IsMessage e → custom ≡ e
