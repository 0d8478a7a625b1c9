-- What stands behind the next bytes, which stay: looks further ahead than the next byte.
use Rattle.std.specs.Prelude.{◌≡◌, ℕ, ◌+◌, ◌^◌, ◌<◌, Bool, true, List, [], ◌++◌, length, take, drop, Option, Some, None}
use Rattle.std.specs.Str.{is_utf8}
use Rattle.amqp_base.specs.declared.error.Error.{Error}
use Rattle.amqp_base.specs.declared.format_code.EncodingCodes.{EncodingCodes}
use Rattle.amqp_base.specs.Codes.{code_of}
use Rattle.amqp_base.specs.Item.{Descriptor, descriptor_item, scalar}
use Rattle.amqp_base.specs.Parse.{Parsed}
use Rattle.amqp_base.specs.Value.{number}
use Rattle.amqp_base.specs.Wire.{under, Wire, lenient, DescriptorText}
use Rattle.amqp_read.specs.Raw.{MayBeTaken}
use Rattle.amqp_read.specs.Reading.{Reading, Agree, Stays}
use Rattle.amqp_read.specs.Steps.{Looked, NotSeen}
use Rattle.amqp_data.specs.Steps.{Rejects}

-- behind the next n bytes stand these: of the bytes that were known, and of whatever is taken next, as far as both go. No
-- byte behind them was received.
pub record Ahead (n : ℕ) (b : List ℕ) (old new : Reading) : Type 0 where
  pub looked : Looked (n + length b) old new
  pub shown : (s : List ℕ) → old.to_come ≡ Some s → take (length b) (drop n s) ≡ b
  pub next : (t : List ℕ) → MayBeTaken new t → Agree (drop n t) b

-- n bytes weren't seen
pub record Unseen (grows buffers : Bool) (n : ℕ) (old new : Reading) (e : Error) : Type 0 where
  pub stays : Stays old new
  pub why : NotSeen grows buffers n old new e

-- behind the next n bytes stand w that spell k
pub record NumberAhead (n w k : ℕ) (old new : Reading) : Type 0 where
  pub digits : List ℕ
  pub len : length digits ≡ w
  pub value : number digits ≡ k
  pub small : k < 256 ^ w
  pub ahead : Ahead n digits old new

-- behind the next n bytes stand w bytes of length and this text
pub record TextAhead (n w : ℕ) (b : List ℕ) (old new : Reading) : Type 0 where
  pub digits : List ℕ
  pub len : length digits ≡ w
  pub value : number digits ≡ length b
  pub utf8 : is_utf8 b ≡ true
  pub ahead : Ahead n (digits ++ b) old new

-- behind the next n bytes stand data of the byte's code, which spell the descriptor
pub record DataAhead (n byte : ℕ) (d : Descriptor) (old new : Reading) : Type 0 where
  pub code : EncodingCodes
  pub code_is : code_of byte ≡ Some code
  pub text : List ℕ
  pub spelled : Wire lenient (under code) text (scalar (descriptor_item d))
  pub ahead : Ahead n text old new

-- behind the next n bytes stands a descriptor with its own code
pub record ShowsDescriptor (n : ℕ) (d : Descriptor) (old new : Reading) : Type 0 where
  pub text : List ℕ
  pub spelled : DescriptorText text d
  pub ahead : Ahead n text old new

-- the reading behind the next n bytes, as if they were consumed
abbrev pub known_past : ℕ → Option (List ℕ) → Option (List ℕ)
known_past n None = None
known_past n (Some s) = Some (drop n s)

abbrev pub past : ℕ → Reading → Reading
past n r = record { to_come = known_past n r.to_come; taken = r.taken + n; received = []; faults = r.faults; last_fault = r.last_fault; honest = r.honest; origin = r.origin }

-- the refusal that the bytes behind the next n call for; nothing was consumed
pub record RejectsAhead {A : Type 0} (n : ℕ) (buffers : Bool) (parse : List ℕ → Parsed A) (old new : Reading) (e : Error) : Type 0 where
  pub stays : Stays old new
  pub rejects : Rejects true buffers parse (past n old) (past n new) e
