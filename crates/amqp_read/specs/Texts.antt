-- Bytes that are no text.
use Rattle.std.specs.Prelude.{◌≡◌, ℕ, ◌≤◌, List, length, take, Option, None, Some, ⊤}
use Rattle.std.specs.Str.{IsUtf8}
use Rattle.amqp_base.specs.declared.error.Error.{Error}
use Rattle.amqp_base.specs.declared.error.Error.TheVariants.{InvalidUtf8Encoding}
use Rattle.amqp_read.specs.Reading.{Reading}

-- the bytes aren't UTF-8
abbrev pub NotText : List ℕ → Error → Type 0
NotText b e = (e ≡ InvalidUtf8Encoding) × (IsUtf8 b → ⊥)

-- n bytes are to come, and they aren't UTF-8, where that is known
abbrev pub FrontIsNoText : ℕ → Option (List ℕ) → Type 0
FrontIsNoText n None = ⊤
FrontIsNoText n (Some s) = (n ≤ length s) × (IsUtf8 (take n s) → ⊥)

-- n bytes are to come that aren't UTF-8
abbrev pub NoText : ℕ → Reading → Error → Type 0
NoText n r e = (e ≡ InvalidUtf8Encoding) × FrontIsNoText n r.to_come
