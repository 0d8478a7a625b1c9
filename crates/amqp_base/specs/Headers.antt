-- The size and count that are written before the parts of a list, map or array.
use Rattle.std.specs.Prelude.{ℕ, ◌+◌, nat_le, ◌==◌, if◌then◌else◌, List, [], ◌∷◌, ◌++◌, length, Option, Some}
use Rattle.std.specs.Int.{bytes_high_first}
use Rattle.amqp_base.specs.Partial.{◌>>=◌, when}
use Rattle.amqp_base.specs.ScalarBody.{limit}

-- size, count and what follows them, which the size counts too (1.2.3, 1.2.4)
abbrev pub headed : ℕ → ℕ → List ℕ → List ℕ
headed w k b = bytes_high_first w (w + length b) ++ (bytes_high_first w k ++ b)

-- behind a size and a count of 4 bytes each, up to the limit
abbrev pub wide_body : ℕ → List ℕ → Option (List ℕ)
wide_body k b = when (nat_le (length b) limit) (headed 4 k b)

-- Behind the code with one byte for size and count, up to 254 bytes; else behind the one with four. The size counts the
-- count, so 254 is the most that one byte of size has room for.
abbrev pub compound_text : ℕ → ℕ → ℕ → List ℕ → Option (List ℕ)
compound_text one four k b = if nat_le (length b) 254 then Some (one ∷ headed 1 k b) else (wide_body k b >>= λ t. Some (four ∷ t))

-- a list: one code alone where it is empty (1.6.22)
unfoldable pub list_text : ℕ → List ℕ → Option (List ℕ)
list_text k b = if length b == 0 then Some (0x45 ∷ []) else compound_text 0xc0 0xd0 k b
