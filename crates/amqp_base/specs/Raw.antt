-- The length of the next value by its code and size field alone: what a reader that skips it takes (1.2).
use Rattle.std.specs.Prelude.{ℕ, zero, suc, ◌+◌, nat_le, if◌then◌else◌, List, [], ◌∷◌, length, take, drop, Option, Some, None}
use Rattle.amqp_base.specs.declared.format_code.Category.{Category}
use Rattle.amqp_base.specs.declared.format_code.Category.TheVariants.{Fixed, Variable, Compound, Array}
use Rattle.amqp_base.specs.Codes.{row, code_of}
use Rattle.amqp_base.specs.Value.{number}
use Rattle.amqp_base.specs.Partial.{◌>>=◌}

-- n, where there are so many bytes
abbrev pub there : ℕ → List ℕ → Option ℕ
there n s = if nat_le n (length s) then Some n else None

-- w bytes of a length or size, and as many bytes as it says
abbrev pub behind_size : ℕ → List ℕ → Option ℕ
behind_size w s = there w s >>= λ _. there (w + number (take w s)) s

-- the data behind a code: by its width (1.2.1), by its length (1.2.2), or by its size (1.2.3, 1.2.4)
abbrev pub data_length : Category → List ℕ → Option ℕ
data_length (Fixed n) s = there n s
data_length (Variable w) s = behind_size w s
data_length (Compound w) s = behind_size w s
data_length (Array w) s = behind_size w s

-- a value whose constructor is one code
abbrev pub scalar_raw : List ℕ → Option ℕ
scalar_raw [] = None
scalar_raw (x ∷ s) = code_of x >>= λ e. data_length (row e).category s >>= λ n. Some (suc n)

-- Any value: behind 0x00 a descriptor and a value, neither of them described. That a described value isn't skipped behind
-- 0x00 is this profile's own rule.
unfoldable pub raw : List ℕ → Option ℕ
raw [] = None
raw (zero ∷ s) = scalar_raw s >>= λ m. scalar_raw (drop m s) >>= λ n. Some (suc (m + n))
raw (suc x ∷ s) = scalar_raw (suc x ∷ s)
