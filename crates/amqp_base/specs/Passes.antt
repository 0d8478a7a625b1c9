-- The two passes over a value: one counts its bytes, the other writes them behind sizes that are known.
use Rattle.std.specs.Prelude.{◌≡◌, ℕ, ◌+◌, List, [], ◌∷◌, ◌++◌, length, take, set, min, Option, None, Some, Result, Ok, Err, ⊤}
use Rattle.std.specs.declared.io.ErrorKind.{ErrorKind}
use Rattle.amqp_base.specs.Sizes.{Size}

-- the bytes that a writing pass wrote, and the sizes that are still to come
pub record Planned : Type 0 where
  pub bytes : List ℕ
  pub sizes : List Size

-- the bytes that a measuring pass counted, as far as a usize counts, and the sizes that it met
pub record Measured : Type 0 where
  pub length : ℕ
  pub sizes : List Size

-- a write goes on with the text
abbrev pub Plans : Option Planned → Option Planned → Result ℕ ErrorKind → List ℕ → Type 0
Plans None q r b = q ≡ None
Plans (Some p) q (Ok n) b = q ≡ Some (record { bytes = p.bytes ++ take n b; sizes = p.sizes })
Plans (Some p) q (Err e) b = ⊤

-- a write is counted
abbrev pub Measures : Option Measured → Option Measured → Result ℕ ErrorKind → Type 0
Measures None n r = n ≡ None
Measures (Some m) n (Ok k) = n ≡ Some (record { length = min (m.length + k) 18446744073709551615; sizes = m.sizes })
Measures (Some m) n (Err e) = ⊤

-- so many bytes more are counted
abbrev pub CountsMore : Option Measured → ℕ → Option Measured → Type 0
CountsMore None more n = ⊥
CountsMore (Some m) more n = n ≡ Some (record { length = min (m.length + more) 18446744073709551615; sizes = m.sizes })

-- there is a place for one more size
abbrev pub MakesRoom : Option Measured → ℕ → Option Measured → Type 0
MakesRoom None at n = ⊥
MakesRoom (Some m) at n = (z : Size) × (at ≡ length m.sizes) × (n ≡ Some (record { length = m.length; sizes = m.sizes ++ z ∷ [] }))

-- the size at that place is known
abbrev pub SetsSize : Option Measured → ℕ → ℕ → ℕ → Option Measured → Type 0
SetsSize None at len count n = ⊥
SetsSize (Some m) at len count n = n ≡ Some (record { length = m.length; sizes = set m.sizes at (record { length = len; count = count }) })

-- the next size is taken from the plan
abbrev pub TakesNext : Option Planned → ℕ → ℕ → Option Planned → Type 0
TakesNext None len count q = ⊥
TakesNext (Some p) len count q = (left : List Size) × (p.sizes ≡ record { length = len; count = count } ∷ left) × (q ≡ Some (record { bytes = p.bytes; sizes = left }))

-- so many bytes were counted
abbrev pub IsCounted : Option Measured → ℕ → Type 0
IsCounted None k = ⊤
IsCounted (Some m) k = k ≡ m.length

-- so many bytes were written
abbrev pub IsWritten : Option Planned → ℕ → Type 0
IsWritten None k = ⊤
IsWritten (Some p) k = k ≡ length p.bytes
