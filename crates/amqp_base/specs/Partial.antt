-- Values that may be missing.
use Rattle.std.specs.Prelude.{ℕ, Bool, true, false, List, Option, Some, None}

-- a part without text leaves the whole without one
infixl 10 ◌>>=◌
abbrev pub ◌>>=◌ : {A B : Type 0} → Option A → (A → Option B) → Option B
(Some x) >>= f = f x
None >>= f = None

-- the first that is there
abbrev pub or_else : {A : Type 0} → Option A → Option A → Option A
or_else (Some x) o = Some x
or_else None o = o

-- bytes, on a condition
abbrev pub when : Bool → List ℕ → Option (List ℕ)
when true b = Some b
when false b = None
