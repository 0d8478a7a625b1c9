-- What a reader is to its callers.
use Rattle.std.specs.Prelude.{◌≡◌, ℕ, ◌+◌, ◌≤◌, Bool, List, [], ◌∷◌, length, take, drop, Option, ⊤}
use Rattle.std.specs.Borrow.{GName}
use Rattle.std.specs.Io.KnownBytes.{Consumes, Keeps}
use Rattle.std.specs.declared.io.ErrorKind.{ErrorKind}

pub record Reading : Type 0 where
  -- the bytes to come, where the source tells them
  pub to_come : Option (List ℕ)
  -- how many bytes were consumed
  pub taken : ℕ
  -- those of the bytes to come that were received from the source already
  pub received : List ℕ
  -- how many faults the source has answered
  pub faults : ℕ
  -- and the kind of the last of them
  pub last_fault : Option ErrorKind
  -- 0 bytes for a buffer that isn't empty come only at the source's end
  pub honest : Bool
  -- the references through which the source is lent
  pub origin : List GName

-- the lists are the same as far as both go
abbrev pub Agree : List ℕ → List ℕ → Type 0
Agree [] ys = ⊤
Agree (x ∷ xs) [] = ⊤
Agree (x ∷ xs) (y ∷ ys) = (x ≡ y) × Agree xs ys

-- what every call keeps
pub record Steady (old new : Reading) : Type 0 where
  pub honest : new.honest ≡ old.honest
  pub origin : new.origin ≡ old.origin
  pub faults : old.faults ≤ new.faults
  pub taken : old.taken ≤ new.taken

-- nothing was consumed, and the received bytes stay in front
pub record Stays (old new : Reading) : Type 0 where
  pub to_come : Keeps old.to_come new.to_come
  pub taken : new.taken ≡ old.taken
  pub received : take (length old.received) new.received ≡ old.received
  pub steady : Steady old new

-- these bytes were consumed, those that were received first, and nothing behind them was received
pub record Takes (old new : Reading) (bytes : List ℕ) : Type 0 where
  pub to_come : Consumes old.to_come new.to_come bytes
  pub taken : new.taken ≡ old.taken + length bytes
  pub received : new.received ≡ drop (length bytes) old.received
  pub agrees : Agree old.received bytes
  pub steady : Steady old new
