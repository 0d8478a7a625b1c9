-- The law of writing.
use Rattle.std.specs.Prelude.{◌≡◌, ◌⊎◌, ℕ, ◌+◌, ◌<◌, ◌≤◌, ◌==◌, ◌&&◌, Bool, true, false, List, [], ◌∷◌, ◌++◌, length, drop, min, Option, None, Some, Result, Err, OnOk, OnErr, IfErr}
use Rattle.std.specs.Io.KnownBytes.{Appends}
use Rattle.amqp_base.specs.Item.{Item}
use Rattle.amqp_base.specs.Wire.{Constructor}
use Rattle.amqp_base.specs.Canon.{◌>>=◌, when, kind_code}
use Rattle.amqp_base.specs.Sizes.{Size, sizes}
use Rattle.amqp_base.specs.Faults.{Extends, IsFault}
use Rattle.amqp_base.specs.declared.error.Error.{Error}
use Rattle.amqp_base.specs.declared.error.Error.TheVariants.{OutOfMemory, InvalidValue}
pub use Rattle.amqp_base.specs.Refusals.{IsDevice}
use Rattle.amqp_write.specs.State.{State, Mark, unmarked, first, other, Planned, Measured}
unfoldable pub use Rattle.amqp_write.specs.Texts.{placed, marked, unwritten, why_unwritten}

abbrev pub found_after : Mark → Option Constructor → Option Constructor → Option Constructor
found_after unmarked c old = old
found_after first c old = c
found_after (other d) c old = old

abbrev pub same_size : Size → Size → Bool
same_size a b = a.length == b.length && a.count == b.count

abbrev pub begins : List Size → List Size → Bool
begins p [] = true
begins [] (x ∷ xs) = false
begins (y ∷ ys) (x ∷ xs) = same_size y x && begins ys xs

abbrev pub is_next : Option Planned → List Size → Bool
is_next None l = true
is_next (Some p) l = begins p.sizes l

-- these sizes are next in the plan
unfoldable pub fits : State → List Size → ℕ → Bool
fits s l n = is_next s.plan l

-- what is appended for an item, where there is something
unfoldable pub text_for : State → Item → Option (List ℕ)
text_for s i = marked s.mark i >>= λ b. when (fits s (sizes i) (length b)) b

abbrev pub plan_after : Option Planned → List Size → List ℕ → Option Planned
plan_after None l b = None
plan_after (Some p) l b = Some (record { bytes = p.bytes ++ b; sizes = drop (length l) p.sizes })

-- beyond what a usize holds nothing is counted
abbrev pub measure_after : Option Measured → List Size → ℕ → Option Measured
measure_after None l n = None
measure_after (Some m) l n = Some (record { length = min (m.length + n) 18446744073709551615; sizes = m.sizes ++ l })

-- from s to t by so many bytes
pub record Goes (s : State) (bytes : List ℕ) (l : List Size) (t : State) : Type 0 where
  pub fits : fits s l (length bytes) ≡ true
  pub appended : Appends s.contents t.contents bytes
  pub plan : t.plan ≡ plan_after s.plan l bytes
  pub measure : t.measure ≡ measure_after s.measure l (length bytes)
  pub setting : t.setting ≡ s.setting

-- from s to t by appending the item's text
pub record Took (s : State) (i : Item) (t : State) : Type 0 where
  pub bytes : List ℕ
  pub text : marked s.mark i ≡ Some bytes
  pub goes : Goes s bytes (sizes i) t
  pub mark : t.mark ≡ s.mark
  pub found : t.found ≡ found_after s.mark (kind_code i) s.found

-- the item has no text here; where no sizes are planned it is refused by name
pub record Unwritten (s : State) (i : Item) (e : Error) : Type 0 where
  pub none : text_for s i ≡ None
  pub named : s.plan ≡ None → e ≡ why_unwritten i

-- why an item may be refused
abbrev pub MayRefuse : State → Item → Error → State → Type 0
MayRefuse s i e t = (e ≡ OutOfMemory) ⊎ ((IsFault t.last_fault e × (s.faults < t.faults)) ⊎ Unwritten s i e)

-- what every call keeps, whatever it answers
pub record Kept (s t : State) : Type 0 where
  pub bytes : Extends s.contents t.contents
  pub faults : s.faults ≤ t.faults
  pub grows : t.grows ≡ s.grows

-- the item was written
pub record Wrote (s : State) (i : Item) (t : State) : Type 0 where
  pub kept : Kept s t
  pub took : s.ended ≡ false → Took s i t
  pub answers : s.ended ≡ false → t.ended ≡ false

-- the item was refused
pub record Refused (s : State) (i : Item) (e : Error) (t : State) : Type 0 where
  pub kept : Kept s t
  pub device : IsDevice e → s.faults < t.faults
  pub cause : s.ended ≡ false → MayRefuse s i e t

-- what holds of the serializer's own calls beside
pub record Stops {A : Type 0} (s : State) (r : Result A Error) (t : State) : Type 0 where
  pub err : OnErr r (t.ended ≡ true)
  pub ended : s.ended ≡ true → (r ≡ Err InvalidValue) × (t ≡ s)

-- want of memory comes only where the writer grows or answered a fault
abbrev pub Spares : {A : Type 0} → State → Result A Error → State → Type 0
Spares s r t = IfErr r (λ e. e ≡ OutOfMemory → (s.grows ≡ true) ⊎ (s.faults < t.faults))

-- what a call that writes an item does
pub record Writes {A : Type 0} (s : State) (i : Item) (r : Result A Error) (t : State) : Type 0 where
  pub ok : OnOk r (Wrote s i t)
  pub err : IfErr r (λ e. Refused s i e t)
  pub stops : Stops s r t
  pub spares : Spares s r t
