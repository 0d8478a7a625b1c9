-- The steps of writing: bytes, and the text of an item.
use Rattle.std.specs.Prelude.{◌≡◌, ◌⊎◌, ℕ, ◌<◌, true, false, List, [], ◌∷◌, length, Option, None, Some, Result, Ok, Err, OnOk, OnErr, IfErr}
use Rattle.amqp_base.specs.Codes.{row}
use Rattle.amqp_base.specs.declared.format_code.EncodingCodes.{EncodingCodes}
use Rattle.amqp_base.specs.Wire.{Constructor, under}
use Rattle.amqp_base.specs.Item.{Item}
use Rattle.amqp_base.specs.Canon.{◌>>=◌, or_else, when, short_payload, sized, kind_code}
use Rattle.amqp_base.specs.Sizes.{Size, sizes}
use Rattle.amqp_base.specs.Faults.{refusal_of, IsFault}
use Rattle.amqp_base.specs.declared.error.Error.{Error}
use Rattle.amqp_base.specs.declared.error.Error.TheVariants.{OutOfMemory}
use Rattle.amqp_write.specs.State.{State, Mark, unmarked, first, other}
use Rattle.amqp_write.specs.declared.refusal.Refusal.{Refusal}
use Rattle.amqp_write.specs.Law.{placed, marked, found_after, fits, Goes, IsDevice, Kept, Spares, why_unwritten}

-- the text of a text, under its widest code or a narrow one
unfoldable pub payload_at : Mark → ℕ → EncodingCodes → List ℕ → Option (List ℕ)
payload_at unmarked narrow e b = or_else (short_payload narrow b) (sized b >>= λ d. Some ((row e).byte ∷ d))
payload_at first narrow e b = placed first (Some (under e)) (sized b)
payload_at (other d) narrow e b = placed (other d) (Some (under e)) (sized b)

-- data of a fixed width, under its code
unfoldable pub fixed_at : Mark → EncodingCodes → List ℕ → Option (List ℕ)
fixed_at unmarked e d = Some ((row e).byte ∷ d)
fixed_at first e d = placed first (Some (under e)) (Some d)
fixed_at (other c) e d = placed (other c) (Some (under e)) (Some d)

-- the error that a refusal becomes
abbrev pub error_of : Refusal → Error
error_of (Refusal.Io kind) = refusal_of kind
error_of Refusal.InvalidValue = Error.InvalidValue

abbrev pub as_error : {A : Type 0} → Result A Refusal → Result A Error
as_error (Ok x) = Ok x
as_error (Err r) = Err (error_of r)

-- what appending bytes does
pub record Appended {A : Type 0} (s : State) (bytes : List ℕ) (r : Result A Error) (t : State) : Type 0 where
  pub kept : Kept s t
  pub device : IfErr r (λ e. IsDevice e → s.faults < t.faults)
  pub ok : OnOk r (Goes s bytes [] t × (t.mark ≡ s.mark) × (t.found ≡ s.found) × (t.ended ≡ s.ended))
  pub err : OnErr r (t.ended ≡ true)
  pub refused : IfErr r (λ e. (e ≡ OutOfMemory) ⊎ ((IsFault t.last_fault e × (s.faults < t.faults)) ⊎ (fits s [] (length bytes) ≡ false)))
  pub spares : Spares s r t

-- a text was appended
pub record AppendsText {A : Type 0} (s : State) (text : Option (List ℕ)) (r : Result A Error) (t : State) : Type 0 where
  pub bytes : List ℕ
  pub is : text ≡ Some bytes
  pub appended : Appended s bytes r t

-- there is no text, or not of these sizes; where none are planned it is refused by this name
pub record NotWritten (s : State) (text : Option (List ℕ)) (l : List Size) (why e : Error) : Type 0 where
  pub none : (text >>= λ b. when (fits s l (length b)) b) ≡ None
  pub named : s.plan ≡ None → e ≡ why

-- what writing a text does, where there is one: the constructor that was found, the sizes, and the refusal where there is none
pub record Pays {A : Type 0} (s : State) (text : Option (List ℕ)) (found : Option Constructor) (l : List Size) (why : Error) (r : Result A Error) (t : State) : Type 0 where
  pub kept : Kept s t
  pub device : IfErr r (λ e. IsDevice e → s.faults < t.faults)
  pub ok : OnOk r ((bytes : List ℕ) × (text ≡ Some bytes) × Goes s bytes l t × (t.mark ≡ s.mark) × (t.found ≡ found) × (t.ended ≡ false))
  pub err : OnErr r (t.ended ≡ true)
  pub refused : IfErr r (λ e. (e ≡ OutOfMemory) ⊎ ((IsFault t.last_fault e × (s.faults < t.faults)) ⊎ NotWritten s text l why e))
  pub spares : Spares s r t

-- the text of an item without parts
abbrev pub PaysItem : {A : Type 0} → State → Item → Error → Result A Error → State → Type 0
PaysItem s i why r t = Pays s (marked s.mark i) (found_after s.mark (kind_code i) s.found) [] why r t

-- a text whose constructor is this code, where it is a first element
abbrev pub PaysUnder : {A : Type 0} → State → EncodingCodes → Option (List ℕ) → Error → Result A Error → State → Type 0
PaysUnder s e text why r t = Pays s text (found_after s.mark (Some (under e)) s.found) [] why r t

-- writing an item: its own text, sizes and refusal
abbrev pub PaysWhole : {A : Type 0} → State → Item → Result A Error → State → Type 0
PaysWhole s i r t = Pays s (marked s.mark i) (found_after s.mark (kind_code i) s.found) (sizes i) (why_unwritten i) r t
