-- What the two passes give.
use Rattle.std.specs.Prelude.{◌≡◌, ◌≤◌, ◌⊎◌, ◌++◌, ◌∷◌, [], ℕ, List, map, take, length, min, Option, Some}
use Rattle.amqp_base.specs.Item.{Item}
use Rattle.amqp_base.specs.Canon.{canon}
use Rattle.amqp_base.specs.Sizes.{Size, sizes}
use Rattle.std.specs.declared.io.ErrorKind.TheVariants.{Other}
use Rattle.amqp_base.specs.declared.error.Error.{Error}
use Rattle.amqp_base.specs.declared.error.Error.TheVariants.{Io}
use Rattle.amqp_write.specs.Texts.{HasNoText}
use Rattle.amqp_write.specs.declared.sizes.Sizes.{Sizes}
use Rattle.amqp_write.specs.declared.pass.Measure.{Measure}
use Rattle.amqp_write.specs.State.{size_in}

-- those that a list in code holds, in order
abbrev pub listed : Sizes → List Size
listed z = map size_in (take z.count z.few ++ z.more.items)

-- there is a place for one more, behind them all
abbrev pub HasPlace : List Size → ℕ → List Size → Type 0
HasPlace old at new = (z : Size) × (at ≡ length old) × (new ≡ old ++ z ∷ [])

-- the item has a text of so many bytes, as far as a usize counts, and these sizes
pub record IsSize (i : Item) (n : ℕ) (l : List Size) : Type 0 where
  pub bytes : List ℕ
  pub text : canon i ≡ Some bytes
  pub counted : n ≡ min (length bytes) 18446744073709551615
  pub listed : l ≡ sizes i

-- there is no text, or none of fewer bytes than a usize can count; and this is the refusal
abbrev pub NoSize : Item → Error → Type 0
NoSize i e = HasNoText i e ⊎ ((e ≡ Io Other) × ((b : List ℕ) → canon i ≡ Some b → 18446744073709551615 ≤ length b))

-- a text of so many bytes
abbrev pub HasLength : Option (List ℕ) → ℕ → Type 0
HasLength o n = (b : List ℕ) × (o ≡ Some b) × (n ≡ length b)

-- what was measured is the item's length, as far as a usize counts, and its sizes
abbrev pub IsMeasureOf : Item → Measure → Type 0
IsMeasureOf i m = IsSize i m.length (listed m.sizes)
