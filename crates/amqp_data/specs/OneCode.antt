-- Kinds that have one code, of a fixed width.
use Rattle.std.specs.Prelude.{◌≡◌, ℕ, ◌==◌, ◌&&◌, ◌||◌, nat_lt, Bool, true, false, not, List, [], ◌∷◌, length, Some}
use Rattle.amqp_base.specs.declared.format_code.EncodingCodes.{EncodingCodes}
use Rattle.amqp_base.specs.declared.format_code.Category.{Category}
use Rattle.amqp_base.specs.declared.format_code.Category.TheVariants.{Fixed, Variable, Compound, Array}
use Rattle.amqp_base.specs.Codes.{Kind, row, codes, code_of}
use Rattle.amqp_base.specs.SameKind.{same_kind}
use Rattle.amqp_base.specs.Item.{Scalar, scalar}
use Rattle.amqp_base.specs.Value.{payload}
use Rattle.amqp_read.specs.Reading.{Reading, Takes}
use Rattle.amqp_data.specs.Steps.{IsData}

-- each of the codes of this kind has this byte
abbrev pub alone : Kind → ℕ → List EncodingCodes → Bool
alone k b [] = true
alone k b (e ∷ es) = (not (same_kind (row e).kind k) || ((row e).byte == b)) && alone k b es

abbrev pub has_width : ℕ → Category → Bool
has_width w (Fixed n) = n == w
has_width w (Variable n) = false
has_width w (Compound n) = false
has_width w (Array n) = false

-- a code of w bytes of data, and no other code is of its kind
unfoldable pub is_only : EncodingCodes → ℕ → Bool
is_only e w = nat_lt 0 (row e).byte && (has_width w (row e).category && alone (row e).kind (row e).byte codes)

-- the data of a code were consumed, if its byte is this one
pub record OnlyData (byte : ℕ) (e : EncodingCodes) (w : ℕ) (b : List ℕ) (old new : Reading) : Type 0 where
  pub len : length b ≡ w
  pub code : code_of byte ≡ Some e
  pub step : Takes old new b
  pub is : (v : Scalar) → payload e b ≡ Some v → IsData byte (scalar v) old new
