-- What is consumed in front of an array's elements.
use Rattle.std.specs.Prelude.{◌≡◌, ◌⊎◌, ℕ, Bool, true, List, [], ◌∷◌, Some, None, Result, Ok, Err}
use Rattle.amqp_base.specs.declared.error.Error.{Error}
use Rattle.amqp_base.specs.declared.error.Error.TheVariants.{InvalidFormatCode}
use Rattle.amqp_base.specs.declared.format_code.EncodingCodes.{EncodingCodes}
use Rattle.amqp_base.specs.declared.format_code.Category.TheVariants as category
use Rattle.amqp_base.specs.Codes.{Kind, row, code_of}
use Rattle.amqp_base.specs.Item.{Descriptor}
use Rattle.amqp_base.specs.Parse.{Parsed, Heading, array_at, seq_data, behind_byte}
use Rattle.amqp_base.specs.Wire.{Constructor, Spells, DescriptorText}
use Rattle.amqp_read.specs.Reading.{Reading, Takes}
use Rattle.amqp_data.specs.Parts.{limit_at, OpensData, HasElements}
use Rattle.amqp_data.specs.Places.{constructor_of, limit_of, room_of}
use Rattle.amqp_data.specs.Steps.{ParsesAs, Rejects}
use Rattle.amqp_base.specs.Refusals.{StandsFor}
use Rattle.amqp_data.specs.declared.heading.Heading.{Heading as OwnHeading}

-- the refusal that the bytes call for, whatever the text of a message
abbrev pub RejectsFor : {A : Type 0} → (Error → List ℕ → Parsed A) → Bool → Reading → Reading → Error → Type 0
RejectsFor parse buffers old new e = (custom : Error) → StandsFor custom e → Rejects true buffers (parse custom) old new e

-- a descriptor with its own code
pub record TakesDescriptor (d : Descriptor) (old new : Reading) : Type 0 where
  pub text : List ℕ
  pub spelled : DescriptorText text d
  pub step : Takes old new text

-- the constructor of an array's elements
pub record TakesConstructor (c : Constructor) (old new : Reading) : Type 0 where
  pub text : List ℕ
  pub spelled : Spells text c
  pub step : Takes old new text

-- the byte of a primitive code
pub record TakesPrimitive (e : EncodingCodes) (old new : Reading) : Type 0 where
  pub byte : ℕ
  pub code_is : code_of byte ≡ Some e
  pub step : Takes old new (byte ∷ [])

-- the answer for a byte: its primitive code, or a refusal
abbrev pub PrimitiveOf : ℕ → Result EncodingCodes Error → Type 0
PrimitiveOf b (Ok e) = code_of b ≡ Some e
PrimitiveOf b (Err e) = (e ≡ InvalidFormatCode) × (code_of b ≡ None)

-- the byte is that of an array's code, whose size and count have w bytes each
pub record IsArray (byte w : ℕ) : Type 0 where
  pub code : EncodingCodes
  pub code_is : code_of byte ≡ Some code
  pub kind : (row code).kind ≡ Kind.array
  pub category : (row code).category ≡ category.Array w
  pub wide : (w ≡ 1) ⊎ (w ≡ 4)
  pub parse : (custom : Error) (s : List ℕ) → seq_data custom code s ≡ array_at custom w s

-- what stands in front of elements, as it was read
abbrev pub heading_of : OwnHeading → Heading
heading_of h = record { of_array = h.is_array; count = h.left; stands = constructor_of h.stands; room = room_of h.limit }

-- data of the code were begun, whose elements follow
pub record Heads (byte : ℕ) (old new : Reading) (h : OwnHeading) : Type 0 where
  pub opens : OpensData HasElements byte old new (constructor_of h.stands) h.left (limit_of h.limit)
  pub exact : (custom : Error) → ParsesAs (behind_byte (seq_data custom) byte) old new (heading_of h)
  pub limit : limit_of h.limit ≡ limit_at new.taken (room_of h.limit)
