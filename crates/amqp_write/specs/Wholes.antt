-- Lists, maps and arrays: where their parts stand, and the texts of the parts, of the header and of the whole.
use Rattle.std.specs.Prelude.{◌≡◌, ℕ, ◌==◌, ◌&&◌, ◌+◌, ◌%◌, ◌++◌, nat_le, Bool, true, false, if◌then◌else◌, List, [], ◌∷◌, length, Option, Some, None}
use Rattle.std.specs.Int.{bytes_high_first}
use Rattle.amqp_base.specs.declared.format_code.EncodingCodes.{EncodingCodes}
use Rattle.amqp_base.specs.declared.format_code.EncodingCodes.TheVariants.{List32, Map32, Array32}
use Rattle.amqp_base.specs.declared.shape.Shape.{Shape}
use Rattle.amqp_base.specs.Item.{Item, Items}
use Rattle.amqp_base.specs.Wire.{Constructor, under}
use Rattle.amqp_base.specs.Canon.{limit, canons, array_body, kind_code, compound_text, wide_body}
use Rattle.amqp_base.specs.Codes.{row}
use Rattle.amqp_base.specs.Sizes.{Size}
use Rattle.amqp_write.specs.State.{Mark, unmarked, first, other}
use Rattle.amqp_write.specs.Texts.{placed}
pub use Rattle.amqp_write.specs.Texts.{other_of}

abbrev pub shape_code : Shape → EncodingCodes
shape_code Shape.List = List32
shape_code Shape.Array = Array32
shape_code (Shape.Tuple n) = List32
shape_code Shape.Map = Map32
shape_code Shape.Fields = Map32

abbrev pub narrow_of : Shape → ℕ
narrow_of Shape.List = 0xc0
narrow_of Shape.Array = 0xe0
narrow_of (Shape.Tuple n) = 0xc0
narrow_of Shape.Map = 0xc1
narrow_of Shape.Fields = 0xc1

-- it is written as one byte
abbrev pub empty_list : Shape → ℕ → Bool
empty_list Shape.List n = n == 0
empty_list Shape.Array n = false
empty_list (Shape.Tuple k) n = n == 0
empty_list Shape.Map n = false
empty_list Shape.Fields n = false

-- the header of a compound of this size
unfoldable pub head_text : Shape → Mark → Size → Option (List ℕ)
head_text shape unmarked z =
    if empty_list shape z.length then Some (0x45 ∷ [])
    else if nat_le z.length 254 then Some (narrow_of shape ∷ (z.length + 1) ∷ (z.count % 256) ∷ [])
    else if nat_le z.length limit then Some ((row (shape_code shape)).byte ∷ (bytes_high_first 4 (z.length + 4) ++ bytes_high_first 4 (z.count % 4294967296)))
    else None
head_text shape first z = placed first (Some (under (shape_code shape))) (if nat_le z.length limit then Some (bytes_high_first 4 (z.length + 4) ++ bytes_high_first 4 (z.count % 4294967296)) else None)
head_text shape (other d) z = placed (other d) (Some (under (shape_code shape))) (if nat_le z.length limit then Some (bytes_high_first 4 (z.length + 4) ++ bytes_high_first 4 (z.count % 4294967296)) else None)

-- the text of a compound outside arrays, by what is written of its parts
abbrev pub shape_text : Shape → ℕ → List ℕ → Option (List ℕ)
shape_text shape k b = if empty_list shape (length b) then Some (0x45 ∷ []) else compound_text (narrow_of shape) (row (shape_code shape)).byte k b

unfoldable pub whole_text : Shape → Mark → ℕ → List ℕ → Option (List ℕ)
whole_text shape unmarked k b = shape_text shape k b
whole_text shape first k b = placed first (Some (under (shape_code shape))) (wide_body k b)
whole_text shape (other d) k b = placed (other d) (Some (under (shape_code shape))) (wide_body k b)

-- what is written of the parts
unfoldable pub parts_text : Shape → Items → Option (List ℕ)
parts_text Shape.List is = canons is
parts_text Shape.Array is = array_body is
parts_text (Shape.Tuple n) is = canons is
parts_text Shape.Map is = canons is
parts_text Shape.Fields is = canons is

-- the mark of the next part
unfoldable pub next_mark : Shape → List Item → Mark
next_mark Shape.List xs = unmarked
next_mark Shape.Array [] = first
next_mark Shape.Array (x ∷ xs) = other_of (kind_code x)
next_mark (Shape.Tuple n) xs = unmarked
next_mark Shape.Map xs = unmarked
next_mark Shape.Fields xs = unmarked

-- the mark behind a first element
abbrev pub turned : Mark → Option Constructor → Mark
turned unmarked c = unmarked
turned first c = other_of c
turned (other d) c = other d

abbrev pub is_map : Shape → Bool
is_map Shape.List = false
is_map Shape.Array = false
is_map (Shape.Tuple n) = false
is_map Shape.Map = true
is_map Shape.Fields = true

-- a key stands last, without its value
abbrev pub awaits_value : List Item → Bool
awaits_value [] = false
awaits_value (k ∷ []) = true
awaits_value (k ∷ v ∷ xs) = awaits_value xs

-- no key is without its value, where the parts are keys and values in turn
abbrev pub Complete : Bool → List Item → Type 0
Complete pairs xs = (pairs && awaits_value xs) ≡ false
