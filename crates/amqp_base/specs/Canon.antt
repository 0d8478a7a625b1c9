-- The one text that is written for an item: its canonical text.
use Rattle.std.specs.Prelude.{ℕ, if◌then◌else◌, List, [], ◌∷◌, ◌++◌, Option, Some, None}
use Rattle.amqp_base.specs.Item.{Item, scalar, list, map, array, described, Items, none, more, Pairs, no_pairs, pair, count, in_turn}
use Rattle.amqp_base.specs.Wire.{Constructor}
pub use Rattle.amqp_base.specs.Partial.{◌>>=◌, or_else, when}
unfoldable pub use Rattle.amqp_base.specs.ScalarBody.{kind_of, unsigned, in_two's_complement, magnitude, twos, exactly, limit, sized, scalar_body}
unfoldable pub use Rattle.amqp_base.specs.ScalarText.{short_number, short_signed, short_payload, short_text, wide_text, scalar_text}
unfoldable pub use Rattle.amqp_base.specs.Headers.{headed, wide_body, compound_text, list_text}
unfoldable pub use Rattle.amqp_base.specs.KindCode.{code_under, behind, kind_code, descriptor_text, constructor_text, same_descriptor, same_constructor, is_under}

unfoldable mutual
  -- The text of an item with its own constructor (1.2), where it has one. Which of its encodings is written is this
  -- profile's own rule.
  pub canon : Item → Option (List ℕ)
  canon (scalar v) = scalar_text v
  canon (list is) = canons is >>= λ b. list_text (count is) b
  canon (map ps) = pair_canons ps >>= λ b. compound_text 0xc1 0xd1 (count (in_turn ps)) b
  canon (array is) = array_body is >>= λ b. compound_text 0xe0 0xf0 (count is) b
  canon (described d v) = descriptor_text d >>= λ a. canon v >>= λ b. Some (0x00 ∷ a ++ b)

  -- the texts of the items of a list, one after the other (1.2.3)
  pub canons : Items → Option (List ℕ)
  canons none = Some []
  canons (more i is) = canon i >>= λ a. canons is >>= λ b. Some (a ++ b)

  -- the texts of the keys and values of a map in turn (1.6.23)
  pub pair_canons : Pairs → Option (List ℕ)
  pair_canons no_pairs = Some []
  pair_canons (pair k v ps) = canon k >>= λ a. canon v >>= λ b. pair_canons ps >>= λ t. Some (a ++ (b ++ t))

  -- the data of an item under its kind code (1.2.4)
  pub body : Item → Option (List ℕ)
  body (scalar v) = scalar_body v
  body (list is) = canons is >>= λ b. wide_body (count is) b
  body (map ps) = pair_canons ps >>= λ b. wide_body (count (in_turn ps)) b
  body (array is) = array_body is >>= λ b. wide_body (count is) b
  body (described d v) = body v

  -- The constructor of an array's elements, and the data of each (1.2.4). An empty array has neither: this profile's own
  -- rule.
  pub array_body : Items → Option (List ℕ)
  array_body none = Some []
  array_body (more i is) = kind_code i >>= λ c. constructor_text c >>= λ m. body i >>= λ a. bodies c is >>= λ b. Some (m ++ (a ++ b))

  -- the data of elements that all stand under one constructor
  pub bodies : Constructor → Items → Option (List ℕ)
  bodies c none = Some []
  bodies c (more i is) = if is_under c (kind_code i) then (body i >>= λ a. bodies c is >>= λ b. Some (a ++ b)) else None
