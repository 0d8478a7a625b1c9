-- What stands in front of a described value.
use Rattle.std.specs.Prelude.{◌≡◌, true, ℕ, List, ◌∷◌, Option, Some, None, ⊤}
use Rattle.amqp_base.specs.Item.{Descriptor, descriptor_item, Item, described}
use Rattle.amqp_base.specs.Wire.{under_pair}
use Rattle.amqp_base.specs.Canon.{◌>>=◌, descriptor_text, same_descriptor}
use Rattle.amqp_base.specs.declared.error.Error.{Error}
use Rattle.amqp_write.specs.State.{Mark, unmarked, first, other}
use Rattle.amqp_write.specs.Texts.{marked, payload_length, unwritten}
use Rattle.amqp_write.specs.declared.described.Behind.{Behind}
use Rattle.amqp_write.specs.declared.described.Behind.TheVariants.{Alone, First, Another, Nowhere}

-- 0x00 and a descriptor (1.2), where it has a text
abbrev pub describing : Descriptor → Option (List ℕ)
describing d = descriptor_text d >>= λ a. Some (0x00 ∷ a)

-- why a descriptor isn't written: it is too long
abbrev pub why_undescribed : Descriptor → Error
why_undescribed d = unwritten (payload_length (descriptor_item d))

-- an item that stands there has its own constructor
abbrev pub IsOwn : Mark → Type 0
IsOwn unmarked = ⊤
IsOwn first = ⊤
IsOwn (other c) = ⊥

-- what stands under this mark, where it stands behind this descriptor
abbrev pub StandsAs : Mark → Descriptor → Behind → Type 0
StandsAs m d Alone = m ≡ unmarked
StandsAs m d First = m ≡ first
StandsAs m d (Another e) = (f : Descriptor) × (m ≡ other (under_pair f e)) × (same_descriptor f d ≡ true)
StandsAs m d Nowhere = (v : Item) → marked m (described d v) ≡ None
