-- A sequence that was opened, in either form.
use Rattle.std.proofs.Common.{◌≡◌, ℕ, Bool, false}
use Rattle.amqp_base.specs.Item.{Item, scalar, list, map, array, described, Items}
use Rattle.amqp_base.specs.Wire.{Constructor}
use Rattle.amqp_read.specs.Reading.{Reading}
use Rattle.amqp_data.specs.Places.{constructor_of, limit_of, room_of}
use Rattle.amqp_de.specs.Steps.{Begins, IsDescribed}
use Rattle.amqp_de.specs.Decoding.{Decoding}
use Rattle.amqp_de.specs.Openings.{OpensElements}
use Rattle.amqp_de.proofs.Opening.{opened_state, opened_list, opens_under, heading_under}
use Rattle.amqp_data.specs.Parts.{HasElements}
use Rattle.amqp_data.specs.Arrays.{Heads}
use Rattle.amqp_data.specs.declared.heading.Heading.{Heading as OwnHeading}

-- ---- a sequence in either form

pub elements_plain : (i : Item) (is : Items) → HasElements i is → IsDescribed i → ⊥
elements_plain (list is) js p d = d
elements_plain (array is) js p d = d
elements_plain (scalar v) js p d = p
elements_plain (map ps) js p d = p
elements_plain (described d v) js p q = p

-- ---- so a list or an array is opened

pub elements_opened : (is_array : Bool) (old mid now : Decoding) (r : Reading) (x : ℕ) (outer : Constructor) (own : OwnHeading) → old.ended ≡ false → Begins old mid x → Heads x mid.reading r own → own.is_array ≡ is_array
    → now ≡ opened_state mid r (constructor_of own.stands) → outer ≡ mid.inherited → OpensElements is_array old (opened_list now outer own.left (limit_of own.limit))
elements_opened is_array old mid now r x outer own a b h e n o = record {
  opens = opens_under HasElements elements_plain old mid now r x (constructor_of own.stands) outer own.left (limit_of own.limit) a b h.opens n o;
  heading = heading_under is_array old mid now r x (constructor_of own.stands) outer own.left (limit_of own.limit) (room_of own.limit) b (λ custom. rw (← e) (h.exact custom)) h.limit n;
}
