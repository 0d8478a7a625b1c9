-- What calls give that look which variant of an enum stands next.
use Rattle.std.specs.Prelude.{◌≡◌, ℕ, max, ◌≤◌, Bool, true, false, IsTrue, List, ◌++◌, length, Some, Ok, string_bytes}
use Rattle.amqp_base.specs.declared.error.Error.{Error}
use Rattle.amqp_base.specs.declared.error.Error.TheVariants.{InvalidFormatCode, OutOfMemory}
use Rattle.amqp_base.specs.Describing.{describing_at}
use Rattle.amqp_base.specs.Identifiers.{Identifier, by_index, by_name, by_descriptor, by_code, is_key, IsKey}
use Rattle.amqp_base.specs.Item.{Descriptor, name, code, Item, described}
use Rattle.amqp_base.specs.Parse.{descriptor_at}
use Rattle.amqp_base.specs.Wire.{Constructor, bare, under, under_pair, Wire, lenient}
use Rattle.amqp_read.specs.Raw.{MayBeTaken}
use Rattle.amqp_read.specs.Reading.{Reading, Stays}
use Rattle.amqp_data.specs.Ahead.{ShowsDescriptor, RejectsAhead}
use Rattle.amqp_de.specs.declared.identifiers.Identifier.{Identifier as OwnIdentifier}
use Rattle.amqp_de.specs.declared.identifiers.Identifier.TheVariants as own
use Rattle.amqp_de.specs.Decoding.{Decoding, stands_under}
use Rattle.amqp_de.specs.Law.{Found}
use Rattle.amqp_de.specs.Look.{Looks}

abbrev pub identifier_of : OwnIdentifier → Identifier
identifier_of (own.Index n) = by_index n
identifier_of (own.Name s) = by_name (string_bytes s)
identifier_of (own.DescriptorName s) = by_descriptor (name (string_bytes s))
identifier_of (own.DescriptorCode n) = by_descriptor (code n)
identifier_of (own.Code e) = by_code e

abbrev pub any_item : Item → Bool
any_item i = true

-- ---- a descriptor that is looked at, where a described item stands

-- what was seen of one, by what the item stands under
abbrev pub SeenUnder : Constructor → Descriptor → Reading → Reading → Type 0
SeenUnder bare d old new = ShowsDescriptor 1 d old new
SeenUnder (under e) d old new = ⊥
SeenUnder (under_pair f e) d old new = (f ≡ d) × (new ≡ old)

abbrev pub UnseenUnder : Constructor → Bool → Reading → Reading → Error → Type 0
UnseenUnder bare buffers old new err = RejectsAhead 1 buffers (descriptor_at InvalidFormatCode) old new err
UnseenUnder (under e) buffers old new err = (err ≡ InvalidFormatCode) × (new ≡ old)
UnseenUnder (under_pair f e) buffers old new err = (err ≡ OutOfMemory) × (new ≡ old)

pub record DescriptorSeen (d : Descriptor) (old new : Decoding) : Type 0 where
  pub seen : SeenUnder (stands_under old) d old.reading new.reading
  pub not_ended : new.ended ≡ false
  pub inherited : new.inherited ≡ old.inherited
  pub described : new.described ≡ old.described
  pub begun : new.begun ≡ old.begun

pub record DescriptorUnseen (buffers : Bool) (old new : Decoding) (e : Error) : Type 0 where
  pub unseen : UnseenUnder (stands_under old) buffers old.reading new.reading e
  pub ended : IsTrue new.ended
  pub begun : new.begun ≡ old.begun

-- the item of these bytes is behind this descriptor, and no byte behind it was received
pub record IsBehind (d : Descriptor) (t : List ℕ) (i : Item) (old new : Reading) : Type 0 where
  pub value : Item
  pub is : i ≡ described d value
  pub received : length new.received ≤ max (length old.received) (length t)

-- The descriptor of the next item is this one: of the item that is known to stand there, and of whichever is taken next.
-- Nothing was consumed or begun, and none behind the item was received.
pub record ShowsDescribed (d : Descriptor) (old new : Decoding) : Type 0 where
  pub stays : Stays old.reading new.reading
  pub not_ended : new.ended ≡ false
  pub inherited : new.inherited ≡ old.inherited
  pub described : new.described ≡ old.described
  pub begun : new.begun ≡ old.begun
  pub exact : (s : List ℕ) → old.reading.to_come ≡ Some s → (stands : Constructor) × (rest : List ℕ) × (describing_at InvalidFormatCode (stands_under old) s ≡ Ok (record { descriptor = d; stands = stands }, rest))
  pub own : (t rest : List ℕ) (i : Item) → Wire lenient (stands_under old) t i → old.reading.to_come ≡ Some (t ++ rest) → IsBehind d t i old.reading new.reading
  pub next : (t : List ℕ) (i : Item) → Wire lenient (stands_under old) t i → MayBeTaken new.reading t → IsBehind d t i old.reading new.reading

-- ---- what says which variant stands next

-- a key was consumed; a descriptor or a code is there, and stays
abbrev pub Identifies : Identifier → Decoding → Decoding → Type 0
Identifies (by_index n) old new = Found is_key (IsKey (by_index n)) old new
Identifies (by_name b) old new = Found is_key (IsKey (by_name b)) old new
Identifies (by_descriptor d) old new = ShowsDescribed d old new
Identifies (by_code e) old new = Looks old new e

-- the same, where a key stays, too
abbrev pub Ignores : Identifier → Decoding → Decoding → Type 0
Ignores (by_index n) old new = ⊥
Ignores (by_name b) old new = ⊥
Ignores (by_descriptor d) old new = ShowsDescribed d old new
Ignores (by_code e) old new = Looks old new e
