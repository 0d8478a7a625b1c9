-- A struct under a descriptor that is read part by part.
use Rattle.std.specs.Prelude.{◌≡◌, ℕ, Bool, false, ◌||◌, IsTrue, List, Option, None, Result, Ok, Err}
use Rattle.amqp_base.specs.declared.error.Error.{Error}
use Rattle.amqp_base.specs.declared.error.Error.TheVariants.{InvalidValue}
use Rattle.amqp_base.specs.declared.format_code.EncodingCodes.{EncodingCodes}
use Rattle.amqp_base.specs.Codes.{Kind}
use Rattle.amqp_base.specs.Describing.{describing_at, is_described_of, means_described, kind_data}
use Rattle.amqp_base.specs.Item.{Descriptor, Item, Items, described, scalar, list, map, array}
use Rattle.amqp_base.specs.Meaning.{Meaning}
use Rattle.amqp_base.specs.Parse.{Parsed, ◌>>=◌, item_at, list_data, map_data}
use Rattle.amqp_base.specs.Wire.{Constructor}
use Rattle.amqp_types.specs.declared.described.Descriptor.{Descriptor as OwnDescriptor}
use Rattle.amqp_types.specs.Descriptors.{descriptor_of}
use Rattle.amqp_data.specs.Arrays.{RejectsFor}
use Rattle.amqp_data.specs.Parts.{HasParts, HasPairs}
use Rattle.amqp_de.specs.Access.{Listing, Opens, OpensExactly, Part, AllRead, Plain}
use Rattle.amqp_de.specs.Calls.{NextElement, ElementNamed, ValueAnswer, ValueNamed}
use Rattle.amqp_de.specs.Decoding.{Decoding, stands_under}
use Rattle.amqp_de.specs.Describes.{Describes}
use Rattle.amqp_de.specs.Law.{Found}
use Rattle.amqp_de.specs.NotNull.{not_null, not_null_refusal}
use Rattle.amqp_de.specs.ReadPairs.{KeyNext, NextKey, NextEntry, TurnNamed, EntryTurnNamed, ended_access}
use Rattle.amqp_de.specs.declared.list.Access.{Access}
use Rattle.amqp_de.specs.declared.list.Open.{Open}
use Rattle.amqp_de.specs.declared.described_structs.Encoding.{Encoding}
use Rattle.amqp_de.specs.declared.described_structs.Encoding.TheVariants as by
use Rattle.amqp_de.specs.declared.described_structs.Stage.{Stage}
use Rattle.amqp_de.specs.declared.described_structs.Stage.TheVariants as at

-- the header behind a descriptor, by the struct's name: of one value alone none is looked at
abbrev pub header_behind : Encoding → Error → Constructor → List ℕ → Parsed ℕ
header_behind by.List custom c s = item_at (kind_data Kind.list list_data custom) c s
header_behind by.Map custom c s = item_at (kind_data Kind.map map_data custom) c s
header_behind by.Basic custom c s = Ok (1, s)

-- a descriptor and that header
abbrev pub described_at : Encoding → Error → Constructor → List ℕ → Parsed ℕ
described_at x custom c s = describing_at custom c s >>= λ d. header_behind x custom d.0.stands d.1

-- a list or a map was opened
pub record PartsBehind (Has : Item → Items → Type 0) (parse : Error → EncodingCodes → List ℕ → Parsed ℕ) (old : Decoding) (l : Listing) : Type 0 where
  pub opens : Opens Has old l
  pub exact : (custom : Error) → OpensExactly (parse custom) old l
  pub plain : Plain l

-- one value is left, which stands next
abbrev pub one_left : Decoding → Listing
one_left d = record { state = record { reading = d.reading; ended = d.ended; inherited = stands_under d; described = false; begun = d.begun }; left = 1; outer = d.inherited; limit = None }

abbrev pub OpensBehind : Encoding → Decoding → Listing → Type 0
OpensBehind by.List old l = PartsBehind HasParts (kind_data Kind.list list_data) old l
OpensBehind by.Map old l = PartsBehind HasPairs (kind_data Kind.map map_data) old l
OpensBehind by.Basic old l = l ≡ one_left old

-- no such header stands there
pub record NoneBehind (x : Encoding) (buffers : Bool) (old new : Decoding) (e : Error) : Type 0 where
  pub rejects : old.ended ≡ false → RejectsFor (λ custom. header_behind x custom (stands_under old)) buffers old.reading new.reading e
  pub ended : IsTrue new.ended

-- a described item of this descriptor whose value has these parts
abbrev pub Behind : Descriptor → (Item → Items → Type 0) → Item → Items → Type 0
Behind d Has (described e v) js = (e ≡ d) × Has v js
Behind d Has (scalar v) js = ⊥
Behind d Has (list is) js = ⊥
Behind d Has (map ps) js = ⊥
Behind d Has (array is) js = ⊥

-- so the described item was opened; or it is read once its one value is
abbrev pub OpensItem : Encoding → Descriptor → Decoding → Listing → Type 0
OpensItem by.List d old l = Opens (Behind d HasParts) old l
OpensItem by.Map d old l = Opens (Behind d HasPairs) old l
OpensItem by.Basic d old l = (takes : Item → Bool) (next : Listing) (new : Decoding) → (p : Part takes (λ i. Unit {0}) l next) → AllRead next new → Found (is_described_of takes) (means_described (λ i. i ≡ p.front.item) d) old new

-- the descriptor was answered, and what stands behind it opened
pub record DescriptorRead (x : Encoding) (d : Descriptor) (old : Decoding) (l : Listing) : Type 0 where
  pub mid : Decoding
  pub describes : Describes d old mid
  pub opened : OpensBehind x mid l
  pub item : OpensItem x d old l

-- it was not: by the first rule that the bytes break
pub record NoDescribed (x : Encoding) (buffers : Bool) (old new : Decoding) (e : Error) : Type 0 where
  pub if_ended : IsTrue old.ended → (e ≡ InvalidValue) × (new ≡ old)
  pub rejects : old.ended ≡ false → RejectsFor (λ custom. described_at x custom (stands_under old)) buffers old.reading new.reading e
  pub ended : IsTrue new.ended

-- ---- what the calls of an access give

-- what is read behind the descriptor
abbrev pub behind : Encoding → Stage
behind by.List = at.Elements
behind by.Map = at.Entries
behind by.Basic = at.Elements

-- how far it was read
abbrev pub stage : {X : Type 0} → Access X Stage Open → Stage
stage a = a.form

-- a call out of order, or of another form
abbrev pub OutOfOrder : {A : Type 0} → Listing → Result A Error → Listing → Type 0
OutOfOrder old r new = (r ≡ Err InvalidValue) × (new ≡ ended_access old)

abbrev pub DescriptorAnswer : Bool → Stage → Listing → Result OwnDescriptor Error → Stage → Listing → Type 0
DescriptorAnswer buffers (at.Before x) old (Ok d) next new = (next ≡ behind x) × DescriptorRead x (descriptor_of d) old.state new
DescriptorAnswer buffers (at.Before x) old (Err e) next new = NoDescribed x buffers old.state new.state e
DescriptorAnswer buffers at.Elements old r next new = OutOfOrder old r new
DescriptorAnswer buffers at.Entries old r next new = OutOfOrder old r new

abbrev pub DescribedElement : {T : Type 0} → Meaning T → Bool → Stage → Listing → Result (Option T) Error → Listing → Type 0
DescribedElement m buffers at.Elements old r new = NextElement m buffers old r new
DescribedElement m buffers at.Entries old r new = OutOfOrder old r new
DescribedElement m buffers (at.Before x) old r new = OutOfOrder old r new

abbrev pub DescribedKey : {K : Type 0} → Meaning K → Bool → Stage → Listing → Result (Option K) Error → Listing → Type 0
DescribedKey m buffers at.Entries old r new = NextKey (not_null m.takes) m.means (m.grows || buffers) buffers old r new
DescribedKey m buffers at.Elements old r new = OutOfOrder old r new
DescribedKey m buffers (at.Before x) old r new = OutOfOrder old r new

abbrev pub DescribedValue : {V : Type 0} → Meaning V → Bool → Stage → Listing → Result V Error → Listing → Type 0
DescribedValue m buffers at.Entries old r new = ValueAnswer m buffers old r new
DescribedValue m buffers at.Elements old r new = OutOfOrder old r new
DescribedValue m buffers (at.Before x) old r new = OutOfOrder old r new

abbrev pub DescribedEntry : {K V : Type 0} → Meaning K → Meaning V → Bool → Stage → Listing → Result (Option (K × V)) Error → Listing → Type 0
DescribedEntry k v buffers at.Entries old r new = NextEntry (not_null k.takes) v.takes k.means v.means (k.grows || buffers) (v.grows || buffers) buffers old r new
DescribedEntry k v buffers at.Elements old r new = OutOfOrder old r new
DescribedEntry k v buffers (at.Before x) old r new = OutOfOrder old r new

-- ---- and refuses by name

abbrev pub DescribedElementNamed : {T : Type 0} → Meaning T → Bool → Stage → Listing → Listing → Error → Type 0
DescribedElementNamed m buffers at.Elements old new e = ElementNamed m buffers old new e
DescribedElementNamed m buffers at.Entries old new e = Unit {0}
DescribedElementNamed m buffers (at.Before x) old new e = Unit {0}

abbrev pub DescribedKeyNamed : {K : Type 0} → Meaning K → Bool → Stage → Listing → Listing → Error → Type 0
DescribedKeyNamed m buffers at.Entries old new e = TurnNamed KeyNext (not_null m.takes) (not_null_refusal m.refuses) (m.grows || buffers) buffers old new e
DescribedKeyNamed m buffers at.Elements old new e = Unit {0}
DescribedKeyNamed m buffers (at.Before x) old new e = Unit {0}

abbrev pub DescribedValueNamed : {V : Type 0} → Meaning V → Bool → Stage → Listing → Listing → Error → Type 0
DescribedValueNamed m buffers at.Entries old new e = ValueNamed m buffers old new e
DescribedValueNamed m buffers at.Elements old new e = Unit {0}
DescribedValueNamed m buffers (at.Before x) old new e = Unit {0}

abbrev pub DescribedEntryNamed : {K V : Type 0} → Meaning K → Meaning V → Bool → Stage → Listing → Listing → Error → Type 0
DescribedEntryNamed k v buffers at.Entries old new e = EntryTurnNamed (not_null k.takes) v.takes k.means (not_null_refusal k.refuses) v.refuses (k.grows || buffers) (v.grows || buffers) buffers old new e
DescribedEntryNamed k v buffers at.Elements old new e = Unit {0}
DescribedEntryNamed k v buffers (at.Before x) old new e = Unit {0}
