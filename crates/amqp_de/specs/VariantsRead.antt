-- A variant of an enum that is read: which it is, and what it holds.
use Rattle.std.specs.Prelude.{◌≡◌, ◌⊎◌, ℕ, ◌+◌, ◌<◌, ◌≤◌, ◌==◌, if◌then◌else◌, Bool, true, false, IsTrue, List, [], ◌∷◌, Some, Ok, Err}
use Rattle.amqp_base.specs.declared.error.Error.{Error}
use Rattle.amqp_base.specs.declared.error.Error.TheVariants.{InvalidFormatCode, InvalidValue}
use Rattle.amqp_base.specs.declared.format_code.EncodingCodes.{EncodingCodes}
use Rattle.amqp_base.specs.declared.format_code.EncodingCodes.TheVariants.{DescribedType, List8, List32, Map8, Map32}
use Rattle.amqp_base.specs.Codes.{row}
use Rattle.amqp_base.specs.Identifiers.{Identifier, is_key, IsKey, is_key_kind, key_at}
use Rattle.amqp_base.specs.Item.{Item, Items, none, more, count, list, map, in_turn}
use Rattle.amqp_base.specs.Parse.{Parsed, ◌>>=◌, byte_at, item_at}
use Rattle.amqp_base.specs.Variants as base
use Rattle.amqp_base.specs.Variants.{two_of, variant_at, has_variant}
use Rattle.amqp_base.specs.Wire.{Constructor, bare, under, under_pair}
use Rattle.amqp_read.specs.Reading.{Takes}
use Rattle.amqp_data.specs.Arrays.{RejectsFor}
use Rattle.amqp_base.specs.Refusals.{IsDevice}
use Rattle.amqp_data.specs.Excuses.{Advances}
use Rattle.amqp_data.specs.Steps.{Rejects}
use Rattle.amqp_de.specs.Access.{Listing, Opens, Plain}
use Rattle.amqp_de.specs.Decoding.{Decoding, stands_under}
use Rattle.amqp_de.specs.Identifies.{Ignores}
use Rattle.amqp_de.specs.Law.{Found, Missed}
use Rattle.amqp_de.specs.ReadParts.{PartsRead}
use Rattle.amqp_de.specs.declared.list.Access.{Access}
use Rattle.amqp_de.specs.declared.list.Open.{Open}
use Rattle.amqp_de.specs.declared.variants.Choice.{Choice}
use Rattle.amqp_de.specs.declared.variants.Choice.TheVariants as at
use Rattle.amqp_de.specs.declared.variants.Held.{Held}
use Rattle.amqp_de.specs.declared.variants.Held.TheVariants as holds
use Rattle.amqp_de.specs.declared.variants.Tag.{Tag}
use Rattle.amqp_de.specs.declared.variants.Tag.TheVariants as tag
use Rattle.amqp_de.specs.declared.variants.Tagging.{Tagging}
use Rattle.amqp_de.specs.declared.variants.Tagging.TheVariants as by

abbrev pub tagging_of : Tagging → base.Tagging
tagging_of by.Tagged = base.tagged
tagging_of by.Untagged = base.untagged
tagging_of by.Value = base.of_value
tagging_of by.Descriptor = base.of_descriptor

abbrev pub payload_of : Held → base.Payload
payload_of holds.Nothing = base.nothing
payload_of holds.Second = base.second
payload_of holds.Itself = base.itself

-- how far a variant was read
abbrev pub variant_stage : {X : Type 0} → Access X Choice Open → Choice
variant_stage a = a.form

-- an enum that was opened: which variant it is comes first
abbrev pub opened_at : base.Tagging → Choice
opened_at base.tagged = at.Before by.Tagged
opened_at base.untagged = at.Before by.Untagged
opened_at base.of_value = at.Before by.Value
opened_at base.of_descriptor = at.Before by.Descriptor

-- no enum was opened: the deserializer was ended
pub record NoEnum (old last : Decoding) (e : Error) : Type 0 where
  pub ended : IsTrue old.ended
  pub error : e ≡ InvalidValue
  pub kept : last ≡ old

-- ---- a pair, whose first item says which variant it is

-- the item is a list of these items, or a map of these keys and values in turn
abbrev pub HasItems : Item → Items → Type 0
HasItems (list is) js = is ≡ js
HasItems (map ps) js = in_turn ps ≡ js
HasItems i js = ⊥

-- a list or a map of two items wasn't opened
pub record NoTwo (Has : Item → Items → Type 0) (parse : EncodingCodes → List ℕ → Parsed ℕ) (buffers : Bool) (old last : Decoding) (e : Error) : Type 0 where
  pub rejects : old.ended ≡ false → Rejects buffers buffers (item_at (two_of parse) (stands_under old)) old.reading last.reading e
  pub ended : IsTrue last.ended
  pub missed : (takes : Item → Bool) → ((i : Item) → IsTrue (takes i) → (is : Items) × Has i is × (count is ≡ 2)) → Missed takes buffers buffers old last e

-- since `old` an item of two parts was opened, and the key read that the first of them is
pub record KeyOf (Has : Item → Items → Type 0) (k : Identifier) (old : Decoding) (now : Listing) : Type 0 where
  pub from : Listing
  pub opened : Opens Has old from
  pub plain : Plain from
  pub key : Item
  pub is_key : IsKey k key
  pub reads : PartsRead from (more key none) now
  pub left : now.left ≡ 1

-- so a pair was, whichever form it has
abbrev pub KeyOfPair : Identifier → Decoding → Listing → Type 0
KeyOfPair k old now = KeyOf HasItems k old now

-- a pair, by the parse of its header
abbrev pub pair_by : (EncodingCodes → List ℕ → Parsed ℕ) → Constructor → List ℕ → Parsed base.Variant
pair_by parse c s = item_at (two_of parse) c s >>= λ n. key_at bare n.1 >>= λ k. Ok (base.is k.0 base.second, k.1)

pub record PairOpened (Has : Item → Items → Type 0) (parse : EncodingCodes → List ℕ → Parsed ℕ) (k : Identifier) (p : base.Payload) (old : Decoding) (l : Listing) : Type 0 where
  pub payload : p ≡ base.second
  pub pair : KeyOf Has k old l
  pub exact : (s : List ℕ) → old.reading.to_come ≡ Some s → IsTrue old.reading.honest → (rest : List ℕ) × (l.state.reading.to_come ≡ Some rest) × (pair_by parse (stands_under old) s ≡ Ok (base.is k base.second, rest))

-- two parts, the first of which is a key
pub record KeyFirst (is : Items) : Type 0 where
  pub key : Item
  pub held : Item
  pub two : is ≡ more key (more held none)
  pub is_key : IsTrue (is_key key)

pub record NoPair (Has : Item → Items → Type 0) (parse : EncodingCodes → List ℕ → Parsed ℕ) (buffers : Bool) (old new : Decoding) (e : Error) : Type 0 where
  pub rejects : old.ended ≡ false → Rejects true buffers (pair_by parse (stands_under old)) old.reading new.reading e
  pub missed : (takes : Item → Bool) → ((i : Item) → IsTrue (takes i) → (is : Items) × Has i is × KeyFirst is) → Missed takes true buffers old new e
  pub ended : IsTrue new.ended

-- what a variant of a tagged enum begins with, by its code
abbrev pub IsTag : EncodingCodes → Tag → Type 0
IsTag e tag.Key = is_key_kind (row e).kind ≡ true
IsTag e tag.Descriptor = e ≡ DescribedType
IsTag e tag.List = (e ≡ List8) ⊎ (e ≡ List32)
IsTag e tag.Map = (e ≡ Map8) ⊎ (e ≡ Map32)
IsTag e tag.Other = (is_key_kind (row e).kind ≡ false) × (e ≡ DescribedType → ⊥) × (e ≡ List8 → ⊥) × (e ≡ List32 → ⊥) × (e ≡ Map8 → ⊥) × (e ≡ Map32 → ⊥)

-- ---- 0x00 in front of a descriptor

pub record ZeroTaken (old new : Decoding) : Type 0 where
  pub step : Takes old.reading new.reading (0 ∷ [])
  pub bare_before : stands_under old ≡ bare
  pub before : old.ended ≡ false
  pub not_ended : new.ended ≡ false
  pub inherited : new.inherited ≡ old.inherited
  pub described : new.described ≡ old.described
  pub begun : new.begun ≡ old.begun + 1

-- by the first byte
abbrev pub zero_at : Constructor → List ℕ → Parsed ℕ
zero_at bare s = byte_at s >>= λ b. (if b.0 == 0 then Ok b else Err InvalidFormatCode)
zero_at (under e) s = Err InvalidFormatCode
zero_at (under_pair d e) s = Err InvalidFormatCode

pub record NoZero (buffers : Bool) (old new : Decoding) (e : Error) : Type 0 where
  pub if_ended : IsTrue old.ended → (e ≡ InvalidValue) × (new ≡ old)
  pub rejects : old.ended ≡ false → Rejects buffers buffers (zero_at (stands_under old)) old.reading new.reading e
  pub few : new.begun ≤ old.begun + 1
  pub steady : Advances old.reading new.reading
  pub device : IsDevice e → old.reading.faults < new.reading.faults
  pub ended : IsTrue new.ended

-- ---- which variant stands there was answered

abbrev pub Holding : base.Tagging → base.Payload → Identifier → Decoding → Listing → Type 0
Holding t base.nothing k old l = Found is_key (IsKey k) old l.state
Holding t base.second k old l = KeyOfPair k old l
Holding base.of_descriptor base.itself k old l = (mid : Decoding) × ZeroTaken old mid × Ignores k mid l.state
Holding t base.itself k old l = Ignores k old l.state

pub record VariantRead (t : base.Tagging) (k : Identifier) (p : base.Payload) (old : Decoding) (l : Listing) : Type 0 where
  pub before : old.ended ≡ false
  pub holding : Holding t p k old l
  pub exact : (s : List ℕ) → old.reading.to_come ≡ Some s → IsTrue old.reading.honest
      → (rest : List ℕ) × (l.state.reading.to_come ≡ Some rest) × ((custom : Error) → variant_at t custom (stands_under old) s ≡ Ok (base.is k p, rest))

-- it wasn't: by the first rule that the bytes break
pub record NoVariant (t : base.Tagging) (buffers : Bool) (old new : Decoding) (e : Error) : Type 0 where
  pub if_ended : IsTrue old.ended → (e ≡ InvalidValue) × (new ≡ old)
  pub rejects : old.ended ≡ false → RejectsFor (λ custom. variant_at t custom (stands_under old)) buffers old.reading new.reading e
  pub missed : Missed (has_variant t) true buffers old new e
  pub ended : IsTrue new.ended
