-- The forms of a struct that is read: a list of its fields, a map from their names, or either of them under a descriptor.
use Rattle.std.specs.Prelude.{◌≡◌, ℕ, Bool, false, if◌then◌else◌, IsTrue, List, length, Option, Some, None, Result, Ok, Err, IfErr}
use Rattle.std.specs.Str.{bytes_eq}
use Rattle.std.specs.Borrow.{MutBor}
use Rattle.amqp_base.specs.declared.error.Error.{Error}
use Rattle.amqp_base.specs.declared.constants.TheConstants.{DESCRIBED_LIST, DESCRIBED_MAP, DESCRIBED_BASIC}
use Rattle.amqp_base.specs.declared.error.Error.TheVariants.{InvalidValue, InvalidFormatCode}
use Rattle.amqp_base.specs.declared.format_code.EncodingCodes.{EncodingCodes}
use Rattle.amqp_base.specs.declared.format_code.EncodingCodes.TheVariants.{DescribedType}
use Rattle.amqp_base.specs.Describing.{is_described}
use Rattle.amqp_base.specs.Item.{Item, none, no_pairs}
use Rattle.amqp_base.specs.NamedFields.{takes_struct}
use Rattle.amqp_de.specs.Decoding.{Decoding, stands_under}
use Rattle.amqp_de.specs.Law.{Missed}
use Rattle.amqp_de.specs.Access.{Listing, Opens, OpensExactly}
use Rattle.amqp_data.specs.Parts.{HasParts, HasPairs}
use Rattle.amqp_base.specs.Parse.{Parsed, item_at, tuple_data, struct_data}
use Rattle.amqp_de.specs.Seq.{listing, at_open}
use Rattle.amqp_data.specs.Steps.{Rejects}
use Rattle.amqp_de.specs.ReadParts.{Progress, NoTuple, open_list}
use Rattle.amqp_base.specs.Meaning.{Meaning}
use Rattle.amqp_de.specs.Calls.{NextElement, KeyAnswer, ValueAnswer, EntryAnswer, ElementNamed, KeyNamed, ValueNamed, EntryNamed}
use Rattle.amqp_de.specs.ReadPairs.{PairsRead, ended_access}
use Rattle.amqp_de.specs.DescribedStructs.{stage, DescribedElement, DescribedKey, DescribedValue, DescribedEntry, DescribedElementNamed, DescribedKeyNamed, DescribedValueNamed, DescribedEntryNamed}
use Rattle.amqp_de.specs.Look.{Looks}
use Rattle.amqp_de.specs.declared.described_structs.Encoding.{Encoding}
use Rattle.amqp_de.specs.declared.described_structs.Encoding.TheVariants as by
use Rattle.amqp_de.specs.declared.described_structs.Stage.{Stage}
use Rattle.amqp_de.specs.declared.described_structs.Stage.TheVariants.{Before}
use Rattle.amqp_de.specs.declared.tuple_structs.OpenedRow.{OpenedRow}
use Rattle.amqp_de.specs.declared.tuple_structs.OpenedRow.TheVariants as row
use Rattle.amqp_de.specs.declared.deserializer.Deserializer.{Deserializer}
use Rattle.amqp_de.specs.declared.structs.OpenedStruct.{OpenedStruct}
use Rattle.amqp_de.specs.declared.structs.OpenedStruct.TheVariants as opened
use Rattle.amqp_de.specs.declared.structs.StructAccess.{StructAccess}
use Rattle.amqp_de.specs.declared.structs.StructAccess.TheVariants as form

abbrev pub struct_listing : {X : Type 0} → StructAccess X → Listing
struct_listing (form.List a) = listing a
struct_listing (form.Map a) = listing a
struct_listing (form.Described a) = listing a

-- the deserializer that the access borrows
abbrev pub struct_lender : {X : Type 0} → StructAccess X → MutBor (Deserializer X)
struct_lender (form.List a) = a.de
struct_lender (form.Map a) = a.de
struct_lender (form.Described a) = a.de

-- what stands behind the descriptor of a struct of this name, if one does
abbrev pub encoding_named : List ℕ → Option Encoding
encoding_named name =
    if bytes_eq name DESCRIBED_LIST.now then Some by.List
    else (if bytes_eq name DESCRIBED_MAP.now then Some by.Map
    else (if bytes_eq name DESCRIBED_BASIC.now then Some by.Basic else None))

-- the same of a tuple struct, which is never a map
abbrev pub row_encoding : List ℕ → Option Encoding
row_encoding name =
    if bytes_eq name DESCRIBED_LIST.now then Some by.List
    else (if bytes_eq name DESCRIBED_BASIC.now then Some by.Basic else None)

-- the code of a described item
unfoldable pub described_data : EncodingCodes → List ℕ → Parsed EncodingCodes
described_data DescribedType s = Ok (DescribedType, s)
described_data e s = Err InvalidFormatCode

-- no described item stands there; nothing was consumed
pub record NoneDescribed (buffers : Bool) (old last : Decoding) (e : Error) : Type 0 where
  -- where it is ended the call changes nothing
  pub if_ended : IsTrue old.ended → (e ≡ InvalidValue) × (last ≡ old)
  pub rejects : old.ended ≡ false → Rejects buffers buffers (item_at described_data (stands_under old)) old.reading last.reading e
  pub ended : IsTrue last.ended
  pub missed : Missed is_described buffers buffers old last e

-- a list of just so many fields was opened
pub record RowOpened (len : ℕ) (old : Decoding) (l : Listing) : Type 0 where
  pub opens : Opens HasParts old l
  pub exact : OpensExactly (struct_data len) old l
  pub left : l.left ≡ len
  pub progress : (all : List (Item → Bool)) → Progress old all all none l

-- the same of a tuple struct, which is a list alone
pub record TupleOpened (len : ℕ) (old : Decoding) (l : Listing) : Type 0 where
  pub opens : Opens HasParts old l
  pub exact : OpensExactly (tuple_data len) old l
  pub left : l.left ≡ len

abbrev pub IsRow : {X : Type 0} → StructAccess X → Type 0
IsRow (form.List a) = Unit {0}
IsRow (form.Map a) = ⊥
IsRow (form.Described a) = ⊥

-- a map was opened
pub record MapOpened (len : ℕ) (old : Decoding) (l : Listing) : Type 0 where
  pub opens : Opens HasPairs old l
  pub exact : OpensExactly (struct_data len) old l
  pub pairs : (key value : Item → Bool) → PairsRead old key value no_pairs l

abbrev pub FormOpened : ℕ → Decoding → Decoding → OpenedStruct → Type 0
FormOpened len old new (opened.Row o) = RowOpened len old (at_open new o)
FormOpened len old new (opened.Pairs o) = MapOpened len old (at_open new o)
FormOpened len old new (opened.Described x) = ⊥

-- a described item stands there, which wasn't consumed: its descriptor comes first
pub record DescribedAhead (x : Encoding) (old new : Decoding) : Type 0 where
  pub before : old.ended ≡ false
  pub looks : Looks old new DescribedType

-- by the struct's name
abbrev pub NamedForm : List ℕ → ℕ → Decoding → Decoding → OpenedStruct → Type 0
NamedForm name len old new (opened.Row o) = (encoding_named name ≡ None) × RowOpened len old (at_open new o)
NamedForm name len old new (opened.Pairs o) = (encoding_named name ≡ None) × MapOpened len old (at_open new o)
NamedForm name len old new (opened.Described x) = (encoding_named name ≡ Some x) × DescribedAhead x old new

abbrev pub NamedRow : List ℕ → ℕ → Decoding → Decoding → OpenedRow → Type 0
NamedRow name len old new (row.Plain o) = (row_encoding name ≡ None) × TupleOpened len old (at_open new o)
NamedRow name len old new (row.Described x) = (row_encoding name ≡ Some x) × DescribedAhead x old new

-- a described struct was opened, whose descriptor comes first
pub record Awaits (named : Option Encoding) (old : Decoding) (s : Stage) (l : Listing) : Type 0 where
  pub encoding : Encoding
  pub is_named : named ≡ Some encoding
  pub first : s ≡ Before encoding
  pub ahead : DescribedAhead encoding old l.state
  pub unread : l.left ≡ 1

abbrev pub StructOpened : {X : Type 0} → List ℕ → ℕ → Decoding → StructAccess X → Type 0
StructOpened name len old (form.List a) = (encoding_named name ≡ None) × RowOpened len old (open_list a)
StructOpened name len old (form.Map a) = (encoding_named name ≡ None) × MapOpened len old (open_list a)
StructOpened name len old (form.Described a) = Awaits (encoding_named name) old (stage a) (listing a)

abbrev pub TupleStructOpened : {X : Type 0} → List ℕ → ℕ → Decoding → StructAccess X → Type 0
TupleStructOpened name len old (form.List a) = (row_encoding name ≡ None) × TupleOpened len old (open_list a)
TupleStructOpened name len old (form.Map a) = ⊥
TupleStructOpened name len old (form.Described a) = Awaits (row_encoding name) old (stage a) (listing a)

-- no struct was opened: so one of as many fields is missed, and want of memory is no excuse
pub record NoStruct (len : ℕ) (buffers : Bool) (old last : Decoding) (e : Error) : Type 0 where
  -- where it is ended the call changes nothing
  pub if_ended : IsTrue old.ended → (e ≡ InvalidValue) × (last ≡ old)
  pub rejects : old.ended ≡ false → Rejects buffers buffers (item_at (struct_data len) (stands_under old)) old.reading last.reading e
  pub ended : IsTrue last.ended
  pub missed : (names : List (List ℕ)) (fields : List (Item → Bool)) → length fields ≡ len → Missed (takes_struct names fields) buffers buffers old last e

-- what a refused call leaves, by the struct's name
pub record RefusesStruct {A : Type 0} (name : List ℕ) (len : ℕ) (buffers : Bool) (old : Decoding) (r : Result A Error) (last : Decoding) : Type 0 where
  pub unopened : encoding_named name ≡ None → IfErr r (λ e. NoStruct len buffers old last e)
  pub undescribed : (x : Encoding) → encoding_named name ≡ Some x → IfErr r (λ e. NoneDescribed buffers old last e)

-- the same of a tuple struct
pub record RefusesRow {A : Type 0} (name : List ℕ) (len : ℕ) (buffers : Bool) (old : Decoding) (r : Result A Error) (last : Decoding) : Type 0 where
  pub unopened : row_encoding name ≡ None → IfErr r (λ e. NoTuple len buffers old last e)
  pub undescribed : (x : Encoding) → row_encoding name ≡ Some x → IfErr r (λ e. NoneDescribed buffers old last e)

-- a call of another form
abbrev pub WrongForm : {A : Type 0} → Listing → Result A Error → Listing → Type 0
WrongForm old r new = (r ≡ Err InvalidValue) × (new ≡ ended_access old)

abbrev pub FormElement : {X T : Type 0} → Meaning T → Bool → StructAccess X → Result (Option T) Error → StructAccess X → Type 0
FormElement m buffers (form.List a) r (form.List b) = NextElement m buffers (open_list a) r (open_list b)
FormElement m buffers (form.Map a) r (form.Map b) = WrongForm (listing a) r (listing b)
FormElement m buffers (form.Described a) r (form.Described b) = DescribedElement m buffers (stage a) (open_list a) r (open_list b)
FormElement m buffers a r b = ⊥

abbrev pub FormKey : {X K : Type 0} → Meaning K → Bool → StructAccess X → Result (Option K) Error → StructAccess X → Type 0
FormKey m buffers (form.Map a) r (form.Map b) = KeyAnswer m buffers (open_list a) r (open_list b)
FormKey m buffers (form.List a) r (form.List b) = WrongForm (listing a) r (listing b)
FormKey m buffers (form.Described a) r (form.Described b) = DescribedKey m buffers (stage a) (open_list a) r (open_list b)
FormKey m buffers a r b = ⊥

abbrev pub FormValue : {X V : Type 0} → Meaning V → Bool → StructAccess X → Result V Error → StructAccess X → Type 0
FormValue m buffers (form.Map a) r (form.Map b) = ValueAnswer m buffers (open_list a) r (open_list b)
FormValue m buffers (form.List a) r (form.List b) = WrongForm (listing a) r (listing b)
FormValue m buffers (form.Described a) r (form.Described b) = DescribedValue m buffers (stage a) (open_list a) r (open_list b)
FormValue m buffers a r b = ⊥

abbrev pub FormEntry : {X K V : Type 0} → Meaning K → Meaning V → Bool → StructAccess X → Result (Option (K × V)) Error → StructAccess X → Type 0
FormEntry k v buffers (form.Map a) r (form.Map b) = EntryAnswer k v buffers (open_list a) r (open_list b)
FormEntry k v buffers (form.List a) r (form.List b) = WrongForm (listing a) r (listing b)
FormEntry k v buffers (form.Described a) r (form.Described b) = DescribedEntry k v buffers (stage a) (open_list a) r (open_list b)
FormEntry k v buffers a r b = ⊥

-- ---- and by name they refuse as the form does; of a wrong form the answer says it

abbrev pub FormElementNamed : {X T : Type 0} → Meaning T → Bool → StructAccess X → StructAccess X → Error → Type 0
FormElementNamed m buffers (form.List a) (form.List b) e = ElementNamed m buffers (open_list a) (open_list b) e
FormElementNamed m buffers (form.Map a) (form.Map b) e = Unit {0}
FormElementNamed m buffers (form.Described a) (form.Described b) e = DescribedElementNamed m buffers (stage a) (open_list a) (open_list b) e
FormElementNamed m buffers a b e = ⊥

abbrev pub FormKeyNamed : {X K : Type 0} → Meaning K → Bool → StructAccess X → StructAccess X → Error → Type 0
FormKeyNamed m buffers (form.Map a) (form.Map b) e = KeyNamed m buffers (open_list a) (open_list b) e
FormKeyNamed m buffers (form.List a) (form.List b) e = Unit {0}
FormKeyNamed m buffers (form.Described a) (form.Described b) e = DescribedKeyNamed m buffers (stage a) (open_list a) (open_list b) e
FormKeyNamed m buffers a b e = ⊥

abbrev pub FormValueNamed : {X V : Type 0} → Meaning V → Bool → StructAccess X → StructAccess X → Error → Type 0
FormValueNamed m buffers (form.Map a) (form.Map b) e = ValueNamed m buffers (open_list a) (open_list b) e
FormValueNamed m buffers (form.List a) (form.List b) e = Unit {0}
FormValueNamed m buffers (form.Described a) (form.Described b) e = DescribedValueNamed m buffers (stage a) (open_list a) (open_list b) e
FormValueNamed m buffers a b e = ⊥

abbrev pub FormEntryNamed : {X K V : Type 0} → Meaning K → Meaning V → Bool → StructAccess X → StructAccess X → Error → Type 0
FormEntryNamed k v buffers (form.Map a) (form.Map b) e = EntryNamed k v buffers (open_list a) (open_list b) e
FormEntryNamed k v buffers (form.List a) (form.List b) e = Unit {0}
FormEntryNamed k v buffers (form.Described a) (form.Described b) e = DescribedEntryNamed k v buffers (stage a) (open_list a) (open_list b) e
FormEntryNamed k v buffers a b e = ⊥
