-- What the calls of an access to a variant give.
use Rattle.std.specs.Prelude.{◌≡◌, ℕ, Bool, false, IsTrue, if◌then◌else◌, Result, Ok, Err}
use Rattle.amqp_base.specs.declared.error.Error.{Error}
use Rattle.amqp_base.specs.declared.error.Error.TheVariants.{InvalidFormatCode, InvalidValue, SequenceLengthMismatch}
use Rattle.amqp_base.specs.Meaning.{Meaning}
use Rattle.amqp_de.specs.declared.identifiers.Identifier.{Identifier as OwnIdentifier}
use Rattle.amqp_de.specs.declared.variants.Choice.{Choice}
use Rattle.amqp_de.specs.declared.variants.Choice.TheVariants as at
use Rattle.amqp_de.specs.declared.variants.Held.{Held}
use Rattle.amqp_de.specs.declared.variants.Held.TheVariants as holds
use Rattle.amqp_de.specs.Access.{Listing}
use Rattle.amqp_de.specs.Calls.{IsRead, IsRefused, IsNamed}
use Rattle.amqp_de.specs.Decoding.{Decoding, as_ended}
use Rattle.amqp_de.specs.DescribedStructs.{OutOfOrder}
use Rattle.amqp_de.specs.Identifies.{identifier_of}
use Rattle.amqp_de.specs.Forms.{TupleOpened}
use Rattle.amqp_de.specs.ReadParts.{NoTuple, open_list}
use Rattle.amqp_de.specs.declared.structs.StructAccess.{StructAccess}
use Rattle.amqp_de.specs.declared.structs.StructAccess.TheVariants as form
use Rattle.amqp_de.specs.VariantsRead.{tagging_of, payload_of, VariantRead, NoVariant}

-- which variant it is, once
abbrev pub VariantAnswer : Bool → Choice → Listing → Result OwnIdentifier Error → Choice → Listing → Type 0
VariantAnswer buffers (at.Before t) old (Ok k) next new = (p : Held) × (next ≡ at.Holds p) × VariantRead (tagging_of t) (identifier_of k) (payload_of p) old.state new
VariantAnswer buffers (at.Before t) old (Err e) next new = NoVariant (tagging_of t) buffers old.state new.state e
VariantAnswer buffers (at.Holds p) old r next new = OutOfOrder old r new

-- ---- a variant that holds nothing

abbrev pub unit_refusal : Choice → Error
unit_refusal (at.Before t) = InvalidValue
unit_refusal (at.Holds holds.Nothing) = InvalidValue
unit_refusal (at.Holds holds.Second) = SequenceLengthMismatch
unit_refusal (at.Holds holds.Itself) = SequenceLengthMismatch

abbrev pub UnitEnds : Choice → Listing → Result (Unit {0}) Error → Decoding → Type 0
UnitEnds c l (Ok u) new = (c ≡ at.Holds holds.Nothing) × (l.state.ended ≡ false) × (new ≡ l.state)
UnitEnds c l (Err e) new = (new ≡ as_ended l.state) × (e ≡ (if l.state.ended then InvalidValue else unit_refusal c))

-- ---- a variant that holds a value

-- what is inherited stands as before the whole item
abbrev pub restored : Listing → Decoding → Decoding
restored l d = record { reading = d.reading; ended = d.ended; inherited = l.outer; described = d.described; begun = d.begun }

-- a call that no variant answers so
pub record NoValue (wanted : Error) (l : Listing) (new : Decoding) (e : Error) : Type 0 where
  pub kept : new ≡ as_ended l.state
  pub error : e ≡ (if l.state.ended then InvalidValue else wanted)

-- the value was refused
pub record ValueRefused {T : Type 0} (m : Meaning T) (buffers : Bool) (l : Listing) (new : Decoding) (e : Error) : Type 0 where
  pub if_ended : IsTrue l.state.ended → (e ≡ InvalidValue) × (new ≡ l.state)
  pub missed : l.state.ended ≡ false → IsRefused m buffers l.state new e
  pub ended : IsTrue new.ended

abbrev pub ValueEnds : {T : Type 0} → Meaning T → Bool → Choice → Listing → Result T Error → Decoding → Type 0
ValueEnds m buffers (at.Holds holds.Second) l (Ok v) new = (last : Decoding) × (l.state.ended ≡ false) × IsRead m v l.state last × (new ≡ restored l last)
ValueEnds m buffers (at.Holds holds.Itself) l (Ok v) new = (l.state.ended ≡ false) × IsRead m v l.state new
ValueEnds m buffers (at.Holds holds.Nothing) l (Ok v) new = ⊥
ValueEnds m buffers (at.Before t) l (Ok v) new = ⊥
ValueEnds m buffers (at.Holds holds.Second) l (Err e) new = ValueRefused m buffers l new e
ValueEnds m buffers (at.Holds holds.Itself) l (Err e) new = ValueRefused m buffers l new e
ValueEnds m buffers (at.Holds holds.Nothing) l (Err e) new = NoValue InvalidFormatCode l new e
ValueEnds m buffers (at.Before t) l (Err e) new = NoValue InvalidValue l new e

-- and is refused by the name that its type gives it
abbrev pub ValueNamed : {T : Type 0} → Meaning T → Bool → Choice → Listing → Decoding → Error → Type 0
ValueNamed m buffers (at.Holds holds.Second) l new e = IsNamed m buffers l.state new e
ValueNamed m buffers (at.Holds holds.Itself) l new e = IsNamed m buffers l.state new e
ValueNamed m buffers (at.Holds holds.Nothing) l new e = Unit {0}
ValueNamed m buffers (at.Before t) l new e = Unit {0}

-- ---- a variant that holds fields

-- a list of just so many was opened; of a pair its end restores what was inherited before the pair
abbrev pub FieldsOpened : ℕ → Choice → Listing → Listing → Type 0
FieldsOpened len (at.Holds holds.Second) l a = (a.outer ≡ l.outer) × TupleOpened len l.state (record { state = a.state; left = a.left; outer = l.state.inherited; limit = a.limit })
FieldsOpened len (at.Holds holds.Itself) l a = TupleOpened len l.state a
FieldsOpened len (at.Holds holds.Nothing) l a = ⊥
FieldsOpened len (at.Before t) l a = ⊥

abbrev pub NoFields : ℕ → Bool → Choice → Listing → Decoding → Error → Type 0
NoFields len buffers (at.Holds holds.Second) l last e = NoTuple len buffers l.state last e
NoFields len buffers (at.Holds holds.Itself) l last e = NoTuple len buffers l.state last e
NoFields len buffers (at.Holds holds.Nothing) l last e = NoValue InvalidFormatCode l last e
NoFields len buffers (at.Before t) l last e = NoValue InvalidValue l last e

-- the same as a struct, which is never a map
abbrev pub HeldStruct : {X : Type 0} → ℕ → Choice → Listing → StructAccess X → Type 0
HeldStruct len c l (form.List a) = FieldsOpened len c l (open_list a)
HeldStruct len c l (form.Map a) = ⊥
HeldStruct len c l (form.Described a) = ⊥
