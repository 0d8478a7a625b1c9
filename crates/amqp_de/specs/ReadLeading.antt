-- What was read of a list whose last fields may be left out.
use Rattle.std.specs.Prelude.{◌≡◌, ◌⊎◌, ◌+◌, ◌≤◌, ℕ, Bool, false, ◌||◌, IsTrue, List, length, Some}
use Rattle.amqp_base.specs.declared.error.Error.{Error}
use Rattle.amqp_base.specs.declared.format_code.EncodingCodes.TheVariants.{Null}
use Rattle.amqp_base.specs.Fields.{all_fields, all_meanings}
use Rattle.amqp_base.specs.Item.{Item, Items, none, count}
use Rattle.amqp_base.specs.Meaning.{Meaning}
use Rattle.amqp_base.specs.Refusing.{Refusing}
use Rattle.amqp_base.specs.Wire.{under}
use Rattle.amqp_data.specs.Excuses.{Excused}
use Rattle.amqp_data.specs.Parts.{HasParts}
use Rattle.amqp_de.specs.Access.{Listing, Opens, Plain}
use Rattle.amqp_de.specs.Decoding.{Decoding, as_ended}
use Rattle.amqp_de.specs.Law.{Found, Missed, Named}
use Rattle.amqp_base.specs.Leading.{padded, leading_part_refusal}
use Rattle.amqp_de.specs.ReadFields.{Slots, all_read}
use Rattle.amqp_de.specs.ReadParts.{PartsRead, joined}

-- null stands next, without bytes
abbrev pub before_null : Decoding → Decoding
before_null d = record { reading = d.reading; ended = d.ended; inherited = under Null; described = d.described; begun = 0 }

-- what is inherited and begun is as it was
abbrev pub behind_null : Decoding → Decoding → Decoding
behind_null old last = record { reading = last.reading; ended = last.ended; inherited = old.inherited; described = last.described; begun = old.begun }

-- null was read as this value, and nothing was consumed or begun
pub record ReadsNull {T : Type 0} (m : Meaning T) (v : T) (old new : Decoding) : Type 0 where
  pub last : Decoding
  pub found : Found m.takes (λ i. m.means i v) (before_null old) last
  pub is : new ≡ behind_null old last

-- it was refused
pub record RefusesNull {T : Type 0} (m : Meaning T) (buffers : Bool) (old new : Decoding) (e : Error) : Type 0 where
  pub last : Decoding
  pub missed : Missed m.takes (m.grows || buffers) buffers (before_null old) last e
  pub named : Named m.refuses (m.grows || buffers) buffers (before_null old) last e
  pub is : new ≡ as_ended (behind_null old last)

-- Since `old` a list was opened, and these parts of it were read. Where no more are left than stand there, a list of the
-- fields `all` has the fields `rest` behind them.
pub record LeadingProgress (old : Decoding) (all rest : List (Item → Bool)) (parts : Items) (now : Listing) : Type 0 where
  pub from : Listing
  pub opened : Opens HasParts old from
  pub reads : PartsRead from parts now
  pub fields : (js : Items) → (now.left ≡ 0 → js ≡ none) → all_fields all (padded (length all) (joined parts js)) ≡ all_fields rest (padded (length rest) js)

-- Since then all fields that were awaited were read, of these parts or as null.
pub record LeadingRow {V : Type 0} (old : Decoding) (all rest : List (Item → Bool)) (parts : Items) (s t : Slots V) (before new : Listing) : Type 0 where
  pub given : Items
  pub progress : LeadingProgress old all rest (joined parts given) new
  pub few : count given + new.left ≡ before.left
  pub none_left : before.left ≤ length s.kinds → new.left ≡ 0
  pub full : IsTrue (all_read t)
  pub meant : (vs : V) → t.holds vs → s.holds vs × all_meanings (s.meanings vs) (padded (length s.kinds) given)

-- Of known bytes a field is refused as its type refuses its element, or null in its place.
pub record LeadingNamed (awaited : List Bool) (takes : List (Item → Bool)) (refuses : List {1} Refusing) (grows buffers : Bool) (old : Listing) (last : Decoding) (e : Error) : Type 0 where
  pub why : Plain old → old.state.ended ≡ false → (s : List ℕ) → old.state.reading.to_come ≡ Some s → IsTrue old.state.reading.honest
      → leading_part_refusal awaited takes refuses old.left s e ⊎ Excused grows buffers old.state.reading last.reading e
