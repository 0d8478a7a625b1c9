-- What was read of the fields of a struct, by their names or in order.
use Rattle.std.specs.Prelude.{◌≡◌, ◌≤◌, ℕ, suc, Bool, true, false, ◌&&◌, IsTrue, List, [], ◌∷◌, length, Option, Some, None, ◌⊎◌}
use Rattle.std.proofs.Common.{refl, ap}
use Rattle.std.specs.Str.{bytes_eq}
use Rattle.amqp_base.specs.declared.error.Error.{Error}
use Rattle.amqp_base.specs.Item.{Item, Items, scalar, string, Pairs, no_pairs, pair}
use Rattle.amqp_base.specs.Fields.{all_meanings, field}
use Rattle.amqp_base.specs.NamedFields.{takes_named, means_named}
use Rattle.amqp_base.specs.Refusals.{IsDevice}
use Rattle.amqp_base.specs.Refusing.{Refusing, awaited_count, row_part_refusal, awaited_behind, taken_under, refused_under, value_refusal}
use Rattle.amqp_de.specs.Decoding.{Decoding}
use Rattle.amqp_data.specs.Excuses.{Excused}
use Rattle.amqp_de.specs.Access.{Listing, Part, Plain}
use Rattle.amqp_de.specs.ReadParts.{Progress, joined}
use Rattle.amqp_de.specs.ReadPairs.{OutOfTurn, ValueNext}

-- The fields that aren't read yet, each with the items that it takes, and what an item of it means where the values are
-- these in the end. The values that were read are among them. Of all fields those are awaited that aren't read yet.
pub record Slots (V : Type 0) : Type 1 where
  pub names : List (List ℕ)
  pub kinds : List (Item → Bool)
  pub meanings : V → List {1} (Item → Type 0)
  pub holds : V → Type 0
  pub all_names : List (List ℕ)
  pub awaited : List Bool
  pub counted : length kinds ≡ awaited_count awaited
  pub counted_names : length names ≡ awaited_count awaited

-- no fields
abbrev pub no_slots : Slots (Unit {0})
no_slots = record { names = []; kinds = []; meanings = λ vs. []; holds = λ vs. Unit {0}; all_names = []; awaited = []; counted = refl; counted_names = refl }

-- a field, which has its value or not, and the fields behind it
abbrev pub slot : {T V : Type 0} → List ℕ → (Item → Bool) → (Item → T → Type 0) → Option T → Slots V → Slots (T × V)
slot name takes means None rest = record {
  names = name ∷ rest.names;
  kinds = takes ∷ rest.kinds;
  meanings = λ vs. field means vs.0 ∷ rest.meanings vs.1;
  holds = λ vs. rest.holds vs.1;
  all_names = name ∷ rest.all_names;
  awaited = true ∷ rest.awaited;
  counted = ap suc rest.counted;
  counted_names = ap suc rest.counted_names;
}
slot name takes means (Some x) rest = record {
  names = rest.names;
  kinds = rest.kinds;
  meanings = λ vs. rest.meanings vs.1;
  holds = λ vs. (x ≡ vs.0) × rest.holds vs.1;
  all_names = name ∷ rest.all_names;
  awaited = false ∷ rest.awaited;
  counted = rest.counted;
  counted_names = rest.counted_names;
}

-- the value under this name is that of this field: it has none yet
abbrev pub awaits : {T : Type 0} → List ℕ → Option T → List ℕ → Bool
awaits own None name = bytes_eq own name
awaits own (Some x) name = false

-- no field is awaited any more
abbrev pub all_read : {V : Type 0} → Slots V → Bool
all_read s = takes_named s.names s.kinds no_pairs

-- these are the values of fields that all have one
pub record HaveValues {V : Type 0} (s : Slots V) (vs : V) : Type 0 where
  pub holds : s.holds vs
  pub full : IsTrue (all_read s)
  pub meant : means_named s.names (s.meanings vs) no_pairs

-- each of the fields has a value, and of their values this holds
pub record Filled {V : Type 0} (s : Slots V) (P : V → Type 0) : Type 0 where
  pub full : IsTrue (all_read s)
  pub values : (vs : V) → s.holds vs → P vs

-- a pair under a name
abbrev pub under_name : List ℕ → Item → Pairs → Pairs
under_name name v ps = pair (scalar (string name)) v ps

-- The next value was read as that of the field under a name, which isn't awaited then: so a map of the fields that were
-- awaited before is this pair and a map of those that are awaited now.
pub record FieldRead {V : Type 0} (name : List ℕ) (s t : Slots V) (old new : Listing) : Type 0 where
  pub kind : Item → Bool
  pub part : Part kind (λ i. Unit {0}) old new
  pub picked : (v : Item) (ps : Pairs) → takes_named s.names s.kinds (under_name name v ps) ≡ (kind v && takes_named t.names t.kinds ps)
  pub meant : (vs : V) → t.holds vs → s.holds vs × ((ps : Pairs) → means_named t.names (t.meanings vs) ps → means_named s.names (s.meanings vs) (under_name name part.front.item ps))

-- No value was read: no field that is awaited has this name, or its value is refused.
pub data NoField {V : Type 0} (name : List ℕ) (s : Slots V) (buffers : Bool) (old new : Listing) (e : Error) : Type 0 where
  unknown : new ≡ old → (IsDevice e → ⊥) → ((v : Item) (ps : Pairs) → takes_named s.names s.kinds (under_name name v ps) ≡ false) → NoField name s buffers old new e
  refused : (kind : Item → Bool) (grows : Bool) → OutOfTurn ValueNext kind grows buffers old new e → ((v : Item) (ps : Pairs) → IsTrue (takes_named s.names s.kinds (under_name name v ps)) → IsTrue (kind v)) → NoField name s buffers old new e

-- Since `old` a list was opened, and all fields that were awaited were read of it, in order.
pub record RowRead {V : Type 0} (old : Decoding) (all rest : List (Item → Bool)) (parts : Items) (s t : Slots V) (new : Listing) : Type 0 where
  pub items : Items
  pub progress : Progress old all rest (joined parts items) new
  pub full : IsTrue (all_read t)
  pub meant : (vs : V) → t.holds vs → s.holds vs × all_meanings (s.meanings vs) items

-- The value under a name was read as that of the first field of this name that was awaited, which isn't awaited then.
pub record FieldPicked {V : Type 0} (name : List ℕ) (s t : Slots V) (takes : List (Item → Bool)) (old new : Listing) : Type 0 where
  pub behind : awaited_behind name s.all_names s.awaited ≡ Some t.awaited
  pub names : t.all_names ≡ s.all_names
  pub part : Part (taken_under name s.all_names s.awaited takes) (λ i. Unit {0}) old new

-- Of known bytes it is refused as `Message`, where no such field is awaited, or as that field refuses it.
pub record FieldNamed {V : Type 0} (name : List ℕ) (s : Slots V) (refuses : List {1} Refusing) (buffers : Bool) (old new : Listing) (e : Error) : Type 0 where
  pub why : ValueNext old → Plain old → old.state.ended ≡ false → (z : List ℕ) → old.state.reading.to_come ≡ Some z → IsTrue old.state.reading.honest
      → value_refusal (awaited_behind name s.all_names s.awaited) (refused_under name s.all_names s.awaited refuses z e) (λ bs. ⊥) e ⊎ Excused true buffers old.state.reading new.state.reading e

-- Of known bytes an element is refused as its field refuses it, where no fewer are left than fields are awaited.
pub record ElementsNamed (awaited : List Bool) (takes : List (Item → Bool)) (refuses : List {1} Refusing) (grows buffers : Bool) (old : Listing) (last : Decoding) (e : Error) : Type 0 where
  pub why : Plain old → old.state.ended ≡ false → awaited_count awaited ≤ old.left → (s : List ℕ) → old.state.reading.to_come ≡ Some s → IsTrue old.state.reading.honest
      → row_part_refusal awaited takes refuses s e ⊎ Excused grows buffers old.state.reading last.reading e
