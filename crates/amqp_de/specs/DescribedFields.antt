-- A struct under a descriptor, read by its fields.
use Rattle.std.specs.Prelude.{ℕ, Bool, true, ◌||◌, List, length}
use Rattle.amqp_base.specs.declared.error.Error.{Error}
use Rattle.amqp_base.specs.Codes.{Kind}
use Rattle.amqp_base.specs.Describing.{is_behind, means_behind, behind_refusal, kind_data, header_refusal, described_list_refusal}
use Rattle.amqp_base.specs.Leading.{takes_leading, means_leading, leading_refusal}
use Rattle.amqp_base.specs.Item.{Descriptor, Item}
use Rattle.amqp_base.specs.NamedFields.{takes_map, means_map}
use Rattle.amqp_base.specs.Parse.{map_data}
use Rattle.amqp_base.specs.Refusing.{Refusing, fields_refusal}
use Rattle.amqp_de.specs.Decoding.{Decoding}
use Rattle.amqp_de.specs.Law.{Found, Missed, Named}
use Rattle.amqp_de.specs.ReadFields.{Slots}

-- The item at the front was read as these fields out of a list, of which the last may be left out; it was refused; and by
-- the name that the bytes call for.
abbrev pub ListRead : {V : Type 0} → Slots V → V → Decoding → Decoding → Type 0
ListRead s vs old new = Found (takes_leading s.kinds) (λ i. means_leading (length s.kinds) (s.meanings vs) i) old new

abbrev pub ListRefused : {V : Type 0} → Slots V → Bool → Bool → Decoding → Decoding → Error → Type 0
ListRefused s grows buffers old new e = Missed (takes_leading s.kinds) (grows || buffers) buffers old new e

abbrev pub ListNamed : {V : Type 0} → Slots V → List (Item → Bool) → List {1} Refusing → Bool → Bool → Decoding → Decoding → Error → Type 0
ListNamed s takes refuses grows buffers old new e = Named (leading_refusal s.awaited takes refuses) (grows || buffers) buffers old new e

-- behind a descriptor no such fields were read; by the name that the bytes call for
abbrev pub ListMissed : {V : Type 0} → Slots V → Bool → Decoding → Decoding → Error → Type 0
ListMissed s buffers old new e = Missed (takes_leading s.kinds) true buffers old new e

abbrev pub ListBehindNamed : {V : Type 0} → Slots V → List (Item → Bool) → List {1} Refusing → Bool → Decoding → Decoding → Error → Type 0
ListBehindNamed s takes refuses buffers old new e = Named (described_list_refusal s.awaited takes refuses) true buffers old new e

-- the item at the front was read as these fields behind one of these descriptors
abbrev pub FieldsBehind : {V : Type 0} → (Descriptor → Bool) → Slots V → V → Decoding → Decoding → Type 0
FieldsBehind among s vs old new = Found (is_behind among (takes_leading s.kinds)) (λ i. means_behind (λ j. means_leading (length s.kinds) (s.meanings vs) j) i) old new

-- it was refused; and by the name that the bytes call for
abbrev pub FieldsBehindRefused : {V : Type 0} → (Descriptor → Bool) → Slots V → Bool → Decoding → Decoding → Error → Type 0
FieldsBehindRefused among s buffers old new e = Missed (is_behind among (takes_leading s.kinds)) true buffers old new e

abbrev pub FieldsBehindNamed : {V : Type 0} → (Descriptor → Bool) → Slots V → List (Item → Bool) → List {1} Refusing → Bool → Decoding → Decoding → Error → Type 0
FieldsBehindNamed among s takes refuses buffers old new e = Named (behind_refusal among (described_list_refusal s.awaited takes refuses)) true buffers old new e

-- ---- out of a map

-- behind a descriptor: a map from the names of the fields
abbrev pub described_map_refusal : List (List ℕ) → List (Item → Bool) → List {1} Refusing → List Bool → Refusing
described_map_refusal names takes refuses awaited = header_refusal (kind_data Kind.map map_data) (fields_refusal names takes refuses awaited)

abbrev pub MapBehindNamed : {V : Type 0} → Slots V → List (Item → Bool) → List {1} Refusing → Bool → Decoding → Decoding → Error → Type 0
MapBehindNamed s takes refuses buffers old new e = Named (described_map_refusal s.all_names takes refuses s.awaited) true buffers old new e

abbrev pub NamesBehind : {V : Type 0} → (Descriptor → Bool) → Slots V → V → Decoding → Decoding → Type 0
NamesBehind among s vs old new = Found (is_behind among (takes_map s.names s.kinds)) (λ i. means_behind (λ j. means_map s.names (s.meanings vs) j) i) old new

abbrev pub NamesBehindRefused : {V : Type 0} → (Descriptor → Bool) → Slots V → Bool → Decoding → Decoding → Error → Type 0
NamesBehindRefused among s buffers old new e = Missed (is_behind among (takes_map s.names s.kinds)) true buffers old new e

abbrev pub NamesBehindNamed : {V : Type 0} → (Descriptor → Bool) → Slots V → List (Item → Bool) → List {1} Refusing → Bool → Decoding → Decoding → Error → Type 0
NamesBehindNamed among s takes refuses buffers old new e = Named (behind_refusal among (described_map_refusal s.all_names takes refuses s.awaited)) true buffers old new e
