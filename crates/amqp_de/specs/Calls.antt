-- What calls answer, by the meaning of the type that is read.
use Rattle.std.specs.Prelude.{Bool, true, ◌||◌, List, Option, Result}
use Rattle.amqp_base.specs.Item.{Item}
use Rattle.amqp_base.specs.Refusing.{Refusing, opened_refusal, row_refusal, fields_refusal, struct_refusal, map_refusal}
use Rattle.amqp_base.specs.Maps as maps
use Rattle.amqp_base.specs.Maps.{is_map_of}
use Rattle.amqp_base.specs.Parse.{map_data}
use Rattle.amqp_base.specs.declared.error.Error.{Error}
use Rattle.amqp_base.specs.Meaning.{Meaning}
use Rattle.amqp_de.specs.Decoding.{Decoding}
use Rattle.amqp_de.specs.Law.{Found, Missed, Named}
use Rattle.amqp_de.specs.Access.{Listing, Next, PartNamed}
use Rattle.amqp_base.specs.Fields.{takes_fields, means_fields}
use Rattle.amqp_base.specs.NamedFields.{takes_map, takes_struct, means_map, means_struct}
use Rattle.amqp_de.specs.ReadFields.{Slots}
use Rattle.amqp_de.specs.ReadPairs.{KeyNext, ValueNext, NextKey, NextValue, NextEntry, TurnNamed, EntryTurnNamed}

-- the item at the front was read as this value
abbrev pub IsRead : {T : Type 0} → Meaning T → T → Decoding → Decoding → Type 0
IsRead m v old new = Found m.takes (λ i. m.means i v) old new

-- it was refused
abbrev pub IsRefused : {T : Type 0} → Meaning T → Bool → Decoding → Decoding → Error → Type 0
IsRefused m buffers old new e = Missed m.takes (m.grows || buffers) buffers old new e

-- and by the name that the bytes call for
abbrev pub IsNamed : {T : Type 0} → Meaning T → Bool → Decoding → Decoding → Error → Type 0
IsNamed m buffers old new e = Named m.refuses (m.grows || buffers) buffers old new e

-- the next element of a list, the next key of a map, its value, or both
abbrev pub NextElement : {T : Type 0} → Meaning T → Bool → Listing → Result (Option T) Error → Listing → Type 0
NextElement m buffers old r new = Next m.takes m.means (m.grows || buffers) buffers old r new

abbrev pub ElementNamed : {T : Type 0} → Meaning T → Bool → Listing → Listing → Error → Type 0
ElementNamed m buffers old new e = PartNamed m.takes m.refuses (m.grows || buffers) buffers old new e

abbrev pub KeyAnswer : {K : Type 0} → Meaning K → Bool → Listing → Result (Option K) Error → Listing → Type 0
KeyAnswer m buffers old r new = NextKey m.takes m.means (m.grows || buffers) buffers old r new

abbrev pub KeyNamed : {K : Type 0} → Meaning K → Bool → Listing → Listing → Error → Type 0
KeyNamed m buffers old new e = TurnNamed KeyNext m.takes m.refuses (m.grows || buffers) buffers old new e

abbrev pub ValueNamed : {V : Type 0} → Meaning V → Bool → Listing → Listing → Error → Type 0
ValueNamed m buffers old new e = TurnNamed ValueNext m.takes m.refuses (m.grows || buffers) buffers old new e

abbrev pub EntryNamed : {K V : Type 0} → Meaning K → Meaning V → Bool → Listing → Listing → Error → Type 0
EntryNamed k v buffers old new e = EntryTurnNamed k.takes v.takes k.means k.refuses v.refuses (k.grows || buffers) (v.grows || buffers) buffers old new e

abbrev pub ValueAnswer : {V : Type 0} → Meaning V → Bool → Listing → Result V Error → Listing → Type 0
ValueAnswer m buffers old r new = NextValue m.takes m.means (m.grows || buffers) buffers old r new

abbrev pub EntryAnswer : {K V : Type 0} → Meaning K → Meaning V → Bool → Listing → Result (Option (K × V)) Error → Listing → Type 0
EntryAnswer k v buffers old r new = NextEntry k.takes v.takes k.means v.means (k.grows || buffers) (v.grows || buffers) buffers old r new

-- the item at the front was read as a map of such keys and values, whose pairs, put one after the other, are these entries
abbrev pub EntriesRead : {K V : Type 0} → Meaning K → Meaning V → (List (K × V) → K → V → List (K × V)) → List (K × V) → Decoding → Decoding → Type 0
EntriesRead k v put entries old new = Found (is_map_of k.takes v.takes) (λ i. maps.means_map k.means v.means put i entries) old new

abbrev pub EntriesRefused : {K V : Type 0} → Meaning K → Meaning V → Bool → Decoding → Decoding → Error → Type 0
EntriesRefused k v buffers old new e = Missed (is_map_of k.takes v.takes) true buffers old new e

abbrev pub EntriesNamed : {K V : Type 0} → Meaning K → Meaning V → Bool → Decoding → Decoding → Error → Type 0
EntriesNamed k v buffers old new e = Named (map_refusal k.takes k.refuses v.takes v.refuses) true buffers old new e

-- the item at the front was read as these fields of a struct; out of a map; out of a list
abbrev pub FieldsRead : {V : Type 0} → Slots V → V → Decoding → Decoding → Type 0
FieldsRead s vs old new = Found (takes_struct s.names s.kinds) (λ i. means_struct s.names (s.meanings vs) i) old new

abbrev pub NamedRead : {V : Type 0} → Slots V → V → Decoding → Decoding → Type 0
NamedRead s vs old new = Found (takes_map s.names s.kinds) (λ i. means_map s.names (s.meanings vs) i) old new

abbrev pub RowRead : {V : Type 0} → Slots V → V → Decoding → Decoding → Type 0
RowRead s vs old new = Found (takes_fields s.kinds) (λ i. means_fields (s.meanings vs) i) old new

-- it was refused
abbrev pub FieldsRefused : {V : Type 0} → Slots V → Bool → Decoding → Decoding → Error → Type 0
FieldsRefused s buffers old new e = Missed (takes_struct s.names s.kinds) true buffers old new e

abbrev pub NamedRefused : {V : Type 0} → Slots V → Bool → Decoding → Decoding → Error → Type 0
NamedRefused s buffers old new e = Missed (takes_map s.names s.kinds) true buffers old new e

abbrev pub RowRefused : {V : Type 0} → Slots V → Bool → Bool → Decoding → Decoding → Error → Type 0
RowRefused s grows buffers old new e = Missed (takes_fields s.kinds) (grows || buffers) buffers old new e

-- and out of a list by the name that the bytes call for
abbrev pub RowNamed : {V : Type 0} → Slots V → List (Item → Bool) → List {1} Refusing → Bool → Bool → Decoding → Decoding → Error → Type 0
RowNamed s takes refuses grows buffers old new e = Named (row_refusal s.awaited takes refuses) (grows || buffers) buffers old new e

abbrev pub MapNamed : {V : Type 0} → Slots V → List (Item → Bool) → List {1} Refusing → Bool → Decoding → Decoding → Error → Type 0
MapNamed s takes refuses buffers old new e = Named (opened_refusal map_data (fields_refusal s.all_names takes refuses s.awaited)) true buffers old new e

abbrev pub FieldsNamed : {V : Type 0} → Slots V → List (Item → Bool) → List {1} Refusing → Bool → Decoding → Decoding → Error → Type 0
FieldsNamed s takes refuses buffers old new e = Named (struct_refusal s.awaited s.all_names takes refuses) true buffers old new e
