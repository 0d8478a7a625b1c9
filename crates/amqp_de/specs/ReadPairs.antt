-- What was read of a map, key by key and value by value.
use Rattle.std.specs.Prelude.{◌≡◌, ◌%◌, Bool, false, IsTrue, Option, Some, None, Result, Ok, Err}
use Rattle.amqp_base.specs.declared.error.Error.{Error}
use Rattle.amqp_base.specs.declared.error.Error.TheVariants.{InvalidValue}
use Rattle.amqp_base.specs.Item.{Item, Pairs, no_pairs, pair, in_turn}
use Rattle.amqp_base.specs.Maps.{all_pairs_taken, is_map_of}
use Rattle.amqp_de.specs.Decoding.{Decoding, as_ended}
use Rattle.amqp_de.specs.Law.{Missed}
use Rattle.amqp_base.specs.Parse.{map_data}
use Rattle.amqp_base.specs.Refusing.{Refusing}
use Rattle.amqp_de.specs.Access.{Listing, Opens, OpensNot, Part, NoPart, PartNamed}
use Rattle.amqp_data.specs.Parts.{HasPairs}
use Rattle.amqp_de.specs.ReadParts.{PartsRead, and_last}

-- A key comes next where as many keys as values are left; else the value of the last key.
abbrev pub KeyNext : Listing → Type 0
KeyNext l = l.left % 2 ≡ 0

abbrev pub ValueNext : Listing → Type 0
ValueNext l = l.left % 2 ≡ 1

-- the same access, where its deserializer is ended
abbrev pub ended_access : Listing → Listing
ended_access l = record { state = as_ended l.state; left = l.left; outer = l.outer; limit = l.limit }

-- a key or a value that is refused: now isn't its turn, or it is refused as a part
pub record OutOfTurn (Turn : Listing → Type 0) (takes : Item → Bool) (grows buffers : Bool) (old new : Listing) (err : Error) : Type 0 where
  pub if_ended : IsTrue old.state.ended → (err ≡ InvalidValue) × (new ≡ old)
  pub other : (Turn old → ⊥) → (err ≡ InvalidValue) × (new ≡ ended_access old)
  pub refused : Turn old → NoPart takes grows buffers old new err
  pub ended : IsTrue new.state.ended

-- the next key, or none where none is left
abbrev pub NextKey : {K : Type 0} → (Item → Bool) → (Item → K → Type 0) → Bool → Bool → Listing → Result (Option K) Error → Listing → Type 0
NextKey takes means grows buffers old (Ok None) new = (old.left ≡ 0) × (new ≡ old) × (old.state.ended ≡ false)
NextKey takes means grows buffers old (Ok (Some k)) new = Part takes (λ i. means i k) old new × (old.state.ended ≡ false) × KeyNext old
NextKey takes means grows buffers old (Err e) new = OutOfTurn KeyNext takes grows buffers old new e

-- the value of the last key
abbrev pub NextValue : {V : Type 0} → (Item → Bool) → (Item → V → Type 0) → Bool → Bool → Listing → Result V Error → Listing → Type 0
NextValue takes means grows buffers old (Ok v) new = Part takes (λ i. means i v) old new × (old.state.ended ≡ false) × ValueNext old
NextValue takes means grows buffers old (Err e) new = OutOfTurn ValueNext takes grows buffers old new e

-- the next key and its value, one after the other
pub record NextPair {K V : Type 0} (key value : Item → Bool) (means_key : Item → K → Type 0) (means_value : Item → V → Type 0) (grows_key grows_value buffers : Bool) (old : Listing) (k : K) (v : V) (new : Listing) : Type 0 where
  pub between : Listing
  pub key_read : NextKey key means_key grows_key buffers old (Ok (Some k)) between
  pub value_read : NextValue value means_value grows_value buffers between (Ok v) new

-- a pair that is refused: its key, or the value behind a key
pub data NoEntry {K : Type 0} (key value : Item → Bool) (means_key : Item → K → Type 0) (grows_key grows_value buffers : Bool) (old new : Listing) (e : Error) : Type 0 where
  no_key : OutOfTurn KeyNext key grows_key buffers old new e → NoEntry key value means_key grows_key grows_value buffers old new e
  no_value : (k : K) (mid : Listing) → NextKey key means_key grows_key buffers old (Ok (Some k)) mid → OutOfTurn ValueNext value grows_value buffers mid new e → NoEntry key value means_key grows_key grows_value buffers old new e

abbrev pub NextEntry : {K V : Type 0} → (Item → Bool) → (Item → Bool) → (Item → K → Type 0) → (Item → V → Type 0) → Bool → Bool → Bool → Listing → Result (Option (K × V)) Error → Listing → Type 0
NextEntry key value means_key means_value grows_key grows_value buffers old (Ok None) new = (old.left ≡ 0) × (new ≡ old) × (old.state.ended ≡ false)
NextEntry key value means_key means_value grows_key grows_value buffers old (Ok (Some p)) new = NextPair key value means_key means_value grows_key grows_value buffers old p.0 p.1 new
NextEntry key value means_key means_value grows_key grows_value buffers old (Err e) new = NoEntry key value means_key grows_key grows_value buffers old new e

-- Of known bytes a key or a value whose turn it is is refused as its type refuses it.
pub record TurnNamed (Turn : Listing → Type 0) (takes : Item → Bool) (refuses : Refusing) (grows buffers : Bool) (old new : Listing) (e : Error) : Type 0 where
  pub part : Turn old → PartNamed takes refuses grows buffers old new e

-- and of a pair its key, or the value behind a key
pub data EntryTurnNamed {K : Type 0} (key value : Item → Bool) (means_key : Item → K → Type 0) (refuses_key refuses_value : Refusing) (grows_key grows_value buffers : Bool) (old new : Listing) (e : Error) : Type 0 where
  key_named : TurnNamed KeyNext key refuses_key grows_key buffers old new e → EntryTurnNamed key value means_key refuses_key refuses_value grows_key grows_value buffers old new e
  value_named : (k : K) (mid : Listing) → NextKey key means_key grows_key buffers old (Ok (Some k)) mid → TurnNamed ValueNext value refuses_value grows_value buffers mid new e → EntryTurnNamed key value means_key refuses_key refuses_value grows_key grows_value buffers old new e

-- one more pair behind these
abbrev pub and_pair : Pairs → Item → Item → Pairs
and_pair no_pairs k v = pair k v no_pairs
and_pair (pair i j ps) k v = pair i j (and_pair ps k v)

-- Since `old` a map was opened, and these pairs of it were read, whose keys and values are taken.
pub record PairsRead (old : Decoding) (key value : Item → Bool) (pairs : Pairs) (now : Listing) : Type 0 where
  pub from : Listing
  pub opened : Opens HasPairs old from
  pub reads : PartsRead from (in_turn pairs) now
  pub taken : IsTrue (all_pairs_taken key value pairs)
  pub turn : KeyNext now

-- and a key, whose value isn't read yet
pub record KeyRead (old : Decoding) (key value : Item → Bool) (pairs : Pairs) (last : Item) (now : Listing) : Type 0 where
  pub from : Listing
  pub opened : Opens HasPairs old from
  pub reads : PartsRead from (and_last (in_turn pairs) last) now
  pub taken : IsTrue (all_pairs_taken key value pairs)
  pub key_taken : IsTrue (key last)
  pub turn : ValueNext now

-- one more key was read, of this meaning
pub record MoreKey (old : Decoding) (key value : Item → Bool) (pairs : Pairs) (means : Item → Type 0) (now : Listing) : Type 0 where
  pub item : Item
  pub meant : means item
  pub more : KeyRead old key value pairs item now

-- its value was read, of this meaning
pub record MoreValue (old : Decoding) (key value : Item → Bool) (pairs : Pairs) (last : Item) (means : Item → Type 0) (now : Listing) : Type 0 where
  pub item : Item
  pub meant : means item
  pub more : PairsRead old key value (and_pair pairs last item) now

-- one more pair was read, whose key and value have these meanings
pub record MorePair (old : Decoding) (key value : Item → Bool) (pairs : Pairs) (means_key means_value : Item → Type 0) (now : Listing) : Type 0 where
  pub key_item : Item
  pub value_item : Item
  pub key_meant : means_key key_item
  pub value_meant : means_value value_item
  pub more : PairsRead old key value (and_pair pairs key_item value_item) now

-- no map was opened: so a map of any keys and values is missed, and want of memory is no excuse
pub record NoMap (buffers : Bool) (old last : Decoding) (e : Error) : Type 0 where
  pub not_opened : OpensNot HasPairs map_data buffers buffers old last e
  pub missed : (key value : Item → Bool) → Missed (is_map_of key value) buffers buffers old last e
