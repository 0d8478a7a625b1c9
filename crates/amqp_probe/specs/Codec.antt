-- What a type's codec makes of bytes.
use Rattle.std.specs.Prelude.{◌≡◌, ◌≢◌, ◌⊎◌, ℕ, ◌-◌, Bool, true, false, if◌then◌else◌, IsTrue, List, [], ◌∷◌, length, Some}
use Rattle.std.specs.Str.{bytes_eq}
use Rattle.amqp_base.specs.declared.error.Error.{Error}
use Rattle.amqp_base.specs.declared.error.Error.TheVariants.{OutOfMemory}
use Rattle.amqp_base.specs.Codes.{Kind as ItemKind}
use Rattle.amqp_base.specs.Item.{Item, scalar, list, map, array, string, Items, none as no_items, more, Pairs, no_pairs, pair}
use Rattle.amqp_base.specs.Wire.{lenient, bare, Front}
use Rattle.amqp_base.specs.Canon.{canon}
use Rattle.amqp_ser.specs.Texts.{HasNoText}
use Rattle.amqp_base.specs.Maps.{is_map_of}
use Rattle.amqp_base.specs.Fields.{takes_fields}
use Rattle.amqp_base.specs.Options.{takes_option}
use Rattle.amqp_base.specs.Refusing.{Refusing, scalar_refusal, option_refusal, seq_refusal, array_refusal, all_awaited, row_refusal, map_refusal}
use Rattle.amqp_base.specs.Typing.{is_of, is_seq_of, takes_array}
use Rattle.amqp_probe.specs.declared.kind.Kind.{Kind}
use Rattle.amqp_probe.specs.declared.kind.Kind.TheVariants.{Bool as Boolean, I32, U32, U64, String, Symbol, ListI32, ListU64, ListUnit, ListListI32, ListArrayI32, ArrayI32, ArrayString, OptionU32, TupleU32Bool, MapStringU32}
use Rattle.amqp_probe.specs.declared.codec.Outcome.{Outcome}
use Rattle.amqp_probe.specs.declared.codec.Outcome.TheVariants.{Value, Refused}

-- the parts of the tuple
abbrev parts : List (Item → Bool)
parts = is_of ItemKind.uint ∷ is_of ItemKind.boolean ∷ []

-- the items that a type takes
abbrev pub takes : Kind → Item → Bool
takes Boolean = is_of ItemKind.boolean
takes I32 = is_of ItemKind.int
takes U32 = is_of ItemKind.uint
takes U64 = is_of ItemKind.ulong
takes String = is_of ItemKind.string
takes Symbol = is_of ItemKind.symbol
takes ListI32 = is_seq_of (is_of ItemKind.int)
takes ListU64 = is_seq_of (is_of ItemKind.ulong)
takes ListUnit = is_seq_of (is_of ItemKind.null)
takes ListListI32 = is_seq_of (is_seq_of (is_of ItemKind.int))
takes ListArrayI32 = is_seq_of (takes_array (is_of ItemKind.int))
takes ArrayI32 = takes_array (is_of ItemKind.int)
takes ArrayString = takes_array (is_of ItemKind.string)
takes OptionU32 = takes_option (is_of ItemKind.uint)
takes TupleU32Bool = takes_fields parts
takes MapStringU32 = is_map_of (is_of ItemKind.string) (is_of ItemKind.uint)

-- which refusal a type makes of bytes, as its own meaning says (`Meaning.antt`, `Refusing.antt`)
abbrev pub refuses : Kind → Refusing
refuses Boolean = scalar_refusal ItemKind.boolean
refuses I32 = scalar_refusal ItemKind.int
refuses U32 = scalar_refusal ItemKind.uint
refuses U64 = scalar_refusal ItemKind.ulong
refuses String = scalar_refusal ItemKind.string
refuses Symbol = scalar_refusal ItemKind.symbol
refuses ListI32 = seq_refusal (is_of ItemKind.int) (scalar_refusal ItemKind.int)
refuses ListU64 = seq_refusal (is_of ItemKind.ulong) (scalar_refusal ItemKind.ulong)
refuses ListUnit = seq_refusal (is_of ItemKind.null) (scalar_refusal ItemKind.null)
refuses ListListI32 = seq_refusal (is_seq_of (is_of ItemKind.int)) (seq_refusal (is_of ItemKind.int) (scalar_refusal ItemKind.int))
refuses ListArrayI32 = seq_refusal (takes_array (is_of ItemKind.int)) (array_refusal (is_of ItemKind.int) (scalar_refusal ItemKind.int))
refuses ArrayI32 = array_refusal (is_of ItemKind.int) (scalar_refusal ItemKind.int)
refuses ArrayString = array_refusal (is_of ItemKind.string) (scalar_refusal ItemKind.string)
refuses OptionU32 = option_refusal (scalar_refusal ItemKind.uint)
refuses TupleU32Bool = row_refusal (all_awaited parts) parts (scalar_refusal ItemKind.uint ∷ scalar_refusal ItemKind.boolean ∷ [])
refuses MapStringU32 = map_refusal (is_of ItemKind.string) (scalar_refusal ItemKind.string) (is_of ItemKind.uint) (scalar_refusal ItemKind.uint)

-- two keys are the same string
abbrev pub same_key : Item → Item → Bool
same_key (scalar (string a)) (scalar (string b)) = bytes_eq a b
same_key i j = false

-- the pairs and one more: a key that is there keeps its place and gets the value, and a new one goes last
abbrev pub put_pair : Pairs → Item → Item → Pairs
put_pair no_pairs k v = pair k v no_pairs
put_pair (pair i w ps) k v = if same_key k i then pair i v ps else pair i w (put_pair ps k v)

abbrev pub put_pairs : Pairs → Pairs → Pairs
put_pairs done no_pairs = done
put_pairs done (pair k v ps) = put_pairs (put_pair done k v) ps

-- what is kept of each
abbrev pub kept_all : (Item → Item) → Items → Items
kept_all keep no_items = no_items
kept_all keep (more i is) = more (keep i) (kept_all keep is)

-- a list or an array, as a list of what is kept of its elements
abbrev pub as_list : (Item → Item) → Item → Item
as_list keep (list is) = list (kept_all keep is)
as_list keep (array is) = list (kept_all keep is)
as_list keep i = i

-- an array, of what is kept of its elements; any other item as an array's only element
abbrev pub as_array : (Item → Item) → Item → Item
as_array keep (array is) = array (kept_all keep is)
as_array keep i = array (more (keep i) no_items)

-- of equal keys the first with the last value
abbrev pub as_map : Item → Item
as_map (map ps) = map (put_pairs no_pairs ps)
as_map i = i

-- The item of the value that an item is read as.
abbrev pub kept : Kind → Item → Item
kept ListI32 = as_list (λ i. i)
kept ListU64 = as_list (λ i. i)
kept ListUnit = as_list (λ i. i)
kept ListListI32 = as_list (as_list (λ i. i))
kept ListArrayI32 = as_list (as_array (λ i. i))
kept ArrayI32 = as_array (λ i. i)
kept ArrayString = as_array (λ i. i)
kept MapStringU32 = as_map
kept kind = λ i. i

-- An item that the type takes is spelled at the front of the bytes, and the item of its value has a canonical text.
pub record HasText (kind : Kind) (bytes canonical : List ℕ) (rest : ℕ) : Type 0 where
  pub item : Item
  pub consumed : ℕ
  pub front : Front lenient bare bytes item consumed
  pub taken : takes kind item ≡ true
  pub text : canon (kept kind item) ≡ Some canonical
  pub left : rest ≡ length bytes - consumed

-- Such an item is spelled there, and the item of its value has no canonical text, and is refused so.
pub record IsTextless (kind : Kind) (bytes : List ℕ) (e : Error) : Type 0 where
  pub item : Item
  pub consumed : ℕ
  pub front : Front lenient bare bytes item consumed
  pub taken : takes kind item ≡ true
  pub none : HasNoText (kept kind item) e

-- A refusal says that there is no such text; and it is the one that the type makes of the bytes, or they stand for a
-- value that has none, and it says why.
abbrev pub Decoded : Kind → List ℕ → Outcome → Type 0
Decoded kind bytes (Value canonical rest) = HasText kind bytes canonical.items rest
Decoded kind bytes (Refused e) = (e ≢ OutOfMemory) × ((canonical : List ℕ) (rest : ℕ) → HasText kind bytes canonical rest → ⊥)
    × (refuses kind bare bytes e ⊎ IsTextless kind bytes e)

-- an item that is taken stands at the front and means the value, and this is so of the item that the value is written as
pub record Recodes {T : Type 0} (taken_by : Item → Bool) (means : Item → T → Type 0) (written : T → Item) (bytes : List ℕ) (so : Item → Type 0) (consumed : ℕ) : Type 0 where
  pub value : T
  pub item : Item
  pub front : Front lenient bare bytes item consumed
  pub taken : IsTrue (taken_by item)
  pub meant : means item value
  pub text : so (written value)

-- no item that is taken stands at the front
abbrev pub TakesNone : (Item → Bool) → List ℕ → Type 0
TakesNone taken_by bytes = (i : Item) (n : ℕ) → Front lenient bare bytes i n → IsTrue (taken_by i) → ⊥

-- the same for every type: a refusal is one that it makes of the bytes, where no item that is taken stands there, or the
-- value that was read has no text and is refused so
abbrev pub Recoded : {T : Type 0} → (Item → Bool) → Refusing → (Item → T → Type 0) → (T → Item) → List ℕ → Outcome → Type 0
Recoded taken_by refused_by means written bytes (Value canonical rest) = (n : ℕ) × Recodes taken_by means written bytes (λ i. canon i ≡ Some canonical.items) n × (rest ≡ length bytes - n)
Recoded taken_by refused_by means written bytes (Refused e) = (e ≢ OutOfMemory)
    × ((TakesNone taken_by bytes × refused_by bare bytes e) ⊎ ((n : ℕ) × Recodes taken_by means written bytes (λ i. HasNoText i e) n))

-- this refusal, which isn't want of memory
abbrev pub IsRefused : Error → Outcome → Type 0
IsRefused e (Refused f) = (f ≡ e) × (e ≢ OutOfMemory)
IsRefused e (Value canonical rest) = ⊥
