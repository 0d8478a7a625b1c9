-- Which refusal a type makes of bytes.
use Rattle.std.specs.Prelude.{◌≡◌, ℕ, zero, suc, ◌-◌, ◌⊎◌, Bool, true, false, ◌&&◌, not, nat_lt, IsTrue, List, [], ◌∷◌, ◌++◌, length, map, Option, Some, None, Ok, Err, if◌then◌else◌, ⊤}
use Rattle.std.specs.Str.{bytes_eq}
use Rattle.amqp_base.specs.declared.error.Error.{Error}
use Rattle.amqp_base.specs.declared.error.Error.TheVariants.{InvalidValue}
use Rattle.amqp_base.specs.declared.format_code.EncodingCodes.{EncodingCodes}
use Rattle.amqp_base.specs.Codes.{Kind, row}
use Rattle.amqp_base.specs.Item.{Item, scalar, string}
use Rattle.amqp_base.specs.Refusals.{IsMessage, StandsFor}
use Rattle.amqp_base.specs.SameKind.{is_decimal_kind, same_kind}
use Rattle.amqp_base.specs.Typing.{is_of}
use Rattle.amqp_base.specs.Wire.{Constructor, bare, Wire, lenient}
use Rattle.amqp_base.specs.Parse.{Parsed, Heading, item_at, code_at, data_at, tuple_data, map_data, seq_data}

-- what stands under a constructor at the front of these bytes may be refused so
abbrev pub Refusing : Type 1
Refusing = Constructor → List ℕ → Error → Type 0

-- nothing is said of it
abbrev pub any_refusal : Refusing
any_refusal c s e = ⊤

-- an item that is taken stands there, and what follows it is so
pub record FrontThen (c : Constructor) (takes : Item → Bool) (later : List ℕ → Type 0) (s : List ℕ) : Type 0 where
  pub item : Item
  pub text : List ℕ
  pub rest : List ℕ
  pub spelled : Wire lenient c text item
  pub taken : IsTrue (takes item)
  pub split : s ≡ text ++ rest
  pub behind : later rest

abbrev pub one_or_other : Bool → Type 0 → Type 0 → Type 0
one_or_other true p q = p
one_or_other false p q = q

-- ---- values without parts, options

-- an item of a kind without parts: by the first rule that the bytes break
unfoldable pub scalar_refusal : Kind → Refusing
scalar_refusal k c s e = item_at (data_at k) c s ≡ Err e

-- the same, and of those the values that aren't allowed
unfoldable pub chosen_refusal : Kind → (Item → Bool) → Refusing
chosen_refusal k allowed c s e = scalar_refusal k c s e ⊎ FrontThen c (λ i. is_of k i && not (allowed i)) (λ rest. e ≡ InvalidValue) s

-- a decimal (1.6.13 to 1.6.15): by the code of another width, before its bytes are looked at
abbrev pub is_other_width : Kind → Parsed EncodingCodes → Bool
is_other_width k (Err x) = false
is_other_width k (Ok x) = is_decimal_kind (row x.0).kind && not (same_kind (row x.0).kind k)

unfoldable pub decimal_refusal : Kind → Refusing
decimal_refusal k c s e = one_or_other (is_other_width k (code_at c s)) (IsMessage e) (scalar_refusal k c s e)

-- null, or what the type refuses
unfoldable pub option_refusal : Refusing → Refusing
option_refusal refuses c s e = (code_at c s ≡ Err e) ⊎ refuses c s e

-- ---- maps and rows: by the header, or by what stands behind it

pub record HeaderThen (parse : EncodingCodes → List ℕ → Parsed ℕ) (later : ℕ → List ℕ → Type 0) (c : Constructor) (s : List ℕ) : Type 0 where
  pub count : ℕ
  pub rest : List ℕ
  pub header : item_at parse c s ≡ Ok (count, rest)
  pub behind : later count rest

-- how so many parts at the front of bytes are refused
abbrev pub PartsRefusing : Type 1
PartsRefusing = ℕ → List ℕ → Error → Type 0

unfoldable pub opened_refusal : (EncodingCodes → List ℕ → Parsed ℕ) → PartsRefusing → Refusing
opened_refusal parse later c s e = (item_at parse c s ≡ Err e) ⊎ HeaderThen parse (λ n rest. later n rest e) c s

-- Which fields are awaited: those of a row have no value yet.
abbrev pub all_awaited : {A : Type 0} → List A → List Bool
all_awaited fields = map (λ _. true) fields

abbrev pub awaited_count : List Bool → ℕ
awaited_count [] = 0
awaited_count (true ∷ bs) = suc (awaited_count bs)
awaited_count (false ∷ bs) = awaited_count bs

-- the part of a field that is awaited is refused, behind those before it, which are taken
abbrev pub row_part_refusal : List Bool → List (Item → Bool) → List {1} Refusing → List ℕ → Error → Type 0
row_part_refusal (true ∷ bs) (t ∷ ts) (r ∷ rs) s e = r bare s e ⊎ FrontThen bare t (λ z. row_part_refusal bs ts rs z e) s
row_part_refusal (false ∷ bs) (t ∷ ts) (r ∷ rs) s e = row_part_refusal bs ts rs s e
row_part_refusal bs ts rs s e = ⊥

-- a list of just as many parts
abbrev pub row_refusal : List Bool → List (Item → Bool) → List {1} Refusing → Refusing
row_refusal awaited takes refuses = opened_refusal (tuple_data (awaited_count awaited)) (λ n. row_part_refusal awaited takes refuses)

-- of n keys and values in turn one is refused
abbrev pub turn_refusal : (Item → Bool) → Refusing → (Item → Bool) → Refusing → PartsRefusing
turn_refusal key no_key value no_value zero s e = ⊥
turn_refusal key no_key value no_value (suc n) s e = no_key bare s e ⊎ FrontThen bare key (λ r. turn_refusal value no_value key no_key n r e) s

abbrev pub map_refusal : (Item → Bool) → Refusing → (Item → Bool) → Refusing → Refusing
map_refusal key no_key value no_value = opened_refusal map_data (turn_refusal key no_key value no_value)

-- ---- lists and arrays

-- an element of n bytes goes past the room that is left, or what is behind it is so
abbrev pub in_room : Option ℕ → ℕ → Type 0 → (Option ℕ → Type 0) → Type 0
in_room None n past behind = behind None
in_room (Some m) n past behind = one_or_other (nat_lt m n) past (behind (Some (m - n)))

-- of n elements one is refused, behind those before it, which are taken; or one of an array goes past the array's bytes
abbrev pub element_refusal : (Item → Bool) → Refusing → Constructor → Option ℕ → PartsRefusing
element_refusal takes refuses c room zero s e = ⊥
element_refusal takes refuses c room (suc n) s e =
    refuses c s e ⊎ FrontThen c takes (λ r. in_room room (length s - length r) (e ≡ InvalidValue) (λ left. element_refusal takes refuses c left n r e)) s

-- a heading stands there, and what follows it is so
pub record HeadingThen (later : Heading → List ℕ → Type 0) (c : Constructor) (s : List ℕ) : Type 0 where
  pub heading : Heading
  pub rest : List ℕ
  pub header : (custom : Error) → item_at (seq_data custom) c s ≡ Ok (heading, rest)
  pub behind : later heading rest

-- a list or an array: by what stands in front of its elements, or by one of them
unfoldable pub seq_refusal : (Item → Bool) → Refusing → Refusing
seq_refusal takes refuses c s e =
    ((custom : Error) → StandsFor custom e → item_at (seq_data custom) c s ≡ Err e)
    ⊎ HeadingThen (λ h rest. element_refusal takes refuses h.stands h.room h.count rest e) c s

-- an array, or any other item as its only element: by the code
pub data ArrayRefused (takes : Item → Bool) (refuses : Refusing) (c : Constructor) (s : List ℕ) (e : Error) : Type 0 where
  no_code : code_at c s ≡ Err e → ArrayRefused takes refuses c s e
  of_array : (x : EncodingCodes) (rest : List ℕ) → code_at c s ≡ Ok (x, rest) → (row x).kind ≡ Kind.array → seq_refusal takes refuses c s e → ArrayRefused takes refuses c s e
  of_one : (x : EncodingCodes) (rest : List ℕ) → code_at c s ≡ Ok (x, rest) → ((row x).kind ≡ Kind.array → ⊥) → refuses c s e → ArrayRefused takes refuses c s e

abbrev pub array_refusal : (Item → Bool) → Refusing → Refusing
array_refusal takes refuses = ArrayRefused takes refuses

-- ---- structs whose fields have names

abbrev pub and_before : Bool → Option (List Bool) → Option (List Bool)
and_before b None = None
and_before b (Some bs) = Some (b ∷ bs)

-- the value under a name is that of the first field of this name that is awaited: which are awaited behind it
abbrev pub awaited_behind : List ℕ → List (List ℕ) → List Bool → Option (List Bool)
awaited_behind name (n ∷ ns) (b ∷ bs) = if b && bytes_eq n name then Some (false ∷ bs) else and_before b (awaited_behind name ns bs)
awaited_behind name ns bs = None

-- what that field takes, and how it refuses
abbrev pub taken_under : List ℕ → List (List ℕ) → List Bool → List (Item → Bool) → Item → Bool
taken_under name (n ∷ ns) (b ∷ bs) (t ∷ ts) i = if b && bytes_eq n name then t i else taken_under name ns bs ts i
taken_under name ns bs ts i = false

abbrev pub refused_under : List ℕ → List (List ℕ) → List Bool → List {1} Refusing → List ℕ → Error → Type 0
refused_under name (n ∷ ns) (b ∷ bs) (r ∷ rs) s e = one_or_other (b && bytes_eq n name) (r bare s e) (refused_under name ns bs rs s e)
refused_under name ns bs rs s e = ⊥

-- the name of a field stands there, and what follows it is so
pub record NameThen (later : List ℕ → List ℕ → Type 0) (s : List ℕ) : Type 0 where
  pub name : List ℕ
  pub text : List ℕ
  pub rest : List ℕ
  pub spelled : Wire lenient bare text (scalar (string name))
  pub split : s ≡ text ++ rest
  pub behind : later name rest

-- behind a name: it isn't awaited; or its value is refused, or taken, and what follows is so
abbrev pub value_refusal : Option (List Bool) → Type 0 → (List Bool → Type 0) → Error → Type 0
value_refusal None refused later e = IsMessage e
value_refusal (Some bs) refused later e = refused ⊎ later bs

-- of n names and values in turn a name isn't a string or not awaited, or a value is refused; or behind the last of them a
-- field is missing
abbrev pub fields_refusal : List (List ℕ) → List (Item → Bool) → List {1} Refusing → List Bool → PartsRefusing
fields_refusal names takes refuses awaited zero s e = (awaited_count awaited ≡ 0 → ⊥) × IsMessage e
fields_refusal names takes refuses awaited (suc zero) s e = ⊥
fields_refusal names takes refuses awaited (suc (suc n)) s e =
    scalar_refusal Kind.string bare s e ⊎ NameThen (λ name z. value_refusal (awaited_behind name names awaited) (refused_under name names awaited refuses z e) (λ bs. FrontThen bare (taken_under name names awaited takes) (λ y. fields_refusal names takes refuses bs n y e) z) e) s

-- a struct: by its code, or as the form of it is refused
pub data StructRefused (awaited : List Bool) (names : List (List ℕ)) (takes : List (Item → Bool)) (refuses : List {1} Refusing) (c : Constructor) (s : List ℕ) (e : Error) : Type 0 where
  no_code : code_at c s ≡ Err e → StructRefused awaited names takes refuses c s e
  of_map : (x : EncodingCodes) (rest : List ℕ) → code_at c s ≡ Ok (x, rest) → (row x).kind ≡ Kind.map → opened_refusal map_data (fields_refusal names takes refuses awaited) c s e → StructRefused awaited names takes refuses c s e
  of_list : (x : EncodingCodes) (rest : List ℕ) → code_at c s ≡ Ok (x, rest) → ((row x).kind ≡ Kind.map → ⊥) → row_refusal awaited takes refuses c s e → StructRefused awaited names takes refuses c s e

abbrev pub struct_refusal : List Bool → List (List ℕ) → List (Item → Bool) → List {1} Refusing → Refusing
struct_refusal awaited names takes refuses = StructRefused awaited names takes refuses
