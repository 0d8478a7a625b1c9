-- Items of every kind, which are read whole and of which nothing is kept.
use Rattle.std.specs.Prelude.{◌≡◌, ◌⊎◌, ℕ, zero, suc, Bool, true, false, IsTrue, List, Option, Some, None, Result, Ok, Err, IfOk, IfErr}
use Rattle.std.proofs.Common.{refl}
use Rattle.amqp_base.specs.declared.error.Error.{Error}
use Rattle.amqp_base.specs.declared.error.Error.TheVariants.{InvalidValue}
use Rattle.amqp_base.specs.declared.format_code.EncodingCodes.{EncodingCodes}
use Rattle.amqp_base.specs.Codes.{Kind, row}
use Rattle.amqp_base.specs.Describing.{is_described_of, described_refusal}
use Rattle.amqp_base.specs.Item.{null, Item, scalar, list, map, array, described}
use Rattle.amqp_base.specs.Maps.{all_pairs_taken, is_map_of}
use Rattle.amqp_base.specs.Meaning.{Meaning, from_false}
use Rattle.amqp_base.specs.Parse.{code_at}
use Rattle.amqp_base.specs.Refusing.{Refusing, scalar_refusal, decimal_refusal, seq_refusal, map_refusal}
use Rattle.amqp_base.specs.Typing.{is_of, is_seq_of, all_taken}
use Rattle.amqp_base.specs.Wire.{Constructor}
use Rattle.amqp_de.specs.Access.{Listing, Part, NoPart, PartNamed}
use Rattle.amqp_de.specs.Decoding.{Decoding}
use Rattle.amqp_de.specs.Law.{Found, Missed, Named}
use Rattle.amqp_de.specs.declared.ignored.Inside.{Inside}

-- whether items of the kind have others inside
abbrev pub has_inside : Kind → Bool
has_inside Kind.described = true
has_inside Kind.list = true
has_inside Kind.map = true
has_inside Kind.array = true
has_inside k = false

-- an item without parts
abbrev pub is_scalar : Item → Bool
is_scalar (scalar v) = true
is_scalar (list is) = false
is_scalar (map ps) = false
is_scalar (array is) = false
is_scalar (described d v) = false

-- an item inside which just these stand
abbrev pub around : (Item → Bool) → Item → Bool
around takes (scalar v) = true
around takes (list is) = all_taken takes is
around takes (map ps) = all_pairs_taken takes takes ps
around takes (array is) = all_taken takes is
around takes (described d v) = takes v

-- Any item in which at most so many lists, maps, arrays and described values stand one inside the other: this profile's own
-- rule. The standard has no limit (1.2).
unfoldable pub nested : ℕ → Item → Bool
nested zero i = is_scalar i
nested (suc n) i = around (nested n) i

-- whatever the item is, it means the value
abbrev pub anything : Item → Type 0
anything i = Unit {0}

-- ---- refusals

-- a value without parts; a decimal also by the code of another width
abbrev pub any_scalar_refusal : Kind → Refusing
any_scalar_refusal k c s e = scalar_refusal k c s e ⊎ decimal_refusal k c s e

-- an item inside which others stand: as its kind is refused
abbrev pub inside_refusal : (Item → Bool) → Refusing → Kind → Refusing
inside_refusal takes refuses Kind.map = map_refusal takes refuses takes refuses
inside_refusal takes refuses Kind.described = described_refusal refuses
inside_refusal takes refuses k = seq_refusal takes refuses

-- an item is nested too deep
abbrev pub too_deep : Kind → Refusing
too_deep k c s e = e ≡ InvalidValue

-- any item: by its code, as a value without parts of its kind, or by what stands inside
pub data AnyRefused (inside : Kind → Refusing) (c : Constructor) (s : List ℕ) (e : Error) : Type 0 where
  no_code : code_at c s ≡ Err e → AnyRefused inside c s e
  no_scalar : (x : EncodingCodes) (rest : List ℕ) → code_at c s ≡ Ok (x, rest) → has_inside (row x).kind ≡ false → scalar_refusal (row x).kind c s e → AnyRefused inside c s e
  no_inside : (x : EncodingCodes) (rest : List ℕ) → code_at c s ≡ Ok (x, rest) → has_inside (row x).kind ≡ true → inside (row x).kind c s e → AnyRefused inside c s e

unfoldable pub ignored_refusal : ℕ → Refusing
ignored_refusal zero = AnyRefused too_deep
ignored_refusal (suc n) = AnyRefused (inside_refusal (nested n) (ignored_refusal n))

-- ---- the type

pub null_nested : (n : ℕ) → IsTrue (nested n (scalar null))
unfolding nested
null_nested zero = refl
null_nested (suc n) = refl

-- a type of one value, which is written as null and which any item is read as that is nested so deep at most
abbrev pub ignored_of : {V : Type 0} → ℕ → Meaning V
ignored_of n = record {
  item = λ _ _. scalar null;
  takes = nested n;
  means = λ i v. Unit {0};
  same = λ v w. Unit {0};
  refuses = ignored_refusal n;
  grows = true;
  in_described_list = λ _. refl;
  in_described_basic = λ _. refl;
  one_value = λ i v w p q. tt;
  sound = λ _. Unit {0};
  always_sound = true;
  is_sound = λ _ _. tt;
  reads_back = true;
  taken_back = λ _ v _. null_nested n;
  read_back = λ _ _ _. tt;
  never_null = false;
  not_null = λ h. from_false h;
}

-- ---- the steps

-- An item that is taken stood at the front, and was read; or it is refused so.
pub record Passes (takes : Item → Bool) (refuses : Refusing) (buffers : Bool) (old : Decoding) (result : Result (Unit {0}) Error) (new : Decoding) : Type 0 where
  pub ok : IfOk result (λ _. Found takes anything old new)
  pub err : IfErr result (λ e. Missed takes true buffers old new e)
  pub named : IfErr result (λ e. Named refuses true buffers old new e)

-- a value without parts of this kind
abbrev pub PassesKind : Kind → Bool → Decoding → Result (Unit {0}) Error → Decoding → Type 0
PassesKind k buffers old result new = Passes (is_of k) (any_scalar_refusal k) buffers old result new

-- a type takes the values of a kind without parts, and refuses others so
pub record ReadsKind {T : Type 0} (m : Meaning T) (k : Kind) : Type 0 where
  pub takes : m.takes ≡ is_of k
  pub refuses : (c : Constructor) (s : List ℕ) (e : Error) → m.refuses c s e → any_scalar_refusal k c s e

-- what stands inside the items of a kind
abbrev pub IsInside : Kind → Option Inside → Type 0
IsInside k None = has_inside k ≡ false
IsInside k (Some Inside.Value) = k ≡ Kind.described
IsInside k (Some Inside.Elements) = (k ≡ Kind.list) ⊎ (k ≡ Kind.array)
IsInside k (Some Inside.Entries) = k ≡ Kind.map

-- items with such parts, which are taken, and how others are refused
abbrev pub taken_with : Inside → (Item → Bool) → Item → Bool
taken_with Inside.Value takes = is_described_of takes
taken_with Inside.Elements takes = is_seq_of takes
taken_with Inside.Entries takes = is_map_of takes takes

abbrev pub refused_with : Inside → (Item → Bool) → Refusing → Refusing
refused_with Inside.Value takes refuses = described_refusal refuses
refused_with Inside.Elements takes refuses = seq_refusal takes refuses
refused_with Inside.Entries takes refuses = map_refusal takes refuses takes refuses

-- since an access was `from`, parts that are taken were passed over
pub data Passed (takes : Item → Bool) (from : Listing) : Listing → Type 0 where
  none_passed : Passed takes from from
  one_passed : (now next : Listing) → Passed takes from now → Part takes anything now next → Passed takes from next

-- behind such parts one was refused
pub record PassedNot (takes : Item → Bool) (refuses : Refusing) (buffers : Bool) (from last : Listing) (e : Error) : Type 0 where
  pub now : Listing
  pub passed : Passed takes from now
  pub refused : NoPart takes true buffers now last e
  pub named : PartNamed takes refuses true buffers now last e
