-- The two forms of a struct: a list of its fields, and a map from their names.
use Rattle.std.proofs.Common.{◌≡◌, ℕ, Bool, true, false, List, [], ◌++◌, refl, sym, ◌∙◌, inl, inr, ◌⊎◌, length, IsTrue}
use Rattle.std.proofs.lemmas.List.{append-nil}
use Rattle.amqp_base.specs.declared.error.Error.{Error}
use Rattle.amqp_base.specs.declared.error.Error.TheVariants.{SequenceLengthMismatch}
use Rattle.amqp_base.specs.declared.format_code.EncodingCodes.{EncodingCodes}
use Rattle.amqp_base.specs.declared.format_code.EncodingCodes.TheVariants.{Map8, Map32}
use Rattle.amqp_base.specs.Codes.{Kind, row}
use Rattle.amqp_base.specs.Item.{Item, scalar, list, map, array, described, none}
use Rattle.amqp_base.specs.Fields.{takes_fields, means_fields}
use Rattle.amqp_base.specs.NamedFields.{takes_map, takes_struct, means_map, means_struct}
use Rattle.amqp_de.specs.Decoding.{Decoding, as_ended}
use Rattle.amqp_de.specs.Law.{Found, Missed}
use Rattle.amqp_de.specs.Look.{item_kind, Looks, LooksNot}
use Rattle.amqp_de.specs.Access.{Listing, Opens}
use Rattle.amqp_data.specs.Parts.{HasParts}
use Rattle.amqp_de.specs.ReadParts.{Progress}
use Rattle.amqp_de.proofs.LookedFirst.{found_behind, missed_of_kind, missed_unseen}
use Rattle.amqp_de.proofs.Weaker.{found_as}
use Rattle.amqp_de.proofs.JustSoMany.{count_fields}
use Rattle.amqp_data.proofs.MapHeaders.{map_codes}
use Rattle.amqp_de.proofs.ReadParts.{progress_start, not_taken}

pub no_map_code : (x : EncodingCodes) → (x ≡ Map8 → ⊥) → (x ≡ Map32 → ⊥) → (row x).kind ≡ Kind.map → ⊥
no_map_code x n8 n32 h = tell (map_codes x h)
  where
    tell : (x ≡ Map8) ⊎ (x ≡ Map32) → ⊥
    tell (inl p) = n8 p
    tell (inr p) = n32 p

module _ (names : List (List ℕ)) (kinds : List (Item → Bool)) where
  map_is_struct : (ms : List {1} (Item → Type 0)) (i : Item) → IsTrue (takes_map names kinds i) → means_map names ms i → IsTrue (takes_struct names kinds i) × means_struct names ms i
  unfolding takes_map takes_struct means_map means_struct
  map_is_struct ms (map ps) t m = (t, m)
  map_is_struct ms (list is) t m = absurd cc
  map_is_struct ms (scalar v) t m = absurd cc
  map_is_struct ms (array is) t m = absurd cc
  map_is_struct ms (described d v) t m = absurd cc

  row_is_struct : (ms : List {1} (Item → Type 0)) (i : Item) → IsTrue (takes_fields kinds i) → means_fields ms i → IsTrue (takes_struct names kinds i) × means_struct names ms i
  unfolding takes_fields takes_struct means_fields means_struct
  row_is_struct ms (list is) t m = (t, m)
  row_is_struct ms (map ps) t m = absurd cc
  row_is_struct ms (scalar v) t m = absurd cc
  row_is_struct ms (array is) t m = absurd cc
  row_is_struct ms (described d v) t m = absurd cc

  pub struct_is_map : (k : Kind) (i : Item) → k ≡ Kind.map → k ≡ item_kind i → IsTrue (takes_struct names kinds i) → IsTrue (takes_map names kinds i)
  unfolding takes_map takes_struct
  struct_is_map k (map ps) a b t = t
  struct_is_map k (list is) a b t = absurd cc
  struct_is_map k (scalar v) a b t = absurd cc
  struct_is_map k (array is) a b t = absurd cc
  struct_is_map k (described d v) a b t = absurd cc

  pub struct_is_row : (k : Kind) (i : Item) → (k ≡ Kind.map → ⊥) → k ≡ item_kind i → IsTrue (takes_struct names kinds i) → IsTrue (takes_fields kinds i)
  unfolding takes_fields takes_struct
  struct_is_row k (map ps) a b t = absurd (a b)
  struct_is_row k (list is) a b t = t
  struct_is_row k (scalar v) a b t = absurd cc
  struct_is_row k (array is) a b t = absurd cc
  struct_is_row k (described d v) a b t = absurd cc

  module _ (buffers : Bool) (old mid new : Decoding) (x : EncodingCodes) where
    pub found_map : (ms : List {1} (Item → Type 0)) → Looks old mid x → Found (takes_map names kinds) (λ i. means_map names ms i) mid new → Found (takes_struct names kinds) (λ i. means_struct names ms i) old new
    found_map ms l f = found_behind _ _ old mid new x l (found_as (takes_map names kinds) (takes_struct names kinds) (λ i. means_map names ms i) (λ i. means_struct names ms i) mid new (map_is_struct ms) f)

    pub found_row : (ms : List {1} (Item → Type 0)) → Looks old mid x → Found (takes_fields kinds) (λ i. means_fields ms i) mid new → Found (takes_struct names kinds) (λ i. means_struct names ms i) old new
    found_row ms l f = found_behind _ _ old mid new x l (found_as (takes_fields kinds) (takes_struct names kinds) (λ i. means_fields ms i) (λ i. means_struct names ms i) mid new (row_is_struct ms) f)

    pub missed_map : (e : Error) → (row x).kind ≡ Kind.map → Looks old mid x → Missed (takes_map names kinds) true buffers mid new e → Missed (takes_struct names kinds) true buffers old new e
    missed_map e k l m = missed_of_kind (takes_map names kinds) (takes_struct names kinds) true true buffers old mid new x e (λ h. h) (λ i q t. struct_is_map (row x).kind i k q t) l m

    pub missed_row : (e : Error) → ((row x).kind ≡ Kind.map → ⊥) → Looks old mid x → Missed (takes_fields kinds) true buffers mid new e → Missed (takes_struct names kinds) true buffers old new e
    missed_row e n l m = missed_of_kind (takes_fields kinds) (takes_struct names kinds) true true buffers old mid new x e (λ h. h) (λ i q t. struct_is_row (row x).kind i n q t) l m

  pub missed_code : (buffers : Bool) (old new : Decoding) (e : Error) → LooksNot buffers old new e → Missed (takes_struct names kinds) true buffers old new e
  missed_code buffers old new e n = missed_unseen (takes_struct names kinds) true buffers old new e (λ b. refl) n

-- ---- a list of the fields

-- a list was opened
pub row_opened : (old : Decoding) (l : Listing) → Opens HasParts old l → (fields : List (Item → Bool)) → Progress old fields (fields ++ []) none l
row_opened old l o fields = rw append-nil (progress_start old l o fields)

-- it has another number of elements
pub other_row : (grows buffers : Bool) (old last : Decoding) (l : Listing) → Opens HasParts old l → (fields : List (Item → Bool)) → (length fields ≡ l.left → ⊥) → last ≡ as_ended l.state → Missed (takes_fields fields) grows buffers old last SequenceLengthMismatch
other_row grows buffers old last l o fields n same = rw same (not_taken old fields fields none l (progress_start old l o fields) grows buffers (as_ended l.state) refl refl (λ js c t. n (sym (count_fields fields js t) ∙ c)))

-- a field without a value isn't one of fields that all have one
pub unread : (b : Bool) → b ≡ false → IsTrue b → ⊥
unread b h k = absurd cc (h, k)
