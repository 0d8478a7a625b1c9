-- Described values that are written.
use Rattle.std.proofs.Common.{refl}
use Rattle.std.specs.Prelude.{◌≡◌, ℕ, Bool, true, false, List, [], ◌∷◌, ◌++◌, Some, None, Result, Err, bytes_eq, ◌||◌}
use Rattle.amqp_base.specs.declared.constants.TheConstants.{DESCRIBED_LIST, DESCRIBED_MAP}
use Rattle.amqp_base.specs.declared.shape.Setting.{Setting}
use Rattle.amqp_base.specs.declared.shape.Setting.TheVariants.{Plain, DescribedMap}
use Rattle.amqp_base.specs.Meaning.{Meaning}
use Rattle.amqp_base.specs.Refusing.{any_refusal}
use Rattle.amqp_base.specs.Structs.{FieldItem, struct_item}
use Rattle.amqp_write.specs.Appending.{Pays}
use Rattle.amqp_base.specs.declared.error.Error.{Error}
use Rattle.amqp_base.specs.declared.error.Error.TheVariants.{InvalidValue}
use Rattle.amqp_base.specs.Item.{Descriptor, Item, described}
use Rattle.amqp_base.specs.Canon.{kind_code, descriptor_text}
use Rattle.amqp_base.specs.Sizes.{sizes}
use Rattle.amqp_ser.specs.State.{State, unmarked}
use Rattle.amqp_ser.specs.Law.{Goes, Kept, Refused, Stops, Spares, marked, text_for, found_after}
pub use Rattle.amqp_write.specs.Describing.{describing, why_undescribed, IsOwn, StandsAs}

-- 0x00, a descriptor, and the text that the value has there were appended
pub record WroteBehind (s : State) (d : Descriptor) (v : Item) (t : State) : Type 0 where
  pub front : List ℕ
  pub bytes : List ℕ
  pub text : descriptor_text d ≡ Some front
  pub value : marked s.mark v ≡ Some bytes
  pub goes : Goes s (0x00 ∷ front ++ bytes) (sizes v) t
  pub kept : Kept s t
  pub mark : t.mark ≡ s.mark
  pub found : t.found ≡ found_after s.mark (kind_code v) s.found
  pub answers : t.ended ≡ false

-- the refusal of a value behind a descriptor that isn't written again: one that is too long comes first
abbrev pub by_descriptor : Descriptor → Error → Error
by_descriptor d InvalidValue = why_undescribed d
by_descriptor d e = e

-- an item that has no text there is refused
abbrev pub RefusesAbsent : State → Item → Error → State → Type 0
RefusesAbsent s i e t = text_for s i ≡ None → Refused s i e t

-- 0x00 and a descriptor were appended outside arrays, or refused
pub record WritesDescriptor {A : Type 0} (s : State) (d : Descriptor) (r : Result A Error) (t : State) : Type 0 where
  pub law : s.ended ≡ false → s.mark ≡ unmarked → Pays s (describing d) s.found [] (why_undescribed d) r t
  pub marked : (s.mark ≡ unmarked → ⊥) → r ≡ Err InvalidValue
  pub stops : Stops s r t
  pub spares : Spares s r t

pub no_truth : false ≡ true → ⊥
no_truth e = cc

-- what is written so, and never read
abbrev pub written_of : {V : Type 0} → (V → Item) → Meaning V
written_of item = record {
  item = λ v _. item v;
  takes = λ _. false;
  means = λ _ _. ⊥;
  same = λ _ _. Unit {0};
  refuses = any_refusal;
  grows = false;
  in_described_list = λ _. refl;
  in_described_basic = λ _. refl;
  one_value = λ i v w p q. absurd p;
  sound = λ _. Unit {0};
  always_sound = true;
  is_sound = λ _ _. tt;
  reads_back = false;
  taken_back = λ r. absurd (no_truth r);
  read_back = λ r. absurd (no_truth r);
  never_null = false;
  not_null = λ n. absurd (no_truth n);
}

-- a described struct of this name: a map of its fields, or a list
abbrev pub body_setting : Bool → Setting
body_setting true = DescribedMap
body_setting false = Plain

abbrev pub body_item : Bool → List FieldItem → Item
body_item map fs = struct_item (body_setting map) fs

-- the names of described structs that have any number of fields
abbrev pub is_body_name : List ℕ → Bool
is_body_name name = bytes_eq name DESCRIBED_MAP.now || bytes_eq name DESCRIBED_LIST.now

abbrev pub described_struct : Descriptor → List ℕ → List FieldItem → Item
described_struct d name fs = described d (body_item (bytes_eq name DESCRIBED_MAP.now) fs)
