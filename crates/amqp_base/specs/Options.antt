-- A value that may be missing: null (1.6.1) in its place.
use Rattle.std.specs.Prelude.{◌≡◌, Bool, true, false, ◌||◌, IsTrue, Option, Some, None}
use Rattle.std.proofs.Common.{refl}
use Rattle.amqp_base.specs.Item.{Item, scalar, null}
use Rattle.amqp_base.specs.ReadBack.{second}
use Rattle.amqp_base.specs.Typing.{OneValue, is_null}
use Rattle.amqp_base.specs.declared.shape.Setting.{Setting}

-- null where it is missing, else the value's own item under the same setting
abbrev pub option_item : {T : Type 0} → (T → Setting → Item) → Option T → Setting → Item
option_item item None setting = scalar null
option_item item (Some v) setting = item v setting

-- null, or what the type takes
abbrev pub takes_option : (Item → Bool) → Item → Bool
takes_option takes i = is_null i || takes i

-- null means that it is missing, any other item what it means to the type
abbrev pub means_option : {T : Type 0} → (Item → T → Type 0) → Item → Option T → Type 0
means_option means i None = is_null i ≡ true
means_option means i (Some v) = (is_null i ≡ false) × means i v

abbrev pub same_option : {T : Type 0} → (T → T → Type 0) → Option T → Option T → Type 0
same_option same None None = Unit {0}
same_option same None (Some w) = ⊥
same_option same (Some v) None = ⊥
same_option same (Some v) (Some w) = same v w

-- a setting that changes no value of the type changes no option of it
pub option_as_plain : {T : Type 0} (item : T → Setting → Item) (s t : Setting) → ((v : T) → item v s ≡ item v t) → (o : Option T) → option_item item o s ≡ option_item item o t
option_as_plain item s t h None = refl
option_as_plain item s t h (Some v) = h v

pub one_option : {T : Type 0} (means : Item → T → Type 0) (same : T → T → Type 0) → OneValue means same → (i : Item) (v w : Option T) → means_option means i v → means_option means i w → same_option same v w
one_option means same one i None None p q = tt
one_option means same one i None (Some w) p q = absurd cc (p, q.0)
one_option means same one i (Some v) None p q = absurd cc (p.0, q)
one_option means same one i (Some v) (Some w) p q = one i v w p.1 q.1

-- what the value is, where it is there
abbrev pub sound_option : {T : Type 0} → (T → Type 0) → Option T → Type 0
sound_option sound None = Unit {0}
sound_option sound (Some v) = sound v

-- an option of a type that is read back and never null is read back
pub option_taken_back : {T : Type 0} (takes : Item → Bool) (item : T → Setting → Item) (s : Setting) (sound : T → Type 0) → ((v : T) → sound v → IsTrue (takes (item v s)))
    → (o : Option T) → sound_option sound o → IsTrue (takes_option takes (option_item item o s))
option_taken_back takes item s sound h None p = refl
option_taken_back takes item s sound h (Some v) p = second (is_null (item v s)) (takes (item v s)) (h v p)

pub option_read_back : {T : Type 0} (means : Item → T → Type 0) (item : T → Setting → Item) (s : Setting) (sound : T → Type 0) → ((v : T) → is_null (item v s) ≡ false)
    → ((v : T) → sound v → means (item v s) v) → (o : Option T) → sound_option sound o → means_option means (option_item item o s) o
option_read_back means item s sound n h None p = refl
option_read_back means item s sound n h (Some v) p = (n v, h v p)
