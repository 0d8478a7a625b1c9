-- A type that has some of the values of another.
use Rattle.std.specs.Prelude.{◌≡◌, ℕ, Bool, false, not, IsTrue, List, ◌++◌}
use Rattle.std.proofs.Common.{refl, inl, inr}
use Rattle.amqp_base.specs.declared.error.Error.{Error}
use Rattle.amqp_base.specs.declared.error.Error.TheVariants.{InvalidValue}
use Rattle.amqp_base.specs.Refusing.{chosen_refusal}
use Rattle.amqp_base.specs.Wire.{Constructor, Wire, lenient}
use Rattle.amqp_base.specs.Item.{Item}
use Rattle.amqp_base.specs.ReadBack.{both}
use Rattle.amqp_base.specs.Typing.{is_of}
use Rattle.amqp_base.specs.Meaning.{Meaning, Sort, scalar_of, chosen_of, first_of, second_of}

-- Each value of the one is a value of the other, its content; and those that are allowed are contents. What the other reads
-- as a content is read as the value of it.
pub record ChosenFrom {V A : Type 0} (of : Meaning A) (some : Meaning V) (content : V → A) (allowed : A → Bool) : Type 0 where
  pub taken : (i : Item) (v : V) → IsTrue (of.takes i) → of.means i (content v) → IsTrue (some.takes i) × some.means i v
  pub outer : (i : Item) → IsTrue (some.takes i) → IsTrue (of.takes i)
  pub inner : (i : Item) (a : A) → of.means i a → IsTrue (some.takes i) → IsTrue (allowed a)
  pub grows : IsTrue of.grows → IsTrue some.grows
  -- what the other refuses this type refuses so, too; and as `InvalidValue` what isn't allowed
  pub outer_refusal : (c : Constructor) (s : List ℕ) (e : Error) → of.refuses c s e → some.refuses c s e
  pub own_refusal : (c : Constructor) (text rest : List ℕ) (i : Item) (a : A) → Wire lenient c text i → IsTrue (of.takes i) → of.means i a → allowed a ≡ false → some.refuses c (text ++ rest) InvalidValue

-- so it is for values without parts
pub chosen_from : {V A : Type 0} (k : Sort A) (grows : Bool) (content : V → A) (allowed : A → Bool) (own : (v : V) → IsTrue (allowed (content v)))
    → ChosenFrom (scalar_of k grows (λ (a : A). a)) (chosen_of k grows content allowed own) content allowed
unfolding chosen_refusal
chosen_from {V} {A} k grows content allowed own = record {
  taken = λ i v t m. (both (is_of k.kind i) (allowed (k.inside i)) t (rw (m, k.again) (own v)), m);
  outer = λ i h. first_of (is_of k.kind i) (allowed (k.inside i)) h;
  inner = λ i a m h. let b = second_of (is_of k.kind i) (allowed (k.inside i)) h in rw (m, k.again) at b;
  grows = λ h. h;
  outer_refusal = λ c s e h. inl h;
  own_refusal = λ c text rest i a w t m n. inr (record {
    item = i;
    text = text;
    rest = rest;
    spelled = w;
    taken = both (is_of k.kind i) (not (allowed (k.inside i))) t (rw (m, k.again, n) refl);
    split = refl;
    behind = refl;
  });
}
