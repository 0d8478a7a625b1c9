-- What is said of ordered maps.
use Rattle.std.specs.Prelude.{◌≡◌, Bool, true, false, if◌then◌else◌, List, [], ◌∷◌, ◌++◌}
use Rattle.std.proofs.Common.{refl, ap, ◌∙◌}
use Rattle.std.specs.Prelude.{Option}
use Rattle.std.specs.declared.cmp.Ordering.{Ordering}
use Rattle.std.specs.Ordering.{ordering_then, partial_ordering_then}
use Rattle.std.specs.List.{AllByRecursion, IsDistinct}
use Rattle.std.specs.Map.{keys_of}
use Rattle.indexmap.specs.IndexMap.{insert_entry}
use Rattle.amqp_base.specs.Maps.{put_in_turn}
use Rattle.amqp_base.specs.MapsReadBack.{EachBehind, put_again}

-- values that are the same are equal
abbrev pub SameAreEqual : {K : Type 0} → (K → K → Type 0) → (K → K → Bool) → Type 0
SameAreEqual {K} same eq = (k l : K) → same k l → eq k l ≡ true

-- ---- order

-- the order of two pairs: that of their keys, and of their values where the keys are equal
abbrev pub keys_first : {K V : Type 0} → (K → K → Ordering) → (V → V → Ordering) → K × V → K × V → Ordering
keys_first P Q p q = ordering_then (P p.0 q.0) (Q p.1 q.1)

-- the same where some have none
abbrev pub keys_first_partly : {K V : Type 0} → (K → K → Option Ordering) → (V → V → Option Ordering) → K × V → K × V → Option Ordering
keys_first_partly P Q p q = partial_ordering_then (P p.0 q.0) (Q p.1 q.1)

-- ---- keys that differ

module _ {K V : Type 0} (eq : K → K → Bool) (flips : (k l : K) → eq k l ≡ eq l k) where
  new_is_last : (done : List (K × V)) (k : K) (v : V) → AllByRecursion (λ e. eq k e.0 ≡ false) done → insert_entry eq done k v ≡ done ++ (k, v) ∷ []
  new_is_last [] k v h = refl
  new_is_last (e ∷ done) k v h = ap (λ b. if b then (e.0, v) ∷ done else e ∷ insert_entry eq done k v) h.0 ∙ ap (λ t. e ∷ t) (new_is_last done k v h.1)

  new : (r : K × V) (rows : List (K × V)) → AllByRecursion (λ y. eq r.0 y ≡ false) (keys_of rows) → AllByRecursion (λ q. eq q.0 r.0 ≡ false) rows
  new r [] h = tt
  new r (q ∷ rows) h = (flips q.0 r.0 ∙ h.0, new r rows h.1)

  each_new : (rows : List (K × V)) → IsDistinct eq (keys_of rows) → EachBehind (λ q r. eq q r ≡ false) rows
  unfolding IsDistinct
  each_new [] h = tt
  each_new (r ∷ rows) h = (new r rows h.0, each_new rows h.1)

  -- pairs whose keys differ, put in turn, are those pairs
  pub distinct_again : (es : List (K × V)) → IsDistinct eq (keys_of es) → put_in_turn (insert_entry eq) es ≡ es
  distinct_again es h = put_again (λ q r. eq q r ≡ false) (insert_entry eq) new_is_last es (each_new es h)
