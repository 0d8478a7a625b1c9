-- Ordered maps that one item means have the same entries, where the same keys are equal.
use Rattle.std.specs.Prelude.{Bool, true, false, if◌then◌else◌, List, [], ◌∷◌}
use Rattle.std.proofs.Common.{◌≡◌, ◌∙◌, subst}
use Rattle.std.specs.Cmp.{IsEquivalence}
use Rattle.indexmap.specs.IndexMap.{insert_entry}
use Rattle.amqp_base.proofs.MapsAlike.{KeepsSame, entries_kept}
use Rattle.amqp_base.specs.Laws.{SameEntries}
use Rattle.amqp_base.specs.Maps.{same_pair}
use Rattle.amqp_base.specs.Typing.{all_same}
use Rattle.amqp_types.specs.OrderedMaps.{SameAreEqual}

module _ {K V : Type 0} (key : K → K → Type 0) (value : V → V → Type 0) where
  at_answer : (a b c d : List (K × V)) (r t : Bool) → r ≡ t → all_same (same_pair key value) a c → all_same (same_pair key value) b d
      → all_same (same_pair key value) (if r then a else b) (if t then c else d)
  at_answer a b c d r t same there else_ = subst (λ u. all_same (same_pair key value) (if r then a else b) (if u then c else d)) same (by r)
    where
      by : (u : Bool) → all_same (same_pair key value) (if u then a else b) (if u then c else d)
      by true = there
      by false = else_

  -- putting the same pair into the same entries gives the same entries
  in_turn_kept : (eq : K → K → Bool) → IsEquivalence eq → SameAreEqual key eq → KeepsSame key value (insert_entry eq)
  in_turn_kept eq laws equal [] [] k l v w s p q = ((p, q), tt)
  in_turn_kept eq laws equal [] (f ∷ fs) k l v w s p q = absurd s
  in_turn_kept eq laws equal (e ∷ es) [] k l v w s p q = absurd s
  in_turn_kept eq laws equal (e ∷ es) (f ∷ fs) k l v w s p q =
      at_answer _ _ _ _ (eq k e.0) (eq l f.0) (laws.congr k l e.0 (equal k l p) ∙ (laws.symm l e.0 ∙ (laws.congr e.0 f.0 l (equal e.0 f.0 s.0.0) ∙ laws.symm f.0 l)))
      ((s.0.0, q), s.1) (s.0, in_turn_kept eq laws equal es fs k l v w s.1 p q)

  pub same_in_turn : (eq : K → K → Bool) → IsEquivalence eq → SameAreEqual key eq → SameEntries key value (insert_entry eq)
  same_in_turn eq laws equal = entries_kept key value (insert_entry eq) (in_turn_kept eq laws equal)
