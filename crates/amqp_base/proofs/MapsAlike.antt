-- Maps that one item means have the same entries, where the same keys are equal.
use Rattle.std.specs.Prelude.{List, [], ◌∷◌, fold}
use Rattle.std.proofs.Common.{◌≡◌, ◌∙◌, subst}
use Rattle.std.specs.BTreeMap.{insert_entry}
use Rattle.std.specs.Cmp.{IsTotalOrder, alike_right}
use Rattle.std.specs.Ordering.{match_ordering}
use Rattle.std.specs.declared.cmp.Ordering.{Ordering}
use Rattle.std.specs.declared.cmp.Ordering.TheVariants.{Less, Equal, Greater}
use Rattle.amqp_base.specs.Laws.{SameAreEqual, SameEntries}
use Rattle.amqp_base.specs.Maps.{same_pair}
use Rattle.amqp_base.specs.Typing.{all_same}

-- putting the same pair into the same entries gives the same entries
abbrev pub KeepsSame : {K V : Type 0} → (K → K → Type 0) → (V → V → Type 0) → (List (K × V) → K → V → List (K × V)) → Type 0
KeepsSame {K} {V} key value put = (es fs : List (K × V)) (k l : K) (v w : V) → all_same (same_pair key value) es fs → key k l → value v w
    → all_same (same_pair key value) (put es k v) (put fs l w)

module _ {K V : Type 0} (key : K → K → Type 0) (value : V → V → Type 0) where
  -- so putting the same rows does
  rows_kept : (put : List (K × V) → K → V → List (K × V)) → KeepsSame key value put → (rows others es fs : List (K × V)) → all_same (same_pair key value) rows others
      → all_same (same_pair key value) es fs → all_same (same_pair key value) (fold (λ done r. put done r.0 r.1) es rows) (fold (λ done r. put done r.0 r.1) fs others)
  rows_kept put keeps [] [] es fs h s = s
  rows_kept put keeps [] (q ∷ others) es fs h s = absurd h
  rows_kept put keeps (p ∷ rows) [] es fs h s = absurd h
  rows_kept put keeps (p ∷ rows) (q ∷ others) es fs h s = rows_kept put keeps rows others (put es p.0 p.1) (put fs q.0 q.1) h.1 (keeps es fs p.0 q.0 p.1 q.1 s h.0.0 h.0.1)

  pub entries_kept : (put : List (K × V) → K → V → List (K × V)) → KeepsSame key value put → SameEntries key value put
  entries_kept put keeps es fs h = rw h.placed (rw h.others_placed (rows_kept put keeps h.rows h.others [] [] h.same tt))

  -- at each answer of the order
  at_answer : (a b c d e f : List (K × V)) (r t : Ordering) → r ≡ t → all_same (same_pair key value) a d → all_same (same_pair key value) b e → all_same (same_pair key value) c f
      → all_same (same_pair key value) (match_ordering r a b c) (match_ordering t d e f)
  at_answer a b c d e f r t same below level above = subst (λ u. all_same (same_pair key value) (match_ordering r a b c) (match_ordering u d e f)) same (by r)
    where
      by : (u : Ordering) → all_same (same_pair key value) (match_ordering u a b c) (match_ordering u d e f)
      by Less = below
      by Equal = level
      by Greater = above

  -- putting a pair to its place in an order does
  in_order_kept : (cmp : K → K → Ordering) → IsTotalOrder cmp → SameAreEqual key cmp → KeepsSame key value (insert_entry cmp)
  in_order_kept cmp order equal [] [] k l v w s p q = ((p, q), tt)
  in_order_kept cmp order equal [] (f ∷ fs) k l v w s p q = absurd s
  in_order_kept cmp order equal (e ∷ es) [] k l v w s p q = absurd s
  in_order_kept cmp order equal (e ∷ es) (f ∷ fs) k l v w s p q =
      at_answer _ _ _ _ _ _ (cmp k e.0) (cmp l f.0) (order.congr k l e.0 (equal k l p) ∙ alike_right order e.0 f.0 l (equal e.0 f.0 s.0.0))
      ((p, q), s) ((s.0.0, q), s.1) (s.0, in_order_kept cmp order equal es fs k l v w s.1 p q)

  pub same_in_order : (cmp : K → K → Ordering) → IsTotalOrder cmp → SameAreEqual key cmp → SameEntries key value (insert_entry cmp)
  same_in_order cmp order equal = entries_kept (insert_entry cmp) (in_order_kept cmp order equal)
