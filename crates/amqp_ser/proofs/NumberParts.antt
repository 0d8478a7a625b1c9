-- Numbers as parts of a compound, many at a time.
use Rattle.std.proofs.Common.{◌≡◌, inl, inr, ℕ, ◌+◌, List, [], ◌∷◌, ◌++◌, length, length-append, refl, sym, ◌∙◌, ap, subst, arith, Some, true, false, Result, Ok, Err, append_assoc}
use Rattle.std.proofs.lemmas.List.{append-nil}
use Rattle.amqp_base.specs.Item.{Item, items_of}
use Rattle.amqp_base.specs.Shapes.{whole}
use Rattle.amqp_base.specs.Sizes.{sizes, sizes_in}
use Rattle.amqp_base.specs.declared.error.Error.{Error}
use Rattle.amqp_base.specs.declared.shape.Shape.{Shape}
use Rattle.amqp_ser.specs.State.{State, Mark, unmarked, first}
use Rattle.amqp_ser.specs.Law.{marked, Goes, Refused, Kept}
use Rattle.amqp_ser.specs.Compound.{Open, Back, Begun, Run, Holds, outer_of, parts_text, next_mark}
use Rattle.amqp_write.specs.ManyTexts.{texts_at, AreTexts, WritesTexts, Stand}
use Rattle.amqp_write.proofs.Counting.{goes_more}
use Rattle.amqp_write.proofs.Steps.{fits_nil, kept_two}
use Rattle.amqp_write.proofs.PartTexts.{true_false, bind_some, parts_more}
use Rattle.amqp_write.proofs.ManyTexts.{some_is}
use Rattle.amqp_ser.proofs.Compounds.{Lives, begun_moved, kept_from, kept_open}

unmarked_not : unmarked ≡ first → ⊥
unmarked_not h = cc

-- the mark stays, once it isn't the first element's
mark_more : (shape : Shape) (xs : List Item) (i : Item) (m : Mark) → (m ≡ first → ⊥) → next_mark shape xs ≡ m → next_mark shape (xs ++ i ∷ []) ≡ m
unfolding next_mark
mark_more Shape.List xs i m n h = h
mark_more Shape.Array [] i m n h = absurd (n (sym h))
mark_more Shape.Array (x ∷ xs) i m n h = h
mark_more (Shape.Tuple k) xs i m n h = h
mark_more Shape.Map xs i m n h = h
mark_more Shape.Fields xs i m n h = h

-- texts under one mark behind parts
record Behind (shape : Shape) (xs : List Item) (m : Mark) (a : List ℕ) : Type 0 where
  text : parts_text shape (items_of xs) ≡ Some a
  mark : next_mark shape xs ≡ m

parts_many : (shape : Shape) (xs is : List Item) (m : Mark) (a b : List ℕ) → (m ≡ first → ⊥) → Behind shape xs m a → texts_at m is ≡ Some b → Behind shape (xs ++ is) m (a ++ b)
unfolding texts_at
parts_many shape xs [] m a b n h k =
    let e : [] ≡ b = some_is _ _ k in
    rw (sym e, append-nil a, append-nil xs) h
parts_many shape xs (i ∷ is) m a b n h k =
    let p = bind_some (marked m i) _ _ k in
    let q = bind_some (texts_at m is) _ _ p.2 in
    let e : p.0 ++ q.0 ≡ b = some_is _ _ q.2 in
    let one : Behind shape (xs ++ i ∷ []) m (a ++ p.0) = record {
      text = parts_more shape xs i a p.0 h.text (subst (λ d. marked d i ≡ Some p.0) (sym h.mark) p.1);
      mark = mark_more shape xs i m n h.mark;
    } in
    let all : Behind shape ((xs ++ i ∷ []) ++ is) m ((a ++ p.0) ++ q.0) = parts_many shape (xs ++ i ∷ []) is m (a ++ p.0) q.0 n one q.1 in
    subst (λ ys. Behind shape ys m (a ++ b)) (append_assoc xs (i ∷ []) is) (subst (λ c. Behind shape ((xs ++ i ∷ []) ++ is) m c) (append_assoc a p.0 q.0 ∙ ap (λ c. a ++ c) e) all)

-- the mark under which the parts of a compound go on
stands : (m : Mark) (shape : Shape) (xs : List Item) (now : Mark) → Stand m shape now → now ≡ next_mark shape xs → (next_mark shape xs ≡ m) × (m ≡ first → ⊥)
unfolding next_mark
stands m Shape.List xs now (inl o) h = (sym o.1, λ e. unmarked_not (sym o.1 ∙ e))
stands m Shape.Array xs now (inl o) h = absurd (o.0 refl)
stands m (Shape.Tuple k) xs now (inl o) h = (sym o.1, λ e. unmarked_not (sym o.1 ∙ e))
stands m Shape.Map xs now (inl o) h = (sym o.1, λ e. unmarked_not (sym o.1 ∙ e))
stands m Shape.Fields xs now (inl o) h = (sym o.1, λ e. unmarked_not (sym o.1 ∙ e))
stands m shape xs now (inr o) h = (sym h ∙ o.0, o.1)

sizes_many : (xs is : List Item) → sizes_in (items_of (xs ++ is)) ≡ sizes_in (items_of xs) ++ sizes_in (items_of is)
unfolding sizes_in
sizes_many [] is = refl
sizes_many (x ∷ xs) is = ap (λ l. sizes x ++ l) (sizes_many xs is) ∙ sym (append_assoc (sizes x) (sizes_in (items_of xs)) (sizes_in (items_of is)))

run_many : (shape : Shape) (xs is : List Item) (m : Mark) (u v w : State) (b : List ℕ) → Stand m shape v.mark → Run shape u xs v → AreTexts m is b → Goes v b [] w → w.mark ≡ v.mark → w.ended ≡ v.ended → Run shape u (xs ++ is) w
run_many shape xs is m u v w b stand r texts goes mark ended =
    let z : sizes_in (items_of xs) ++ [] ≡ sizes_in (items_of (xs ++ is)) = ap (λ l. sizes_in (items_of xs) ++ l) (sym texts.flat) ∙ sym (sizes_many xs is) in
    let at = stands m shape xs v.mark stand r.mark in
    let all = parts_many shape xs is m r.bytes b at.1 (record { text = r.text; mark = at.0 }) texts.text in
    record {
      bytes = r.bytes ++ b;
      text = all.text;
      goes = subst (λ l. Goes u (r.bytes ++ b) l w) z (goes_more u v w r.bytes b (sizes_in (items_of xs)) [] r.goes goes);
      mark = mark ∙ (r.mark ∙ (at.0 ∙ sym all.mark));
      inside = goes.setting ∙ r.inside;
      answers = ended ∙ r.answers;
    }

kept_by : (o v w t : State) → v ≡ record o { ended = false } → Kept v w → t ≡ record w { ended = true } → Kept o t
kept_by o v w t at_v k at_t = kept_from o v w t at_v k (ap (λ (y : State). y.contents) at_t) (ap (λ (y : State). y.faults) at_t) (ap (λ (y : State). y.grows) at_t)

pub kept_numbers : {A : Type 0} (m : Mark) (is : List Item) (o w t : State) (r : Result A Error) → WritesTexts m is (record o { ended = false }) r w → t ≡ record w { ended = true } → Kept o t
kept_numbers m is o w t r h at_t = kept_by o (record o { ended = false }) w t refl h.appended.kept at_t

pub kept_refused : {A : Type 0} (m : Mark) (is : List Item) (o t : State) (r : Result A Error) → WritesTexts m is (record o { ended = false }) r t → Kept o t
kept_refused m is o t r h = kept_from o (record o { ended = false }) t t refl h.appended.kept refl refl refl

-- numbers behind the parts of a compound, on the serializer itself
pub numbers_more : {A : Type 0} (s : State) (shape : Shape) (xs is : List Item) (m : Mark) (q p : Open) (b : Back) (o w t : State) (x : A) → Lives q.opened → Stand m q.shape o.mark → q.inner ≡ record o { ended = false } → q.outer ≡ outer_of q.opened o b → WritesTexts m is (record o { ended = false }) (Ok x) w → t ≡ record w { ended = true } → p.inner ≡ record t { ended = false } → p.opened ≡ q.opened → p.outer ≡ outer_of q.opened t b → p.pairs ≡ q.pairs → p.shape ≡ q.shape → p.count ≡ q.count + length is → Holds s shape xs q → Holds s shape (xs ++ is) p
numbers_more s shape xs is m q p b o w t x live stand inner outer wrote at_t after opened back_at pairs same count h =
    let v : State = record o { ended = false } in
    let a = wrote.appended.ok in
    let here : Stand m shape o.mark = subst (λ y. Stand m y o.mark) h.shape_is stand in
    let r : Run shape h.start xs v = subst (λ y. Run shape h.start xs y) inner h.run in
    let many : Run shape h.start (xs ++ is) w = run_many shape xs is m h.start v w wrote.bytes here r wrote.texts a.0 a.1 a.3 in
    let moved : record t { ended = false } ≡ w = ap (λ (y : State). record y { ended = false }) at_t ∙ (let e : record w { ended = false } ≡ w = ap (λ z. record w { ended = z }) (sym many.answers) in e) in
    let kept : Kept o t = kept_numbers m is o w t (Ok x) wrote at_t in
    let begun : Begun shape s q.opened (outer_of q.opened t b) h.start = begun_moved shape s q.opened b o t h.start live kept (subst (λ y. Begun shape s q.opened y h.start) outer h.begun) in
    let len = length-append xs is in
    record {
      pairs = pairs ∙ h.pairs;
      shape_is = same ∙ h.shape_is;
      start = h.start;
      begun = subst (λ k. Begun shape s k p.outer h.start) (sym opened) (subst (λ y. Begun shape s q.opened y h.start) (sym back_at) begun);
      run = subst (λ y. Run shape h.start (xs ++ is) y) (sym (after ∙ moved)) many;
      count = omega (arith, h.count, count, len);
      answered = h.answered;
    }

-- numbers that are refused refuse the whole
pub numbers_refused : {A : Type 0} (s : State) (shape : Shape) (xs is all : List Item) (m : Mark) (e : Error) (q : Open) (b : Back) (o t : State) → q.outer ≡ outer_of q.opened o b → WritesTexts {A = A} m is (record o { ended = false }) (Err e) t → Holds s shape xs q → Refused s (whole shape all) e t
numbers_refused s shape xs is all m e q b o t outer refused h =
    let v : State = record o { ended = false } in
    let a = refused.appended in
    let first = kept_open s shape xs q b o outer h in
    let kept : Kept o t = kept_refused m is o t (Err e) refused in
    record {
      kept = kept_two s o t first kept;
      device = λ d. omega (arith, a.device d, first.faults);
      cause = λ _. elim a.refused [
        | inl m ↦ inl m
        | inr d ↦ elim d [
          | inl io ↦ inr (inl (io.0, omega (arith, io.1, first.faults)))
          | inr full ↦ absurd (true_false (sym (fits_nil v (length refused.bytes)) ∙ full))
        ]
      ];
    }
