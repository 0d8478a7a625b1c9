-- A compound that was opened in a pass: its end.
use Rattle.std.proofs.Common.{◌⊎◌, ◌≡◌, ◌<◌, ◌≤◌, ◌+◌, ◌-◌, ℕ, List, [], ◌∷◌, ◌++◌, length, drop, set, min, suc, refl, sym, ◌∙◌, ap, subst, arith, Option, Some, None, true, false, Bool, ◌&&◌, ◌==◌, Result, Ok, Err, OnOk, IfErr, inl, inr, append_assoc, length-append}
use Rattle.std.proofs.lemmas.List.{append-nil}
use Rattle.std.proofs.lemmas.Bool.{eq-eqb, eqb-true}
use Rattle.amqp_base.specs.Item.{Item, items_of, pair, map as map_item}
use Rattle.amqp_base.specs.Wire.{Constructor, under}
use Rattle.amqp_base.specs.Canon.{◌>>=◌, when, kind_code}
use Rattle.amqp_base.specs.Shapes.{whole, pairs_of}
use Rattle.amqp_base.specs.Sizes.{Size, sizes, sizes_in, size_of}
use Rattle.amqp_base.specs.declared.error.Error.{Error}
use Rattle.amqp_base.specs.declared.shape.Shape.{Shape}
use Rattle.amqp_ser.specs.State.{State, Mark, Planned, Measured, size_in}
use Rattle.amqp_ser.specs.Law.{fits, is_next, begins, same_size, plan_after, measure_after, marked, found_after, Kept, IsDevice, unwritten, why_unwritten, Wrote, Refused}
use Rattle.amqp_write.specs.Appending.{Pays}
use Rattle.amqp_write.specs.declared.pass.Opened.{Opened}
use Rattle.amqp_base.specs.declared.fault.Size.{Size as CodeSize}
use Rattle.amqp_ser.specs.Compound.{Open, Back, back, RefusesOpen, Holds, Begun, Measures, Writes, Lent, Complete, is_map, head_text, parts_text, shape_code, back_measured, EndsMeasured}
use Rattle.amqp_write.proofs.Bytes.{none_extends, none_appends}
use Rattle.amqp_write.proofs.Steps.{fits_nil, wrote_pays, refused_pays, kept_two}
use Rattle.amqp_write.proofs.WhyTexts.{body_why}
use Rattle.amqp_write.proofs.Lengths.{parts_fit}
use Rattle.amqp_write.proofs.TextOf.{whole_none}
use Rattle.amqp_write.proofs.Heads.{whole_head, total, bool_cases}
use Rattle.amqp_ser.proofs.Compounds.{kept_begun, full_refuses, whole_of_some, whole_of_none, whole_sizes, whole_code, none_text}

measures : (s : State) (shape : Shape) (k : Opened) (at before : ℕ) (o start : State) → k ≡ Opened.Measured at before → Begun shape s k o start → Measures s at before o start
measures s shape k at before o start e b = subst (λ x. Begun shape s x o start) e b

set_here : (xs ys : List Size) (x z : Size) (at : ℕ) → at ≡ length xs → set ((xs ++ x ∷ []) ++ ys) at z ≡ xs ++ (z ∷ ys)
set_here [] ys x z at h = rw h refl
set_here (y ∷ xs) ys x z at h = let e : at ≡ suc (length xs) = h in rw e (ap (λ l. y ∷ l) (set_here xs ys x z (length xs) refl))

apart : true ≡ false → ⊥
apart e = cc

none_some : {A : Type 0} (x : A) → Some x ≡ None → ⊥
none_some x h = cc

some_same : {A : Type 0} (x y : A) → Some x ≡ Some y → x ≡ y
some_same x y h = cc

pays_head : (s : State) (o : Option (List ℕ)) → (o >>= λ b. when (fits s [] (length b)) b) ≡ None → o ≡ None
pays_head s None h = refl
pays_head s (Some b) h = absurd (none_some b (sym (rw (fits_nil s (length b)) refl) ∙ h))

none_next : (p : Option Planned) (l : List Size) → p ≡ None → is_next p l ≡ true
none_next p l h = rw h refl

no_plan_fits : (s : State) (l : List Size) (n : ℕ) → s.plan ≡ None → fits s l n ≡ true
unfolding fits
no_plan_fits s l n h = none_next s.plan l h

if_none_text : (o : Option (List ℕ)) (f : List ℕ → Option (List ℕ)) → o ≡ None → (o >>= f) ≡ None
if_none_text o f h = rw h refl

head_moved : (a b : Shape) (m n : Mark) (l k j : ℕ) (o : Option (List ℕ)) → a ≡ b → m ≡ n → k ≡ j → head_text a m (record { length = l; count = k }) ≡ o → head_text b n (record { length = l; count = j }) ≡ o
head_moved a b m n l k j o e f g h = rw (e, f, g) at h

size_same : (o : Option (List ℕ)) (b : List ℕ) (n k j : ℕ) → o ≡ Some b → n ≡ length b → j ≡ k → size_of o k ≡ record { length = n; count = j }
size_same o b n k j e f g = rw (e, f, g) refl

no_plan_after : (p : Option Planned) (l : List Size) (b : List ℕ) → p ≡ None → None ≡ plan_after p l b
no_plan_after p l b h = rw h refl

no_measure_after : (p : Option Measured) (l : List Size) (n : ℕ) → p ≡ None → None ≡ measure_after p l n
no_measure_after p l n h = rw h refl

measured_after : (p : Option Measured) (m : Measured) (l : List Size) (n : ℕ) → p ≡ Some m → Some (record { length = min (m.length + n) 18446744073709551615; sizes = m.sizes ++ l }) ≡ measure_after p l n
measured_after p m l n h = rw h refl

found_same : (m n : Mark) (k c f g : Option Constructor) → m ≡ n → k ≡ c → f ≡ g → found_after m k f ≡ found_after n c g
found_same m n k c f g h i j = rw (h, i, j) refl

plan_written : (p : Option Planned) (so_far q : Planned) (size : Size) (left all l : List Size) (h b : List ℕ) → p ≡ Some so_far → so_far.sizes ≡ size ∷ left → all ≡ size ∷ l → q ≡ record { bytes = (so_far.bytes ++ h) ++ b; sizes = drop (length l) left } → Some q ≡ plan_after p all (h ++ b)
plan_written p so_far q size left all l h b e f g k = ap Some k ∙ (rw (e, g, f, append_assoc so_far.bytes h b) refl)

next_planned : (p : Option Planned) (so_far : Planned) (size z : Size) (left all l : List Size) (t : Bool) → p ≡ Some so_far → so_far.sizes ≡ size ∷ left → all ≡ z ∷ l → (same_size size z && begins left l) ≡ t → is_next p all ≡ t
next_planned p so_far size z left all l t e f g h = rw (e, f, g) h

both_true : (a b : Bool) → a ≡ true → b ≡ true → (a && b) ≡ true
both_true a b h k = rw (h, k) refl

first_false : (a b : Bool) → a ≡ false → (a && b) ≡ false
first_false a b h = rw h refl

-- what is known of a compound that was measured
pub record Counts (s : State) (shape : Shape) (xs : List Item) (q : Open) (at before : ℕ) (m : Measured) : Type 0 where
  pub bytes : List ℕ
  pub so_far : Measured
  pub measure : s.measure ≡ Some so_far
  pub no_plan : s.plan ≡ None
  pub text : parts_text shape (items_of xs) ≡ Some bytes
  pub length : m.length ≡ min (before + length bytes) 18446744073709551615
  pub counted : before ≡ so_far.length
  pub sizes : (z : Size) → set m.sizes at z ≡ so_far.sizes ++ (z ∷ sizes_in (items_of xs))
  pub outer : Lent s s.found q.outer

counts_of : (s : State) (shape : Shape) (xs : List Item) (q : Open) (at before : ℕ) (m : Measured) → Holds s shape xs q → q.opened ≡ Opened.Measured at before → q.inner.measure ≡ Some m → Counts s shape xs q at before m
counts_of s shape xs q at before m h how is =
    let b = measures s shape q.opened at before q.outer h.start how h.begun in
    let after : Some m ≡ measure_after (Some (record { length = b.so_far.length; sizes = b.so_far.sizes ++ b.room ∷ [] })) (sizes_in (items_of xs)) (length h.run.bytes) = sym is ∙ (h.run.goes.measure ∙ ap (λ x. measure_after x (sizes_in (items_of xs)) (length h.run.bytes)) b.counts) in
    let same : m ≡ record { length = min (b.so_far.length + length h.run.bytes) 18446744073709551615; sizes = (b.so_far.sizes ++ b.room ∷ []) ++ sizes_in (items_of xs) } = some_same _ _ after in
    record {
      bytes = h.run.bytes;
      so_far = b.so_far;
      measure = b.measure;
      no_plan = b.plan;
      text = h.run.text;
      length = omega (arith, ap (λ (x : Measured). x.length) same, b.counted);
      counted = b.counted;
      sizes = λ z. ap (λ (x : Measured). set x.sizes at z) same ∙ set_here b.so_far.sizes (sizes_in (items_of xs)) b.room z at b.place;
      outer = b.outer;
    }

-- where the header of the measured size has no text, the whole has none
measured_none : (shape : Shape) (s : State) (xs : List Item) (b : List ℕ) (n : ℕ) → Complete (is_map shape) xs → parts_text shape (items_of xs) ≡ Some b → n ≡ min (length b) 18446744073709551615 → head_text shape s.mark (record { length = n; count = length xs }) ≡ None → marked s.mark (whole shape xs) ≡ None
measured_none shape s xs b n complete text len none = whole_of_some shape s.mark xs b complete text ∙ elim (total (length b) 4294967291) [
  | inl short ↦
      let same : n ≡ length b = omega (arith, len, short) in
      whole_head shape s.mark (length xs) b (parts_fit shape xs b text) ∙ if_none_text _ _ (subst (λ k. head_text shape s.mark (record { length = k; count = length xs }) ≡ None) same none)
  | inr long ↦ whole_none shape s.mark (length xs) b long
]

measured_some : (shape : Shape) (s : State) (xs : List Item) (b h : List ℕ) (n : ℕ) → Complete (is_map shape) xs → parts_text shape (items_of xs) ≡ Some b → n ≡ length b → head_text shape s.mark (record { length = n; count = length xs }) ≡ Some h → marked s.mark (whole shape xs) ≡ Some (h ++ b)
measured_some shape s xs b h n complete text same is =
    whole_of_some shape s.mark xs b complete text ∙ (whole_head shape s.mark (length xs) b (parts_fit shape xs b text) ∙ ap (λ o. o >>= λ x. Some (x ++ b)) (subst (λ k. head_text shape s.mark (record { length = k; count = length xs }) ≡ Some h) same is))

-- a compound that is measured has no plan
no_plan_moves : (s : State) (shape : Shape) (xs : List Item) (q : Open) (at before : ℕ) → Holds s shape xs q → q.opened ≡ Opened.Measured at before → q.inner.plan ≡ None
no_plan_moves s shape xs q at before h how =
    let b = measures s shape q.opened at before q.outer h.start how h.begun in
    h.run.goes.plan ∙ ap (λ x. plan_after x (sizes_in (items_of xs)) h.run.bytes) b.no_plan

pub end_measured : {A : Type 0} (s : State) (shape : Shape) (xs : List Item) (q : Open) (at before : ℕ) (m : Measured) (r : Result A Error) (t : State) → q.opened ≡ Opened.Measured at before → Holds s shape xs q → Complete q.pairs xs → q.inner.measure ≡ Some m → q.outer.plan ≡ q.inner.plan → before ≤ m.length → m.length < 18446744073709551615
    → Pays (back_measured q.outer at before q.count m) (head_text q.shape q.outer.mark (record { length = m.length - before; count = q.count })) (found_after q.outer.mark (Some (under (shape_code q.shape))) q.outer.found) [] (unwritten (m.length - before)) r t
    → Pays s (marked s.mark (whole shape xs)) (found_after s.mark (kind_code (whole shape xs)) s.found) (sizes (whole shape xs)) (unwritten (m.length - before)) r t
end_measured s shape xs q at before m (Ok x) t how h complete is at_plan le lt done =
    let k = counts_of s shape xs q at before m h how is in
    let l = k.outer in
    let c : Complete (is_map shape) xs = rw h.pairs at complete in
    let body : m.length - before ≡ length k.bytes = omega (arith, k.length, le, lt) in
    let exact : m.length ≡ before + length k.bytes = omega (arith, k.length, le, lt) in
    let head : head_text shape s.mark (record { length = m.length - before; count = length xs }) ≡ Some done.ok.0 = head_moved _ _ _ _ (m.length - before) _ _ _ h.shape_is l.mark h.count done.ok.1 in
    let goes = done.ok.2 in
    let z = size_of (parts_text shape (items_of xs)) (length xs) in
    let size : z ≡ record { length = m.length - before; count = q.count } = size_same _ k.bytes (m.length - before) (length xs) q.count k.text body h.count in
    let len = length-append done.ok.0 k.bytes in
    let n : min (m.length + length done.ok.0) 18446744073709551615 ≡ min (k.so_far.length + length (done.ok.0 ++ k.bytes)) 18446744073709551615 = omega (arith, k.counted, exact, len) in
    let listed : set m.sizes at (record { length = m.length - before; count = q.count }) ++ [] ≡ k.so_far.sizes ++ sizes (whole shape xs) = append-nil _ ∙ (k.sizes _ ∙ ap (λ l. k.so_far.sizes ++ l) (sym (whole_sizes shape xs c ∙ ap (λ y. y ∷ sizes_in (items_of xs)) size))) in
    record {
      kept = record { bytes = none_extends _ _ l.was; faults = omega (arith, done.kept.faults, l.faults); grows = done.kept.grows ∙ l.grows };
      device = tt;
      ok = (
        done.ok.0 ++ k.bytes,
        measured_some shape s xs k.bytes done.ok.0 (m.length - before) c k.text body head,
        record {
          fits = no_plan_fits s _ _ k.no_plan;
          appended = none_appends _ _ _ l.was;
          plan = goes.plan ∙ (ap (λ x. plan_after x [] done.ok.0) (at_plan ∙ no_plan_moves s shape xs q at before h how) ∙ no_plan_after _ _ _ k.no_plan);
          measure = goes.measure ∙ (ap (λ y. Some (record { length = y; sizes = set m.sizes at (record { length = m.length - before; count = q.count }) ++ [] })) n ∙ (ap (λ y. Some (record { length = min (k.so_far.length + length (done.ok.0 ++ k.bytes)) 18446744073709551615; sizes = y })) listed ∙ measured_after _ k.so_far _ _ k.measure));
          setting = goes.setting ∙ l.setting;
        },
        done.ok.3 ∙ l.mark,
        done.ok.4 ∙ found_same _ _ _ _ _ _ l.mark (ap (λ x. Some (under (shape_code x))) h.shape_is ∙ sym (whole_code shape xs)) l.found,
        done.ok.5,
      );
      err = tt;
      refused = tt;
      spares = tt;
    }
end_measured s shape xs q at before m (Err e) t how h complete is at_plan le lt done =
    let k = counts_of s shape xs q at before m h how is in
    let l = k.outer in
    let c : Complete (is_map shape) xs = rw h.pairs at complete in
    let body : m.length - before ≡ length k.bytes = omega (arith, k.length, le, lt) in
    let small : m.length - before ≡ min (length k.bytes) 18446744073709551615 = omega (arith, body, lt) in
    record {
      kept = record { bytes = none_extends _ _ l.was; faults = omega (arith, done.kept.faults, l.faults); grows = done.kept.grows ∙ l.grows };
      device = λ d. omega (arith, done.device d, l.faults);
      ok = tt;
      err = done.err;
      refused = elim done.refused [
        | inl m ↦ inl m
        | inr d ↦ elim d [
          | inl io ↦ inr (inl (io.0, omega (arith, io.1, l.faults)))
          | inr w ↦ inr (inr (record { none = if_none_text _ _ (measured_none shape s xs k.bytes (m.length - before) c k.text small (head_moved _ _ _ _ (m.length - before) _ _ _ h.shape_is l.mark h.count (pays_head _ _ w.none))); named = λ plan. w.named (at_plan ∙ no_plan_moves s shape xs q at before h how) }))
        ]
      ];
      spares = λ e. elim (done.spares e) [ inl grows ↦ inl (sym l.grows ∙ grows) | inr more ↦ inr (omega (arith, more, l.faults)) ];
    }

-- why a compound that was measured isn't written, once its parts were
measured_why : (s : State) (shape : Shape) (xs : List Item) (q : Open) (at before : ℕ) (m : Measured) → q.opened ≡ Opened.Measured at before → Holds s shape xs q → Complete q.pairs xs → q.inner.measure ≡ Some m → before ≤ m.length → m.length < 18446744073709551615 → why_unwritten (whole shape xs) ≡ unwritten (m.length - before)
measured_why s shape xs q at before m how h complete is le lt =
    let k = counts_of s shape xs q at before m h how is in
    let body : m.length - before ≡ length k.bytes = omega (arith, k.length, le, lt) in
    body_why shape xs k.bytes k.text (rw h.pairs at complete) ∙ ap unwritten (sym body)

writes : (s : State) (shape : Shape) (k : Opened) (size : CodeSize) (from : ℕ) (o start : State) → k ≡ Opened.Written size from → Begun shape s k o start → Writes shape s (size_in size) from o start
writes s shape k size from o start e b = subst (λ x. Begun shape s x o start) e b

-- what is known of a compound that was written
pub record Agrees (s : State) (shape : Shape) (xs : List Item) (q : Open) (size : Size) (from : ℕ) (p : Planned) : Type 0 where
  pub bytes : List ℕ
  pub head : List ℕ
  pub so_far : Planned
  pub left : List Size
  pub plan : s.plan ≡ Some so_far
  pub next : so_far.sizes ≡ size ∷ left
  pub no_measure : s.measure ≡ None
  pub heads : head_text shape s.mark size ≡ Some head
  pub text : parts_text shape (items_of xs) ≡ Some bytes
  pub listed : begins left (sizes_in (items_of xs)) ≡ true
  pub written : p ≡ record { bytes = (so_far.bytes ++ head) ++ bytes; sizes = drop (length (sizes_in (items_of xs))) left }
  pub behind : from ≡ length (so_far.bytes ++ head)
  pub outer : Lent s (found_after s.mark (Some (under (shape_code shape))) s.found) q.outer

fits_plan : (s : State) (l : List Size) (n : ℕ) → fits s l n ≡ true → is_next s.plan l ≡ true
unfolding fits
fits_plan s l n h = h

plan_fits : (s : State) (l : List Size) (n : ℕ) → is_next s.plan l ≡ true → fits s l n ≡ true
unfolding fits
plan_fits s l n h = h

agrees_of : (s : State) (shape : Shape) (xs : List Item) (q : Open) (size : CodeSize) (from : ℕ) (p : Planned) → Holds s shape xs q → q.opened ≡ Opened.Written size from → q.inner.plan ≡ Some p → Agrees s shape xs q (size_in size) from p
agrees_of s shape xs q size from p h how is =
    let b = writes s shape q.opened size from q.outer h.start how h.begun in
    let l = sizes_in (items_of xs) in
    let at_start : Planned = record { bytes = b.so_far.bytes ++ b.head; sizes = b.left } in
    let after : Some p ≡ plan_after (Some at_start) l h.run.bytes = sym is ∙ (h.run.goes.plan ∙ ap (λ x. plan_after x l h.run.bytes) b.goes_on) in
    record {
      bytes = h.run.bytes;
      head = b.head;
      so_far = b.so_far;
      left = b.left;
      plan = b.plan;
      next = b.next;
      no_measure = b.measure;
      heads = b.text;
      text = h.run.text;
      listed = subst (λ x. is_next x l ≡ true) b.goes_on (fits_plan h.start l (length h.run.bytes) h.run.goes.fits);
      written = some_same _ _ after;
      behind = b.behind;
      outer = b.outer;
    }

same_true : (a b : Size) → a.length ≡ b.length → a.count ≡ b.count → same_size a b ≡ true
same_true a b h k = rw (eq-eqb a.length b.length h, eq-eqb a.count b.count k) refl

written_length : (s : State) (shape : Shape) (xs : List Item) (q : Open) (size : Size) (from : ℕ) (p : Planned) → Agrees s shape xs q size from p → (k : (bytes : List ℕ) × (parts_text shape (items_of xs) ≡ Some bytes)) → length p.bytes ≡ from + length k.0
written_length s shape xs q size from p g k =
    let same : g.bytes ≡ k.0 = some_same _ _ (sym g.text ∙ k.1) in
    ap (λ (x : Planned). length x.bytes) g.written ∙ (length-append (g.so_far.bytes ++ g.head) g.bytes ∙ (let e : length (g.so_far.bytes ++ g.head) ≡ from = sym g.behind in rw (e, same) refl))

-- nothing is counted of a compound that is written
no_measure_moves : (s : State) (shape : Shape) (xs : List Item) (q : Open) (size : CodeSize) (from : ℕ) → Holds s shape xs q → q.opened ≡ Opened.Written size from → q.inner.measure ≡ None
no_measure_moves s shape xs q size from h how =
    let b = writes s shape q.opened size from q.outer h.start how h.begun in
    h.run.goes.measure ∙ ap (λ x. measure_after x (sizes_in (items_of xs)) (length h.run.bytes)) b.no_measure

pub wrote_written : (s : State) (shape : Shape) (xs : List Item) (q : Open) (size : CodeSize) (from : ℕ) (p : Planned) (t : State) → q.opened ≡ Opened.Written size from → Holds s shape xs q → Complete q.pairs xs → q.inner.plan ≡ Some p → q.outer.plan ≡ q.inner.plan → q.outer.measure ≡ q.inner.measure → length p.bytes ≡ from + size.length → q.count ≡ size.count → t ≡ record q.outer { ended = false } → Wrote s (whole shape xs) t
wrote_written s shape xs q size from p t how h complete is at_plan at_measure long count same =
    let g = agrees_of s shape xs q size from p h how is in
    let l = g.outer in
    let c : Complete (is_map shape) xs = rw h.pairs at complete in
    let len : length g.bytes ≡ size.length = omega (arith, long, written_length s shape xs q (size_in size) from p g (g.bytes, g.text)) in
    let n : length xs ≡ size.count = sym h.count ∙ count in
    let z : size_of (parts_text shape (items_of xs)) (length xs) ≡ size_in size = size_same _ g.bytes size.length (length xs) size.count g.text (sym len) (sym n) in
    let all : sizes (whole shape xs) ≡ size_in size ∷ sizes_in (items_of xs) = whole_sizes shape xs c ∙ ap (λ y. y ∷ sizes_in (items_of xs)) z in
    let head : head_text shape s.mark (record { length = size.length; count = length xs }) ≡ Some g.head = subst (λ k. head_text shape s.mark (record { length = size.length; count = k }) ≡ Some g.head) (sym n) g.heads in
    let next : is_next s.plan (sizes (whole shape xs)) ≡ true = next_planned _ g.so_far (size_in size) (size_in size) g.left _ _ true g.plan g.next all (both_true _ _ (same_true (size_in size) (size_in size) refl refl) g.listed) in
    subst (λ x. Wrote s (whole shape xs) x) (sym same) (record {
      kept = record { bytes = none_extends _ _ l.was; faults = l.faults; grows = l.grows };
      took = λ a. record {
        bytes = g.head ++ g.bytes;
        text = measured_some shape s xs g.bytes g.head size.length c g.text (sym len) head;
        goes = record {
          fits = plan_fits s _ _ next;
          appended = none_appends _ _ _ l.was;
          plan = at_plan ∙ (is ∙ plan_written _ g.so_far p (size_in size) g.left _ _ g.head g.bytes g.plan g.next all g.written);
          measure = at_measure ∙ (no_measure_moves s shape xs q size from h how ∙ no_measure_after _ _ _ g.no_measure);
          setting = l.setting;
        };
        mark = l.mark;
        found = l.found ∙ found_same s.mark s.mark _ _ s.found s.found refl (sym (whole_code shape xs)) refl;
      };
      answers = λ a. refl;
    })

pub refused_written : (s : State) (shape : Shape) (xs : List Item) (q : Open) (size : CodeSize) (from : ℕ) (p : Planned) (e : Error) (t : State) → q.opened ≡ Opened.Written size from → Holds s shape xs q → Complete q.pairs xs → q.inner.plan ≡ Some p → ((length p.bytes ≡ from + size.length) × (q.count ≡ size.count) → ⊥) → (IsDevice e → ⊥) → Kept s t → Refused s (whole shape xs) e t
refused_written s shape xs q size from p e t how h complete is differ device kept =
    let g = agrees_of s shape xs q size from p h how is in
    let l = g.outer in
    let c : Complete (is_map shape) xs = rw h.pairs at complete in
    let len = written_length s shape xs q (size_in size) from p g (g.bytes, g.text) in
    let z : sizes (whole shape xs) ≡ record { length = length g.bytes; count = length xs } ∷ sizes_in (items_of xs) = whole_sizes shape xs c ∙ ap (λ y. y ∷ sizes_in (items_of xs)) (size_same _ g.bytes (length g.bytes) (length xs) (length xs) g.text refl refl) in
    let unequal : same_size (size_in size) (record { length = length g.bytes; count = length xs }) ≡ false = not_same (size_in size) (record { length = length g.bytes; count = length xs }) (λ y. differ (omega (arith, len, y.0), h.count ∙ sym y.1)) in
    record {
      kept = kept;
      device = λ d. absurd (device d);
      cause = λ a. inr (inr (record {
        none = none_text s (whole shape xs) (inr (next_planned _ g.so_far (size_in size) _ g.left _ _ false g.plan g.next z (first_false _ _ unequal)));
        named = λ plan. absurd (none_some g.so_far (sym g.plan ∙ plan));
      }));
    }
  where
    eqb_parts : (a b c d : ℕ) → ((a ≡ c) × (b ≡ d) → ⊥) → (a == c && b == d) ≡ false
    eqb_parts a b c d h = go (a == c) (b == d) refl refl
      where
        go : (x y : Bool) → (a == c) ≡ x → (b == d) ≡ y → (x && y) ≡ false
        go false y i j = refl
        go true false i j = refl
        go true true i j = absurd (h (eqb-true a c i, eqb-true b d j))

    not_same : (a b : Size) → ((a.length ≡ b.length) × (a.count ≡ b.count) → ⊥) → same_size a b ≡ false
    not_same a b h = eqb_parts a.length a.count b.length b.count h

some_measure : (s : State) (shape : Shape) (xs : List Item) (q : Open) (at before : ℕ) → Holds s shape xs q → q.opened ≡ Opened.Measured at before → (m : Measured) × (q.inner.measure ≡ Some m)
some_measure s shape xs q at before h how =
    let b = measures s shape q.opened at before q.outer h.start how h.begun in
    (_, h.run.goes.measure ∙ ap (λ x. measure_after x (sizes_in (items_of xs)) (length h.run.bytes)) b.counts)

pub wrote_measured : {A : Type 0} (q : Open) (at before : ℕ) (r : Result A Error) (t : State) → q.opened ≡ Opened.Measured at before → q.outer.plan ≡ q.inner.plan → ((m : Measured) → q.inner.measure ≡ Some m → EndsMeasured q.shape at before q.count m q.outer r t) → OnOk r ((s : State) (shape : Shape) (xs : List Item) → Holds s shape xs q → Complete q.pairs xs → Wrote s (whole shape xs) t)
wrote_measured q at before (Ok x) t how at_plan p = λ s shape xs h complete.
    let m = some_measure s shape xs q at before h how in
    elim (p m.0 m.1) [
      | inl none ↦ absurd none
      | inr e ↦ wrote_pays s (whole shape xs) _ _ _ _ (Ok x) t refl refl refl (end_measured s shape xs q at before m.0 (Ok x) t how h complete m.1 at_plan e.0 e.1 e.2)
    ]
wrote_measured q at before (Err e) t how at_plan p = tt

pub refused_measured : {A : Type 0} (q : Open) (at before : ℕ) (r : Result A Error) (t : State) → q.opened ≡ Opened.Measured at before → q.outer.plan ≡ q.inner.plan → Kept q.outer t → ((m : Measured) → q.inner.measure ≡ Some m → EndsMeasured q.shape at before q.count m q.outer r t) → IfErr r (λ e. (s : State) (shape : Shape) (xs : List Item) → Holds s shape xs q → Complete q.pairs xs → Refused s (whole shape xs) e t)
refused_measured q at before (Ok x) t how at_plan kept p = tt
refused_measured q at before (Err e) t how at_plan kept p = λ s shape xs h complete.
    let m = some_measure s shape xs q at before h how in
    elim (p m.0 m.1) [
      | inl full ↦ full_refuses s t (whole shape xs) e (kept_two s q.outer t (kept_begun shape s q.opened q.outer h.start h.begun) kept) full
      | inr d ↦ refused_pays s (whole shape xs) _ _ _ _ (Err e) t refl refl refl (measured_why s shape xs q at before m.0 how h complete m.1 d.0 d.1) (end_measured s shape xs q at before m.0 (Err e) t how h complete m.1 at_plan d.0 d.1 d.2)
    ]

some_plan : (s : State) (shape : Shape) (xs : List Item) (q : Open) (size : CodeSize) (from : ℕ) → Holds s shape xs q → q.opened ≡ Opened.Written size from → (p : Planned) × (q.inner.plan ≡ Some p)
some_plan s shape xs q size from h how =
    let b = writes s shape q.opened size from q.outer h.start how h.begun in
    (_, h.run.goes.plan ∙ ap (λ x. plan_after x (sizes_in (items_of xs)) h.run.bytes) b.goes_on)

pub wrote_written_each : (q : Open) (size : CodeSize) (from : ℕ) (t : State) → q.opened ≡ Opened.Written size from → q.outer.plan ≡ q.inner.plan → q.outer.measure ≡ q.inner.measure → ((p : Planned) → q.inner.plan ≡ Some p → (length p.bytes ≡ from + size.length) × (q.count ≡ size.count) × (t ≡ record q.outer { ended = false })) → (s : State) (shape : Shape) (xs : List Item) → Holds s shape xs q → Complete q.pairs xs → Wrote s (whole shape xs) t
wrote_written_each q size from t how at_plan at_measure f s shape xs h complete =
    let p = some_plan s shape xs q size from h how in
    let d = f p.0 p.1 in
    wrote_written s shape xs q size from p.0 t how h complete p.1 at_plan at_measure d.0 d.1 d.2

pub refused_written_each : (q : Open) (size : CodeSize) (from : ℕ) (e : Error) (t : State) → q.opened ≡ Opened.Written size from → Kept q.outer t → ((p : Planned) → q.inner.plan ≡ Some p → (e ≡ Error.OutOfMemory) ⊎ (((length p.bytes ≡ from + size.length) × (q.count ≡ size.count) → ⊥) × (e ≡ Error.InvalidValue))) → (s : State) (shape : Shape) (xs : List Item) → Holds s shape xs q → Complete q.pairs xs → Refused s (whole shape xs) e t
refused_written_each q size from e t how kept f s shape xs h complete =
    let p = some_plan s shape xs q size from h how in
    let first = kept_two s q.outer t (kept_begun shape s q.opened q.outer h.start h.begun) kept in
    elim (f p.0 p.1) [
      | inl full ↦ full_refuses s t (whole shape xs) e first full
      | inr d ↦ refused_written s shape xs q size from p.0 e t how h complete p.1 d.0 (λ x. subst (λ y. IsDevice y) d.1 x) first
    ]

pub kept_at_end : (b : Back) (s t : State) → Kept s t → Kept (back b s) t
kept_at_end b s t k = record { bytes = k.bytes; faults = k.faults; grows = k.grows }

cut_pairs : (xs : List Item) → (ys : List Item) × Complete true ys × (pairs_of xs ≡ pairs_of ys)
cut_pairs [] = ([], refl, refl)
cut_pairs (k ∷ []) = ([], refl, refl)
cut_pairs (k ∷ v ∷ xs) = let r = cut_pairs xs in (k ∷ v ∷ r.0, r.1, ap (λ l. pair k v l) r.2)

-- a last key without its value isn't part of a map
cut : (shape : Shape) (xs : List Item) → (ys : List Item) × Complete (is_map shape) ys × (whole shape xs ≡ whole shape ys)
unfolding whole
cut Shape.List xs = (xs, refl, refl)
cut Shape.Array xs = (xs, refl, refl)
cut (Shape.Tuple n) xs = (xs, refl, refl)
cut Shape.Map xs = let r = cut_pairs xs in (r.0, r.1, ap (λ l. map_item l) r.2)
cut Shape.Fields xs = let r = cut_pairs xs in (r.0, r.1, ap (λ l. map_item l) r.2)

both_of : (a b : Bool) → (a && b) ≡ true → a ≡ true
both_of true b h = refl
both_of false b h = h

agree_size : (p : Option Planned) (q : Planned) (z w : Size) (left l all : List Size) → p ≡ Some q → q.sizes ≡ z ∷ left → all ≡ w ∷ l → is_next p all ≡ true → (z.length ≡ w.length) × (z.count ≡ w.count)
agree_size p q z w left l all e f g h =
    let k : (same_size z w && begins left l) ≡ true = rw (e, f, g) at h in
    let s = both_of _ _ k in
    let c : (z.count == w.count) ≡ true = second (z.length == w.length) _ s in
    (eqb-true z.length w.length (both_of _ _ s), eqb-true z.count w.count c)
  where
    second : (a b : Bool) → (a && b) ≡ true → b ≡ true
    second true b h = h
    second false b h = cc

headless : (s : State) (shape : Shape) (z : Size) (p : Planned) (left : List Size) (xs : List Item) (o : Option (List ℕ)) → parts_text shape (items_of xs) ≡ o → s.plan ≡ Some p → p.sizes ≡ z ∷ left → Complete (is_map shape) xs → head_text shape s.mark z ≡ None → is_next s.plan (sizes (whole shape xs)) ≡ true → marked s.mark (whole shape xs) ≡ None
headless s shape z p left xs None text plan next c none fits = whole_of_none shape s.mark xs c text
headless s shape z p left xs (Some b) text plan next c none fits =
    let all = whole_sizes shape xs c ∙ ap (λ y. y ∷ sizes_in (items_of xs)) (size_same _ b (length b) (length xs) (length xs) text refl refl) in
    let a = agree_size s.plan p z (record { length = length b; count = length xs }) left _ _ plan next all fits in
    whole_of_some shape s.mark xs b c text ∙ (whole_head shape s.mark (length xs) b (parts_fit shape xs b text) ∙ if_none_text _ _ (subst (λ l. head_text shape s.mark (record { length = l; count = length xs }) ≡ None) a.0 (subst (λ k. head_text shape s.mark (record { length = z.length; count = k }) ≡ None) a.1 none)))

-- a header that can't stand there refuses each whole
pub refuses_headless : {A B : Type 0} (s a : State) (shape : Shape) (z : CodeSize) (p : Planned) (left : List Size) (found : Option Constructor) (why e : Error) (t : State) → s.ended ≡ false → s.contents ≡ None → s.plan ≡ Some p → p.sizes ≡ size_in z ∷ left → a.mark ≡ s.mark → a.faults ≡ s.faults → a.grows ≡ s.grows → Pays {A = A} a (head_text shape a.mark (size_in z)) found [] why (Err e) t → RefusesOpen {A = B} shape s (Err e) t
refuses_headless s a shape z p left found why e t answers none_told plan next mark faults grows law = record {
  law = λ xs. let y = cut shape xs in subst (λ i. Refused s i e t) (sym y.2) (record {
    kept = record { bytes = none_extends _ _ none_told; faults = omega (arith, law.kept.faults, faults); grows = law.kept.grows ∙ grows };
    device = λ d. omega (arith, law.device d, faults);
    cause = λ _. elim law.refused [
      | inl m ↦ inl m
      | inr d ↦ inr (elim d [
        | inl io ↦ inl (io.0, omega (arith, io.1, faults))
        | inr w ↦ inr (record {
          named = λ none. absurd (none_some p (sym plan ∙ none));
          none = none_text s (whole shape y.0) (elim (bool_cases (is_next s.plan (sizes (whole shape y.0)))) [
            | inl fits ↦ inl (headless s shape (size_in z) p left y.0 _ refl plan next y.1 (subst (λ m. head_text shape m (size_in z) ≡ None) mark (pays_head a _ w.none)) fits)
            | inr not ↦ inr not
          ]);
        })
      ])
    ];
  });
  stops = record { err = law.err; ended = λ h. absurd (apart (sym h ∙ answers)) };
}
