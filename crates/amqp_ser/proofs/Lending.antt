-- A compound that is opened.
use Rattle.std.proofs.Common.{◌≡◌, ◌<◌, ◌^◌, ℕ, List, [], ◌∷◌, ◌++◌, length, min, refl, sym, ◌∙◌, ap, subst, arith, Option, Some, None, true, false, Bool, Ok}
use Rattle.std.proofs.lemmas.List.{append-nil}
use Rattle.amqp_base.specs.Wire.{Constructor, under}
use Rattle.amqp_base.specs.Shapes.{setting_inside}
use Rattle.amqp_base.specs.Sizes.{Size}
use Rattle.amqp_base.specs.Passes.{MakesRoom, IsCounted, TakesNext, IsWritten}
use Rattle.amqp_base.specs.declared.error.Error.{Error}
use Rattle.amqp_base.specs.declared.shape.Shape.{Shape}
use Rattle.amqp_base.specs.declared.fault.Size.{Size as CodeSize}
use Rattle.amqp_ser.specs.State.{State, Planned, Measured, size_in, contents_in, plan_in, measure_in}
use Rattle.amqp_ser.specs.Law.{found_after, plan_after, measure_after, Goes}
use Rattle.amqp_write.specs.Appending.{Pays}
use Rattle.amqp_write.specs.declared.pass.Opened.{Opened}
use Rattle.amqp_ser.specs.Compound.{Open, Back, back, Run, Holds, Begun, Lent, is_map, next_mark, shape_code, head_text}
use Rattle.amqp_write.proofs.Steps.{fits_nil}
use Rattle.amqp_write.proofs.Bytes.{appends_none}
use Rattle.amqp_ser.proofs.Compounds.{run_none}

some_same : {A : Type 0} (x y : A) → Some x ≡ Some y → x ≡ y
some_same x y h = cc

plan_nil : (p : Option Planned) → p ≡ plan_after p [] []
plan_nil None = refl
plan_nil (Some p) = ap (λ x. Some (record { bytes = x; sizes = p.sizes })) (sym (append-nil p.bytes))

goes_nil : (u : State) → u.measure ≡ measure_after u.measure [] 0 → Goes u [] [] u
goes_nil u h = record { fits = fits_nil u 0; appended = appends_none u.contents; plan = plan_nil u.plan; measure = h; setting = refl }

-- a place for one more size, as the state has it
pub room_of : (d : Bool) (p n : Option Measured) (at : ℕ) → d ≡ true → MakesRoom p at n → (m : Measured) × (z : Size) × (measure_in d p ≡ Some m) × (at ≡ length m.sizes) × (measure_in d n ≡ Some (record { length = m.length; sizes = m.sizes ++ z ∷ [] }))
room_of d None n at e h = absurd h
room_of false (Some p) n at e h = cc
room_of true (Some p) n at e h = (record { length = min p.length 18446744073709551615; sizes = p.sizes }, h.0, refl, h.1, rw h.2 refl)

pub counted_of : (d : Bool) (p : Option Measured) (m : Measured) (k : ℕ) → measure_in d p ≡ Some m → IsCounted p k → k < 2 ^ 64 → k ≡ m.length
counted_of false p m k e h l = cc
counted_of true None m k e h l = cc
counted_of true (Some p) m k e h l = let same : min p.length 18446744073709551615 ≡ m.length = ap (λ (x : Measured). x.length) (some_same _ _ e) in omega (arith, same, h, l)

-- the parts of a compound that is measured begin
pub holds_measured : (s o : State) (shape : Shape) (q : Open) (b : Back) (m : Measured) (room : Size) → s.ended ≡ false → s.contents ≡ None → s.plan ≡ None → s.measure ≡ Some m
    → o.plan ≡ None → o.measure ≡ Some (record { length = m.length; sizes = m.sizes ++ room ∷ [] }) → o.faults ≡ s.faults → o.grows ≡ s.grows → o.setting ≡ setting_inside shape → o.mark ≡ next_mark shape [] → o.measure ≡ measure_after o.measure [] 0
    → b.setting ≡ s.setting → b.mark ≡ s.mark → b.found ≡ s.found → q.pairs ≡ is_map shape → q.shape ≡ shape → q.count ≡ 0 → q.opened ≡ Opened.Measured (length m.sizes) m.length → q.inner ≡ record o { ended = false } → q.outer ≡ back b o → Holds s shape [] q
holds_measured s o shape q b m room answers none plan measure o_plan o_measure faults grows setting mark small b_setting b_mark b_found pairs same count opened inner outer =
    let u = record o { ended = false } in
    record {
      pairs = pairs;
      shape_is = same;
      start = u;
      begun = subst (λ k. Begun shape s k q.outer u) (sym opened) (record {
        so_far = m;
        room = room;
        plan = plan;
        measure = measure;
        place = refl;
        counted = refl;
        no_plan = o_plan;
        counts = o_measure;
        outer = subst (λ x. Lent s s.found x) (sym outer) (record { was = none; faults = omega (arith, faults); grows = grows; setting = b_setting; mark = b_mark; found = b_found });
      });
      run = subst (λ v. Run shape u [] v) (sym inner) (run_none shape u (goes_nil u small) mark setting refl);
      count = count;
      answered = answers;
    }

-- the size that is next, as the state has it
pub next_of : (d : Bool) (p n : Option Planned) (z : Size) → d ≡ true → TakesNext p z.length z.count n → (x : Planned) × (left : List Size) × (plan_in d p ≡ Some x) × (x.sizes ≡ z ∷ left) × (plan_in d n ≡ Some (record { bytes = x.bytes; sizes = left }))
next_of d None n z e h = absurd h
next_of false (Some p) n z e h = cc
next_of true (Some p) n z e h = (p, h.0, refl, h.1, h.2)

pub written_of : (d : Bool) (p : Option Planned) (x : Planned) (k : ℕ) → plan_in d p ≡ Some x → IsWritten p k → k ≡ length x.bytes
written_of false p x k e h = cc
written_of true None x k e h = cc
written_of true (Some p) x k e h = h ∙ ap (λ (y : Planned). length y.bytes) (some_same _ _ e)

no_measure_nil : (m : Option Measured) → m ≡ None → m ≡ measure_after m [] 0
no_measure_nil m h = rw h refl

-- the parts of a compound begin behind its header; s is before the size was taken, a behind that, o behind the header
pub holds_written : (s a t o : State) (shape : Shape) (q : Open) (b : Back) (p : Planned) (size : CodeSize) (left : List Size) (from : ℕ) (why : Error) → s.ended ≡ false → s.contents ≡ None → s.measure ≡ None → s.plan ≡ Some p → p.sizes ≡ size_in size ∷ left
    → a.measure ≡ None → a.plan ≡ Some (record { bytes = p.bytes; sizes = left }) → a.faults ≡ s.faults → a.grows ≡ s.grows → a.setting ≡ s.setting → a.mark ≡ s.mark → a.found ≡ s.found
    → Pays {A = Unit {0}} a (head_text shape a.mark (size_in size)) (found_after a.mark (Some (under (shape_code shape))) a.found) [] why (Ok tt) t
    → ((x : Planned) → t.plan ≡ Some x → from ≡ length x.bytes)
    → o ≡ record t { setting = setting_inside shape; mark = next_mark shape []; found = None; ended = true }
    → b.setting ≡ t.setting → b.mark ≡ t.mark → b.found ≡ t.found → q.pairs ≡ is_map shape → q.shape ≡ shape → q.count ≡ 0 → q.opened ≡ Opened.Written size from → q.inner ≡ record o { ended = false } → q.outer ≡ back b o → Holds s shape [] q
holds_written s a t o shape q b p size left from why answers none measure plan next a_measure a_plan a_faults a_grows a_setting a_mark a_found law reaches at_o b_setting b_mark b_found pairs same count opened inner outer =
    let head = law.ok.0 in
    let goes = law.ok.2 in
    let t_plan : t.plan ≡ Some (record { bytes = p.bytes ++ head; sizes = left }) = goes.plan ∙ ap (λ x. plan_after x [] head) a_plan in
    let t_measure : t.measure ≡ None = goes.measure ∙ ap (λ x. measure_after x [] (length head)) a_measure in
    let o_plan : o.plan ≡ Some (record { bytes = p.bytes ++ head; sizes = left }) = ap (λ (x : State). x.plan) at_o ∙ t_plan in
    let o_measure : o.measure ≡ None = ap (λ (x : State). x.measure) at_o ∙ t_measure in
    let u = record o { ended = false } in
    let code = Some (under (shape_code shape)) in
    record {
      pairs = pairs;
      shape_is = same;
      start = u;
      begun = subst (λ k. Begun shape s k q.outer u) (sym opened) (record {
        so_far = p;
        left = left;
        head = head;
        plan = plan;
        next = next;
        measure = measure;
        text = subst (λ m. head_text shape m (size_in size) ≡ Some head) a_mark law.ok.1;
        goes_on = o_plan;
        no_measure = o_measure;
        behind = reaches _ t_plan;
        outer = subst (λ x. Lent s (found_after s.mark code s.found) x) (sym outer) (record {
          was = none;
          faults = omega (arith, law.kept.faults, a_faults, ap (λ (x : State). x.faults) at_o);
          grows = ap (λ (x : State). x.grows) at_o ∙ (law.kept.grows ∙ a_grows);
          setting = b_setting ∙ (goes.setting ∙ a_setting);
          mark = b_mark ∙ (law.ok.3 ∙ a_mark);
          found = b_found ∙ (law.ok.4 ∙ found_at a.mark s.mark code a.found s.found a_mark a_found);
        });
      });
      run = subst (λ v. Run shape u [] v) (sym inner) (run_none shape u (goes_nil u (no_measure_nil o.measure o_measure)) (ap (λ (x : State). x.mark) at_o) (ap (λ (x : State). x.setting) at_o) refl);
      count = count;
      answered = answers;
    }
  where
    found_at : (m n : _) (c : Option Constructor) (f g : Option Constructor) → m ≡ n → f ≡ g → found_after m c f ≡ found_after n c g
    found_at m n c f g h k = rw (h, k) refl

pub plan_none : (d : Bool) (p : Option Planned) → p ≡ None → plan_in d p ≡ None
plan_none true p h = h
plan_none false p h = refl

pub measure_none : (d : Bool) (p : Option Measured) → p ≡ None → measure_in d p ≡ None
measure_none true p h = rw h refl
measure_none false p h = refl

pub told_none : (d : Bool) (c : Option (List ℕ)) → d ≡ true → contents_in d c ≡ None
told_none d c h = rw h refl
