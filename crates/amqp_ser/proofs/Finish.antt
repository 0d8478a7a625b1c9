-- What a whole writing gives.
use Rattle.std.proofs.Common.{◌≡◌, ℕ, List, [], sym, ◌∙◌, ap, arith, Option, Some, None, false, inl, inr, subst, ◌⊎◌, refl}
use Rattle.std.specs.Io.KnownBytes.{Appends}
use Rattle.amqp_base.specs.Item.{Item}
use Rattle.amqp_base.specs.Canon.{canon, ◌>>=◌, when}
use Rattle.amqp_base.specs.declared.error.Error.{Error}
use Rattle.amqp_base.specs.declared.error.Error.TheVariants.{OutOfMemory}
use Rattle.amqp_base.specs.declared.shape.Setting.{Setting}
use Rattle.amqp_base.specs.declared.shape.Setting.TheVariants.{Plain}
use Rattle.std.proofs.Common.{◌∷◌, ◌+◌, ◌<◌, min, length, drop, true, Bool}
use Rattle.std.proofs.lemmas.Bool.{eq-eqb}
use Rattle.amqp_base.specs.Sizes.{Size, sizes}
use Rattle.amqp_ser.specs.Passes.{IsSize}
use Rattle.amqp_ser.specs.State.{State, Planned, Measured, unmarked, contents_in, plan_in, measure_in}
use Rattle.amqp_ser.specs.Texts.{HasNoText, why_unwritten}
use Rattle.amqp_ser.specs.Law.{Wrote, Refused, marked, begins, is_next, fits, text_for, plan_after, measure_after}

from_none : (a b : Option (List ℕ)) (more ys : List ℕ) → a ≡ Some [] → b ≡ Some ys → Appends a b more → ys ≡ more
from_none a b more ys h k l = rw (h, k) at l

marked_canon : (i : Item) → marked unmarked i ≡ canon i
unfolding marked
marked_canon i = refl

pub to_vec_ok : (s : State) (f : Setting → Item) (t : State) (ys : List ℕ) → s.setting ≡ Plain → s.mark ≡ unmarked → s.ended ≡ false → s.contents ≡ Some [] → t.contents ≡ Some ys → Wrote s (f s.setting) t → canon (f Plain) ≡ Some ys
to_vec_ok s f t ys plain mark answers start contents w =
    let took = w.took answers in
    let same : ys ≡ took.bytes = from_none _ _ _ _ start contents took.goes.appended in
    let text = subst (λ m. marked m (f s.setting) ≡ Some took.bytes) mark took.text in
    subst (λ setting. canon (f setting) ≡ Some ys) plain (sym (marked_canon (f s.setting)) ∙ (text ∙ ap Some (sym same)))

-- what is known of the bytes of a serializer is known of its writer's: they are in no pass
in_no_pass : (p : Bool) (c : Option (List ℕ)) (xs : List ℕ) → Appends (Some []) (contents_in p c) xs → contents_in p c ≡ c
in_no_pass false c xs h = refl
in_no_pass true c xs h = absurd h

-- a text that was written to a vector is as long as what is measured of the item
pub longer : (s : State) (f : Setting → Item) (t : State) (ys : List ℕ) (d : Bool) (n k : ℕ) (l : List Size) → s.setting ≡ Plain → s.mark ≡ unmarked → s.ended ≡ false → s.contents ≡ Some [] → t.contents ≡ contents_in d (Some ys) → Wrote s (f s.setting) t → n < length ys → length ys < 18446744073709551616 → IsSize (f Plain) k l → n < k
longer s f t ys d n k l plain mark answers start contents w more few z =
    let took = w.took answers in
    let told : Appends (Some []) (contents_in d (Some ys)) took.bytes = subst (λ c. Appends (Some []) c took.bytes) contents (subst (λ c. Appends c t.contents took.bytes) start took.goes.appended) in
    let written = to_vec_ok s f t ys plain mark answers start (contents ∙ in_no_pass d (Some ys) took.bytes told) w in
    let same : Some ys ≡ Some z.bytes = sym written ∙ z.text in
    let e : ys ≡ z.bytes = cc in
    omega (arith, more, few, z.counted, ap length e)

begins_self : (l : List Size) → begins l l ≡ true
begins_self [] = refl
begins_self (x ∷ l) = rw (eq-eqb x.length x.length refl, eq-eqb x.count x.count refl, begins_self l) refl

pub plain_text : (s : State) (f : Setting → Item) (b : Option (List ℕ)) → s.setting ≡ Plain → s.mark ≡ unmarked → marked s.mark (f s.setting) ≡ b → canon (f Plain) ≡ b
plain_text s f b plain mark text = subst (λ x. canon (f x) ≡ b) plain (sym (marked_canon (f s.setting)) ∙ subst (λ m. marked m (f s.setting) ≡ b) mark text)

measure_is : (p : Option Measured) (l : List Size) (n : ℕ) (m : Measured) → p ≡ Some (record { length = 0; sizes = [] }) → Some m ≡ measure_after p l n → (m.length ≡ min n 18446744073709551615) × (m.sizes ≡ l)
measure_is p l n m h k =
    let same : Some m ≡ Some (record { length = min (0 + n) 18446744073709551615; sizes = l }) = subst (λ x. Some m ≡ measure_after x l n) h k in
    let e : m ≡ record { length = min (0 + n) 18446744073709551615; sizes = l } = cc in
    (omega (arith, ap (λ (x : Measured). x.length) e), ap (λ (x : Measured). x.sizes) e)

pub measure_ok : (s : State) (f : Setting → Item) (t : State) (m : Measured) → s.setting ≡ Plain → s.mark ≡ unmarked → s.ended ≡ false → s.measure ≡ Some (record { length = 0; sizes = [] }) → t.measure ≡ Some m → Wrote s (f s.setting) t → IsSize (f Plain) m.length m.sizes
measure_ok s f t m plain mark answers start end w =
    let took = w.took answers in
    let is = measure_is s.measure (sizes (f s.setting)) (length took.bytes) m start (sym end ∙ took.goes.measure) in
    record { bytes = took.bytes; text = plain_text s f (Some took.bytes) plain mark took.text; counted = is.0; listed = is.1 ∙ ap (λ x. sizes (f x)) plain }

pub vec_ok : (s : State) (f : Setting → Item) (t : State) (p : Planned) (l : List Size) → s.setting ≡ Plain → s.mark ≡ unmarked → s.ended ≡ false → s.plan ≡ Some (record { bytes = []; sizes = l }) → t.plan ≡ Some p → Wrote s (f s.setting) t → canon (f Plain) ≡ Some p.bytes
vec_ok s f t p l plain mark answers start end w =
    let took = w.took answers in
    let same : Some p ≡ plan_after (Some (record { bytes = []; sizes = l })) (sizes (f s.setting)) took.bytes = sym end ∙ (took.goes.plan ∙ ap (λ x. plan_after x (sizes (f s.setting)) took.bytes) start) in
    let e : p ≡ record { bytes = took.bytes; sizes = drop (length (sizes (f s.setting))) l } = cc in
    plain_text s f (Some p.bytes) plain mark (took.text ∙ ap Some (sym (ap (λ (x : Planned). x.bytes) e)))

pub next_text : (s : State) (i : Item) → is_next s.plan (sizes i) ≡ true → text_for s i ≡ None → marked s.mark i ≡ None
unfolding text_for fits
next_text s i h k = go (marked s.mark i) (is_next s.plan (sizes i)) h k
  where
    go : (o : Option (List ℕ)) (t : Bool) → t ≡ true → (o >>= λ b. when t b) ≡ None → o ≡ None
    go None t h k = refl
    go (Some b) true h k = cc
    go (Some b) false h k = cc

pub pass_err : (s : State) (f : Setting → Item) (e : Error) (t : State) → s.setting ≡ Plain → s.mark ≡ unmarked → is_next s.plan (sizes (f s.setting)) ≡ true → s.ended ≡ false → t.faults ≡ s.faults → Refused s (f s.setting) e t → (e ≡ OutOfMemory) ⊎ (canon (f Plain) ≡ None)
pass_err s f e t plain mark next answers faults r =
    elim (r.cause answers) [ inl m ↦ inl m | inr d ↦ elim d [ inl io ↦ absurd (omega (arith, faults, io.1)) | inr w ↦ inr (plain_text s f None plain mark (next_text s (f s.setting) next w.none)) ] ]

pub no_plan_next : (p : Option Planned) (l : List Size) → p ≡ None → is_next p l ≡ true
no_plan_next p l h = rw h refl

pub measure_err : (s : State) (f : Setting → Item) (e : Error) (t : State) → s.setting ≡ Plain → s.mark ≡ unmarked → s.plan ≡ None → s.ended ≡ false → t.faults ≡ s.faults → Refused s (f s.setting) e t → (e ≡ OutOfMemory) ⊎ HasNoText (f Plain) e
measure_err s f e t plain mark none answers faults r =
    elim (r.cause answers) [
      | inl m ↦ inl m
      | inr d ↦ elim d [
        | inl io ↦ absurd (omega (arith, faults, io.1))
        | inr w ↦ inr (record {
          none = plain_text s f None plain mark (next_text s (f s.setting) (no_plan_next s.plan (sizes (f s.setting)) none) w.none);
          named = w.named none ∙ ap (λ x. why_unwritten (f x)) plain;
        })
      ]
    ]

whole_plan : (p : Option Planned) (k l : List Size) → p ≡ Some (record { bytes = []; sizes = k }) → k ≡ l → is_next p l ≡ true
whole_plan p k l h e = rw (h, e) (begins_self l)

-- what was measured is written, or memory was wanting
pub vec_err : (s : State) (f : Setting → Item) (e : Error) (t : State) (l : List Size) (b : List ℕ) → s.setting ≡ Plain → s.mark ≡ unmarked → s.plan ≡ Some (record { bytes = []; sizes = l }) → l ≡ sizes (f Plain) → canon (f Plain) ≡ Some b → s.ended ≡ false → t.faults ≡ s.faults → Refused s (f s.setting) e t → e ≡ OutOfMemory
vec_err s f e t l b plain mark plan listed text answers faults r =
    elim (pass_err s f e t plain mark (whole_plan s.plan l (sizes (f s.setting)) plan (listed ∙ ap (λ x. sizes (f x)) (sym plain))) answers faults r) [ inl m ↦ m | inr none ↦ absurd (let e = sym none ∙ text in cc) ]

-- what was counted, of a serializer whose writer counts
pub measured_ok : (s : State) (f : Setting → Item) (t : State) (d : Bool) (m : Measured) (n : ℕ) → s.setting ≡ Plain → s.mark ≡ unmarked → s.ended ≡ false → s.measure ≡ Some (record { length = 0; sizes = [] }) → t.measure ≡ measure_in d (Some m) → n ≡ min m.length 18446744073709551615 → Wrote s (f s.setting) t → IsSize (f Plain) n m.sizes
measured_ok s f t d m n plain mark answers start end len w =
    let took = w.took answers in
    let there : measure_in d (Some m) ≡ measure_after (Some (record { length = 0; sizes = [] })) (sizes (f s.setting)) (length took.bytes) = sym end ∙ (took.goes.measure ∙ ap (λ x. measure_after x (sizes (f s.setting)) (length took.bytes)) start) in
    subst (λ k. IsSize (f Plain) k m.sizes) (sym len) (measure_ok s f t (record { length = min m.length 18446744073709551615; sizes = m.sizes }) plain mark answers start (end ∙ is_there d m _ there) w)
  where
    is_there : (d : Bool) (m : Measured) (y : Measured) → measure_in d (Some m) ≡ Some y → measure_in d (Some m) ≡ Some (record { length = min m.length 18446744073709551615; sizes = m.sizes })
    is_there true m y h = refl
    is_there false m y h = cc

-- what was written, of a serializer whose writer has a plan
pub written_ok : (s : State) (f : Setting → Item) (t : State) (d : Bool) (p : Planned) (l : List Size) → s.setting ≡ Plain → s.mark ≡ unmarked → s.ended ≡ false → s.plan ≡ Some (record { bytes = []; sizes = l }) → t.plan ≡ plan_in d (Some p) → Wrote s (f s.setting) t → canon (f Plain) ≡ Some p.bytes
written_ok s f t d p l plain mark answers start end w =
    let took = w.took answers in
    let there : plan_in d (Some p) ≡ plan_after (Some (record { bytes = []; sizes = l })) (sizes (f s.setting)) took.bytes = sym end ∙ (took.goes.plan ∙ ap (λ x. plan_after x (sizes (f s.setting)) took.bytes) start) in
    vec_ok s f t p l plain mark answers start (end ∙ is_there d p _ there) w
  where
    is_there : (d : Bool) (p : Planned) (y : Planned) → plan_in d (Some p) ≡ Some y → plan_in d (Some p) ≡ Some p
    is_there true p y h = refl
    is_there false p y h = cc
