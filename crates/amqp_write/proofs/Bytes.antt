-- Known bytes over several writes.
use Rattle.std.proofs.Common.{◌≡◌, ◌<◌, ◌==◌, Bool, suc, ◌∷◌, ℕ, ◌+◌, ◌≤◌, List, [], ◌++◌, length, length-append, length-take-le, take, drop, refl, sym, ◌∙◌, ap, subst, append_assoc, arith, Option, Some, None, Ok, Err, inl, inr, true, false, ◌⊎◌, min}
use Rattle.std.proofs.lemmas.Grind.{common_steps}
use Rattle.std.proofs.lemmas.List.{take-append-drop, take_all, length-drop, append-nil}
use Rattle.std.proofs.lemmas.Bool.{ne_eqb}
use Rattle.std.specs.Io.KnownBytes.{Appends, Keeps}
use Rattle.std.specs.declared.io.ErrorKind.{ErrorKind}
use Rattle.std.specs.declared.io.ErrorKind.TheVariants.{OutOfMemory as NoMemory}
use Rattle.amqp_base.specs.Faults.{Extends, refusal_of, IsFault}
use Rattle.amqp_base.specs.declared.error.Error.{Error}
use Rattle.amqp_base.specs.declared.error.Error.TheVariants.{OutOfMemory, Io}
use Rattle.amqp_base.specs.Passes.{Plans, Measures}
use Rattle.amqp_write.specs.State.{State, Planned, Measured, contents_in, plan_in, measure_in}
use Rattle.amqp_write.specs.Law.{fits, is_next, plan_after, measure_after, Kept, IsDevice}
use Rattle.amqp_write.specs.Appending.{Appended}

pub appends_more : (a b c : Option (List ℕ)) (xs ys : List ℕ) → Appends a b xs → Appends b c ys → Appends a c (xs ++ ys)
appends_more None b c xs ys h k = tt
appends_more (Some a) None c xs ys h k = absurd h
appends_more (Some a) (Some b) None xs ys h k = absurd k
appends_more (Some a) (Some b) (Some c) xs ys h k = k ∙ (ap (λ zs. zs ++ ys) h ∙ append_assoc a xs ys)

pub extends_appends : (a b : Option (List ℕ)) (xs : List ℕ) → Appends a b xs → Extends a b
extends_appends None b xs h = tt
extends_appends (Some a) None xs h = absurd h
extends_appends (Some a) (Some b) xs h = (xs, h)

pub extends_keeps : (a b c : Option (List ℕ)) (xs : List ℕ) → Appends a b xs → Keeps b c → Extends a c
extends_keeps None b c xs h k = tt
extends_keeps (Some a) None c xs h k = absurd h
extends_keeps (Some a) (Some b) None xs h k = absurd k
extends_keeps (Some a) (Some b) (Some c) xs h k = (xs, k ∙ h)

pub extends_same : (a : Option (List ℕ)) → Extends a a
extends_same None = tt
extends_same (Some a) = ([], grind (arith, common_steps))

pub extends_more : (a b c : Option (List ℕ)) → Extends a b → Extends b c → Extends a c
extends_more None b c h k = tt
extends_more (Some a) None c h k = absurd h
extends_more (Some a) (Some b) None h k = absurd k
extends_more (Some a) (Some b) (Some c) h k = (h.0 ++ k.0, k.1 ∙ (ap (λ zs. zs ++ k.0) h.1 ∙ append_assoc a h.0 k.0))

pub appends_none : (a : Option (List ℕ)) → Appends a a []
appends_none None = tt
appends_none (Some a) = grind (arith, common_steps)

-- where the bytes aren't told
pub none_extends : (a b : Option (List ℕ)) → a ≡ None → Extends a b
none_extends a b h = rw h tt

pub none_appends : (a b : Option (List ℕ)) (xs : List ℕ) → a ≡ None → Appends a b xs
none_appends a b xs h = rw h tt

-- a step, and one more, are one
plan_two : (p : Option Planned) (a b : List ℕ) → plan_after (plan_after p [] a) [] b ≡ plan_after p [] (a ++ b)
plan_two None a b = refl
plan_two (Some p) a b = ap (λ x. Some (record { bytes = x; sizes = p.sizes })) (append_assoc p.bytes a b)

measure_two : (p : Option Measured) (n k : ℕ) → measure_after (measure_after p [] n) [] k ≡ measure_after p [] (n + k)
measure_two None n k = refl
measure_two (Some p) n k = let e : min (min (p.length + n) 18446744073709551615 + k) 18446744073709551615 ≡ min (p.length + (n + k)) 18446744073709551615 = omega arith in rw e (ap (λ y. Some (record { length = min (p.length + (n + k)) 18446744073709551615; sizes = y })) (append-nil (p.sizes ++ [])))

plan_start : (p : Option Planned) → p ≡ plan_after p [] []
plan_start None = refl
plan_start (Some p) = ap (λ x. Some (record { bytes = x; sizes = p.sizes })) (sym (append-nil p.bytes))

pub measure_start : (d : Bool) (p : Option Measured) → measure_in d p ≡ measure_after (measure_in d p) [] 0
measure_start false p = refl
measure_start true None = refl
measure_start true (Some p) = let e : min (min p.length 18446744073709551615 + 0) 18446744073709551615 ≡ min p.length 18446744073709551615 = omega arith in rw (e, append-nil p.sizes) refl

pub appends_in : (d : Bool) (a b : Option (List ℕ)) (xs : List ℕ) → Appends a b xs → Appends (contents_in d a) (contents_in d b) xs
appends_in true a b xs h = tt
appends_in false a b xs h = h

pub keeps_in : (d : Bool) (a b : Option (List ℕ)) → Keeps a b → Keeps (contents_in d a) (contents_in d b)
keeps_in true a b h = tt
keeps_in false a b h = h

pub plan_step : (d : Bool) (p q : Option Planned) (n : ℕ) (b : List ℕ) → Plans p q (Ok n) b → plan_in d q ≡ plan_after (plan_in d p) [] (take n b)
plan_step false p q n b h = refl
plan_step true None q n b h = h
plan_step true (Some p) q n b h = h

pub measure_step : (d : Bool) (p q : Option Measured) (n : ℕ) (b : List ℕ) → n ≤ length b → Measures p q (Ok n) → measure_in d q ≡ measure_after (measure_in d p) [] (length (take n b))
measure_step false p q n b l h = refl
measure_step true None q n b l h = rw h refl
measure_step true (Some p) q n b l h =
    let k : length (take n b) ≡ n = length-take-le n b l in
    let e : min (min (p.length + n) 18446744073709551615) 18446744073709551615 ≡ min (min p.length 18446744073709551615 + n) 18446744073709551615 = omega arith in
    rw (h, k, e, append-nil p.sizes) refl

-- part of the bytes is appended, the rest is to come
pub record Going (s : State) (bytes rest : List ℕ) (t : State) : Type 0 where
  pub done : List ℕ
  pub split : bytes ≡ done ++ rest
  pub appended : Appends s.contents t.contents done
  pub plan : t.plan ≡ plan_after s.plan [] done
  pub measure : t.measure ≡ measure_after s.measure [] (length done)
  pub same : t ≡ record s { contents = t.contents; plan = t.plan; measure = t.measure }

pub going_more : (s t u : State) (bytes rest more after : List ℕ) → Going s bytes rest t → rest ≡ more ++ after → Appends t.contents u.contents more → u.plan ≡ plan_after t.plan [] more → u.measure ≡ measure_after t.measure [] (length more) → u.faults ≡ t.faults → u.last_fault ≡ t.last_fault → u.grows ≡ t.grows
    → u ≡ record t { contents = u.contents; plan = u.plan; measure = u.measure; faults = u.faults; last_fault = u.last_fault; grows = u.grows } → Going s bytes after u
going_more s t u bytes rest more after g split appended plan measure faults last grows same = record {
  done = g.done ++ more;
  split = g.split ∙ (ap (λ xs. g.done ++ xs) split ∙ sym (append_assoc g.done more after));
  appended = appends_more _ _ _ _ _ g.appended appended;
  plan = plan ∙ (ap (λ p. plan_after p [] more) g.plan ∙ plan_two s.plan g.done more);
  measure = measure ∙ (ap (λ p. measure_after p [] (length more)) g.measure ∙ (measure_two s.measure (length g.done) (length more) ∙ ap (λ n. measure_after s.measure [] n) (sym (length-append g.done more))));
  same = same ∙ (let e : record t { contents = u.contents; plan = u.plan; measure = u.measure; faults = u.faults; last_fault = u.last_fault; grows = u.grows } ≡ record t { contents = u.contents; plan = u.plan; measure = u.measure } = rw (faults, last, grows) refl in e) ∙ ap (λ (x : State). record x { contents = u.contents; plan = u.plan; measure = u.measure }) g.same;
}

pub going_none : (s : State) (bytes : List ℕ) → s.measure ≡ measure_after s.measure [] 0 → Going s bytes bytes s
going_none s bytes measure = record {
  done = [];
  split = grind (arith, common_steps);
  appended = appends_none s.contents;
  plan = plan_start s.plan;
  measure = measure;
  same = refl;
}

pub kept_going : (s t : State) (bytes rest : List ℕ) → Going s bytes rest t → Kept s t
kept_going s t bytes rest g = record {
  bytes = extends_appends _ _ _ g.appended;
  faults = omega (arith, ap (λ (x : State). x.faults) g.same);
  grows = ap (λ (x : State). x.grows) g.same;
}

next_nil : (p : Option Planned) → is_next p [] ≡ true
next_nil None = refl
next_nil (Some p) = refl

fits_any : (s : State) (n : ℕ) → fits s [] n ≡ true
unfolding fits
fits_any s n = next_nil s.plan

pub appended_all : {A : Type 0} (x : A) (s t : State) (bytes rest : List ℕ) → rest ≡ [] → Going s bytes rest t → Appended s bytes (Ok x) t
appended_all x s t bytes rest nil g =
    let all : bytes ≡ g.done = g.split ∙ (ap (λ xs. g.done ++ xs) nil ∙ append-nil g.done) in
    record {
      kept = kept_going s t bytes rest g;
      device = tt;
      ok = (record { fits = fits_any s (length bytes); appended = rw all g.appended; plan = rw all g.plan; measure = rw all g.measure; setting = ap (λ (x : State). x.setting) g.same }, ap (λ (x : State). x.mark) g.same, ap (λ (x : State). x.found) g.same, ap (λ (x : State). x.ended) g.same);
      err = tt;
      refused = tt;
      spares = tt;
    }

refusal_memory : (kind : ErrorKind) → kind ≡ NoMemory → refusal_of kind ≡ OutOfMemory
unfolding refusal_of
refusal_memory kind h = rw h refl

refusal_io : (kind : ErrorKind) → (refusal_of kind ≡ OutOfMemory) ⊎ (refusal_of kind ≡ Io kind)
unfolding refusal_of
refusal_io NoMemory = inl refl
refusal_io kind = inr refl

-- a fault ends the serializer
pub appended_fault : {A : Type 0} (s t u : State) (bytes rest : List ℕ) (kind : ErrorKind) (e : Error) → Going s bytes rest t → e ≡ refusal_of kind → Keeps t.contents u.contents
    → (u.faults ≡ t.faults + 1) ⊎ ((kind ≡ NoMemory) × (t.grows ≡ true) × (u.faults ≡ t.faults)) → (t.faults < u.faults → u.last_fault ≡ Some kind) → u.grows ≡ t.grows → u.ended ≡ true → Appended {A = A} s bytes (Err e) u
appended_fault s t u bytes rest kind e g is bytes_kept counts last grows ended =
    let same : t.faults ≡ s.faults = ap (λ (x : State). x.faults) g.same in
    let held : t.grows ≡ s.grows = ap (λ (x : State). x.grows) g.same in
    record {
      kept = record {
        bytes = extends_keeps _ _ _ g.done g.appended bytes_kept;
        faults = elim counts [ inl one ↦ omega (arith, one, same) | inr m ↦ omega (arith, m.2, same) ];
        grows = grows ∙ held;
      };
      device = λ d. elim counts [ inl one ↦ omega (arith, one, same) | inr m ↦ absurd (subst (λ x. IsDevice x) (is ∙ refusal_memory kind m.0) d) ];
      ok = tt;
      err = ended;
      refused = elim counts [
        | inl one ↦ elim (refusal_io kind) [ inl m ↦ inl (is ∙ m) | inr io ↦ inr (inl (subst (λ x. IsFault u.last_fault x) (sym (is ∙ io)) (last (omega (arith, one))), omega (arith, one, same))) ]
        | inr m ↦ inl (is ∙ refusal_memory kind m.0)
      ];
      spares = λ m. elim counts [ inl one ↦ inr (omega (arith, one, same)) | inr more ↦ inl (sym held ∙ more.1) ];
    }

pub cut : (n m : ℕ) (xs : List ℕ) → m + n ≡ length xs → xs ≡ take n xs ++ take m (drop n xs)
cut n m xs h =
    let fits : length (drop n xs) ≤ m = simp length-drop (omega arith) in
    sym (ap (λ ys. take n xs ++ ys) (take_all m (drop n xs) fits) ∙ take-append-drop n xs)

apart : true ≡ false → ⊥
apart e = cc

not_empty : (n : ℕ) → true ≡ (suc n == 0) → ⊥
not_empty n e = apart (e ∙ ne_eqb (suc n) 0 (λ h. absurd (omega (arith, h))))

pub empty_list : {A : Type 0} (xs : List A) (b : Bool) → b ≡ true → b ≡ (length xs == 0) → xs ≡ []
empty_list [] b h k = refl
empty_list (x ∷ xs) b h k = absurd (not_empty (length xs) (sym h ∙ k))
