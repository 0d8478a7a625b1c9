-- Steps under a plan and a measure.
use Rattle.std.proofs.Common.{◌≡◌, ℕ, ◌+◌, List, [], ◌∷◌, ◌++◌, length, drop, min, refl, sym, ◌∙◌, ap, subst, arith, Option, Some, None, true, false, Bool, ◌&&◌, append_assoc, length-append}
use Rattle.amqp_base.specs.Sizes.{Size}
use Rattle.amqp_write.specs.State.{State, Planned, Measured}
use Rattle.amqp_write.specs.Law.{Goes, fits, begins, same_size, is_next, plan_after, measure_after}
use Rattle.amqp_write.proofs.Bytes.{appends_more}

and_assoc : (a b c : Bool) → (a && (b && c)) ≡ ((a && b) && c)
and_assoc true b c = refl
and_assoc false b c = refl

-- a front of a front
begins_more : (p l m : List Size) → begins p (l ++ m) ≡ (begins p l && begins (drop (length l) p) m)
begins_more p [] m = refl
begins_more [] (x ∷ l) m = refl
begins_more (y ∷ p) (x ∷ l) m = ap (λ b. same_size y x && b) (begins_more p l m) ∙ and_assoc (same_size y x) (begins p l) (begins (drop (length l) p) m)

drop_nil : (m : List Size) → (let none : List Size = [] in drop (length m) none ≡ none)
drop_nil [] = refl
drop_nil (x ∷ m) = refl

drop_more : (p l m : List Size) → drop (length m) (drop (length l) p) ≡ drop (length (l ++ m)) p
drop_more p [] m = refl
drop_more [] (x ∷ l) m = drop_nil m
drop_more (y ∷ p) (x ∷ l) m = drop_more p l m

next_more : (p : Option Planned) (l m : List Size) (b : List ℕ) → is_next p l ≡ true → is_next (plan_after p l b) m ≡ true → is_next p (l ++ m) ≡ true
next_more None l m b h k = refl
next_more (Some p) l m b h k = begins_more p.sizes l m ∙ (rw (h, k) refl)

plan_more : (p : Option Planned) (l m : List Size) (a b : List ℕ) → plan_after (plan_after p l a) m b ≡ plan_after p (l ++ m) (a ++ b)
plan_more None l m a b = refl
plan_more (Some p) l m a b = rw (append_assoc p.bytes a b, drop_more p.sizes l m) refl

measure_more : (p : Option Measured) (l m : List Size) (n k : ℕ) → measure_after (measure_after p l n) m k ≡ measure_after p (l ++ m) (n + k)
measure_more None l m n k = refl
measure_more (Some p) l m n k = let e : min (min (p.length + n) 18446744073709551615 + k) 18446744073709551615 ≡ min (p.length + (n + k)) 18446744073709551615 = omega arith in rw (e, append_assoc p.sizes l m) refl

fits_next : (s : State) (l : List Size) (n : ℕ) → fits s l n ≡ is_next s.plan l
unfolding fits
fits_next s l n = refl

-- two steps are one
pub goes_more : (s t u : State) (a b : List ℕ) (l m : List Size) → Goes s a l t → Goes t b m u → Goes s (a ++ b) (l ++ m) u
goes_more s t u a b l m g h =
    let len : length (a ++ b) ≡ length a + length b = length-append a b in
    let p : is_next s.plan l ≡ true = sym (fits_next s l (length a)) ∙ g.fits in
    let q : is_next t.plan m ≡ true = sym (fits_next t m (length b)) ∙ h.fits in
    let next : is_next s.plan (l ++ m) ≡ true = next_more s.plan l m a p (subst (λ x. is_next x m ≡ true) g.plan q) in
    record {
      fits = fits_next s (l ++ m) (length (a ++ b)) ∙ next;
      appended = appends_more _ _ _ a b g.appended h.appended;
      plan = h.plan ∙ (ap (λ x. plan_after x m b) g.plan ∙ plan_more s.plan l m a b);
      measure = h.measure ∙ (ap (λ x. measure_after x m (length b)) g.measure ∙ (measure_more s.measure l m (length a) (length b) ∙ ap (λ n. measure_after s.measure (l ++ m) n) (sym len)));
      setting = h.setting ∙ g.setting;
    }

pub next_refused : (p : Option Planned) (l m r : List Size) (a : List ℕ) → is_next (plan_after p l a) m ≡ false → is_next p (l ++ (m ++ r)) ≡ false
next_refused None l m r a h = cc
next_refused (Some p) l m r a h = begins_more p.sizes l (m ++ r) ∙ (ap (λ b. begins p.sizes l && b) (begins_more (drop (length l) p.sizes) m r ∙ (rw h refl)) ∙ and_false (begins p.sizes l))
  where
    and_false : (b : Bool) → (b && false) ≡ false
    and_false true = refl
    and_false false = refl
