-- What is known of a value by looks at its codes and sizes.
use Rattle.std.proofs.Common.{◌≡◌, ◌⊎◌, ◌<◌, ◌≤◌, ◌+◌, ◌^◌, ◌++◌, [], ◌∷◌, List, ℕ, zero, suc, length, take, drop, leb, arith, Option, Some, None, refl, sym, ap, ◌∙◌, Bool, true, IsTrue, Result, Ok, Err, inl, inr, subst, w32}
use Rattle.std.specs.Prelude.{IfOk, IfErr, OnOk}
use Rattle.std.specs.Io.KnownBytes.{Consumes, Keeps}
use Rattle.std.proofs.lemmas.List.{length-append, length-drop, take-append-drop, drop-drop, take_at, drop_all, take-append-le, drop-append-le}
use Rattle.std.proofs.lemmas.Bool.{le-leb, cond-true, cases_lt}
use Rattle.amqp_base.specs.declared.error.Error.{Error}
use Rattle.amqp_base.specs.declared.error.Error.TheVariants.{Io, InvalidFormatCode}
use Rattle.std.specs.declared.io.ErrorKind.TheVariants.{UnexpectedEof}
use Rattle.amqp_base.specs.Codes.{code_of}
use Rattle.amqp_base.specs.Raw.{there, behind_size, scalar_raw, raw}
use Rattle.amqp_base.specs.Value.{number}
use Rattle.amqp_read.specs.Reading.{Reading, Agree, Stays, Takes}
use Rattle.std.proofs.lemmas.Option.{same_Some}
use Rattle.std.proofs.Math.Seq.{take-add}
use Rattle.amqp_read.specs.Steps.{Looked, IsShort, ShortOf, ShowsBehind, ComeBehind, Admits, Fails, NotSeen, NotTaken, HasBytes}
use Rattle.amqp_base.proofs.RawAgrees.{raw_agrees}
use Rattle.amqp_read.proofs.Streams.{looked_takes, steady_then}
use Rattle.amqp_read.specs.declared.raw.Data.{Data}
use Rattle.amqp_read.specs.declared.raw.Data.TheVariants.{Fixed, Size8, Size32}
use Rattle.std.specs.Int.{from_be_bytes}
use Rattle.std.proofs.lemmas.Bool.Decides.{nat_tests}
use Rattle.amqp_read.specs.Raw.{data_behind, IsDataOf, HasNoScalar, HasNoValue, NoScalar, NoValue, MayBeTaken, Sees, SeesNumber, Measures, MeasuresValue, TakesValue, TakesStrict, ValuePassesCount}

-- ---- what was seen

agree_at : (n : ℕ) (u t b : List ℕ) → Agree u t → take (length b) (drop n u) ≡ b → n + length b ≤ length t → take (length b) (drop n t) ≡ b
agree_at n u t [] h k l = refl
agree_at zero [] t (x ∷ b) h k l = absurd cc
agree_at (suc n) [] t (x ∷ b) h k l = absurd cc
agree_at n (y ∷ u) [] (x ∷ b) h k l = absurd (omega arith)
agree_at zero (y ∷ u) (z ∷ t) (x ∷ b) h k l =
    let p : y ≡ x = cc in
    let q : take (length b) u ≡ b = cc in
    let r : take (length b) t ≡ b = agree_at zero u t b h.1 q (omega arith) in
    let first : z ≡ x = sym h.0 ∙ p in
    rw (first, r) refl
agree_at (suc n) (y ∷ u) (z ∷ t) (x ∷ b) h k l = agree_at n u t (x ∷ b) h.1 k (omega arith)

known_at : (n : ℕ) (s t b : List ℕ) → take (length t) s ≡ t → take (length b) (drop n s) ≡ b → n + length b ≤ length t → take (length b) (drop n t) ≡ b
known_at n s t b h k l =
    let e : s ≡ t ++ drop (length t) s = sym (take-append-drop (length t) s) ∙ ap (λ (z : List ℕ). z ++ drop (length t) s) h in
    let f : take (length b) (drop n (t ++ drop (length t) s)) ≡ b = subst (λ (z : List ℕ). take (length b) (drop n z) ≡ b) e k in
    sym (take-append-le (length b) (drop n t) (drop (length t) s) (omega (arith, length-drop n t)))
    ∙ (ap (λ (z : List ℕ). take (length b) z) (sym (drop-append-le n t (drop (length t) s) (omega arith))) ∙ f)

kept_known : (a b : Option (List ℕ)) (s : List ℕ) → Keeps a b → a ≡ Some s → b ≡ Some s
kept_known None b s k e = absurd cc
kept_known (Some x) None s k e = absurd k
kept_known (Some x) (Some y) s k e = ap Some k ∙ e

keeps_then : (a b d : Option (List ℕ)) → Keeps a b → Keeps b d → Keeps a d
keeps_then None b d k l = tt
keeps_then (Some x) None d k l = absurd k
keeps_then (Some x) (Some y) None k l = absurd l
keeps_then (Some x) (Some y) (Some z) k l = l ∙ k

front_then : (x y z : List ℕ) → take (length x) y ≡ x → take (length y) z ≡ y → take (length x) z ≡ x
front_then [] y z h k = refl
front_then (a ∷ x) [] z h k = absurd cc
front_then (a ∷ x) (b ∷ y) [] h k = absurd cc
front_then (a ∷ x) (b ∷ y) (c ∷ z) h k =
    let p : take (length x) y ≡ x = cc in
    let q : take (length y) z ≡ y = cc in
    let r : c ≡ a = cc in
    rw (r, front_then x y z p q) refl

pub stays_then : {a b d : Reading} → Stays a b → Stays b d → Stays a d
stays_then {a} {b} {d} s t = record {
  to_come = keeps_then a.to_come b.to_come d.to_come s.to_come t.to_come;
  taken = t.taken ∙ s.taken;
  received = front_then a.received b.received d.received s.received t.received;
  steady = steady_then s.steady t.steady;
}

-- ---- what may be taken next

agree_front : (xs ys zs : List ℕ) → Agree xs ys → take (length zs) xs ≡ zs → Agree zs ys
agree_front xs ys [] h k = tt
agree_front xs [] (z ∷ zs) h k = tt
agree_front [] (y ∷ ys) (z ∷ zs) h k = absurd cc
agree_front (x ∷ xs) (y ∷ ys) (z ∷ zs) h k =
    let p : x ≡ z = cc in
    let q : take (length zs) xs ≡ zs = cc in
    (sym p ∙ h.0, agree_front xs ys zs h.1 q)

admits_kept : (a b : Option (List ℕ)) (u v t : List ℕ) → Keeps a b → take (length u) v ≡ u → Agree v t → Admits b v t → Admits a u t
admits_kept None b u v t k r h m = agree_front v t u h r
admits_kept (Some x) None u v t k r h m = absurd k
admits_kept (Some x) (Some y) u v t k r h m = subst (λ z. take (length t) z ≡ t) k m

-- what may be taken behind a look might have been taken before it
taken_before : {a b : Reading} (t : List ℕ) → Stays a b → MayBeTaken b t → MayBeTaken a t
taken_before {a} {b} t s m = (agree_front b.received t a.received m.0 s.received, admits_kept a.to_come b.to_come a.received b.received t s.to_come s.received m.0 m.1)

admits_taken : (a b : Option (List ℕ)) (u t : List ℕ) → Agree u t → Consumes a b t → Admits a u t
admits_taken None b u t h c = h
admits_taken (Some x) None u t h c = absurd c
admits_taken (Some x) (Some y) u t h c = ap (λ z. take (length t) z) c ∙ take_at t y (length t) refl

pub takes_may : {a b : Reading} {t : List ℕ} → Takes a b t → MayBeTaken a t
takes_may {a} {b} {t} h = (h.agrees, admits_taken a.to_come b.to_come a.received t h.agrees h.to_come)

shown_next : (n : ℕ) (a : Option (List ℕ)) (u t b : List ℕ) → ComeBehind n a u b → Agree u t → Admits a u t → n + length b ≤ length t → take (length b) (drop n t) ≡ b
shown_next n None u t b k h m l = agree_at n u t b h k l
shown_next n (Some s) u t b k h m l = known_at n s t b m k l

shown_known : (n : ℕ) (a b : Option (List ℕ)) (v s x : List ℕ) → Keeps a b → ComeBehind n b v x → a ≡ Some s → take (length x) (drop n s) ≡ x
shown_known n None b v s x k h e = absurd cc
shown_known n (Some y) None v s x k h e = absurd k
shown_known n (Some y) (Some z) v s x k h e =
    let same : z ≡ s = k ∙ same_Some y s e in
    subst (λ t. take (length x) (drop n t) ≡ x) same h

-- ---- looks

pub sees_shown : {n : ℕ} {b : List ℕ} {old new : Reading} → Stays old new → ShowsBehind n new b → Sees n b old new
sees_shown {n} {b} {old} {new} s h = record {
  known = λ t e. shown_known n old.to_come new.to_come new.received t b s.to_come h e;
  next = λ t m l. shown_next n new.to_come new.received t b h m.0 m.1 l;
}

pub sees_later : {n : ℕ} {b : List ℕ} {x y z : Reading} → Sees n b x y → Stays y z → Sees n b x z
sees_later h s = record { known = h.known; next = λ t m l. h.next t (taken_before t s m) l }

pub sees_before : {n : ℕ} {b : List ℕ} {x y z : Reading} → Stays x y → Sees n b y z → Sees n b x z
sees_before {x = x} {y = y} s h = record { known = λ t e. h.known t (kept_known x.to_come y.to_come t s.to_come e); next = h.next }

take_both : (x y s : List ℕ) → take (length x) s ≡ x → take (length y) (drop (length x) s) ≡ y → take (length (x ++ y)) s ≡ x ++ y
take_both x y s h k = rw (length-append x y, take-add (length x) (length y) s, h, k) refl

pub sees_both : {n : ℕ} {x y : List ℕ} {old new : Reading} → Sees n x old new → Sees (n + length x) y old new → Sees n (x ++ y) old new
sees_both {n} {x} {y} h k = record {
  known = λ s e. take_both x y (drop n s) (h.known s e) (rw (drop-drop (length x) n s) (k.known s e));
  next = λ t m l. take_both x y (drop n t) (h.next t m (omega (arith, length-append x y))) (rw (drop-drop (length x) n t) (k.next t m (omega (arith, length-append x y))));
}

-- ---- a value whose constructor is one code

is_there : (n : ℕ) (s : List ℕ) → n ≤ length s → there n s ≡ Some n
is_there n s h = cond-true (leb n (length s)) (Some n) None (le-leb n (length s) h)

not_there : (n : ℕ) (s : List ℕ) → length s < n → there n s ≡ None
not_there n s h = grind (arith, nat_tests)

front_is : (s b : List ℕ) → take (length b) s ≡ b → s ≡ b ++ drop (length b) s
front_is s b h = sym (take-append-drop (length b) s) ∙ ap (λ (z : List ℕ). z ++ drop (length b) s) h

-- a code that is none
no_code : (x : ℕ) (t : List ℕ) → code_of x ≡ None → HasNoScalar (x ∷ t) InvalidFormatCode
no_code x t h = record { none = rw h refl; named = rw h refl }

missing_data : {d : Data} (x : ℕ) (t : List ℕ) → IsDataOf x d → data_behind d t ≡ None → HasNoScalar (x ∷ t) (Io UnexpectedEof)
missing_data {d} x t h k = record { none = h.measured t ∙ rw k refl; named = rw h.is refl }

pub measures_fixed : {x n from : ℕ} {old new : Reading} → IsDataOf x (Fixed n) → Sees from (x ∷ []) old new → Measures from (1 + n) old new
measures_fixed {x} {n} d h =
    let wide = d.wide in
    record {
      head = x ∷ [];
      seen = h;
      within = omega arith;
      some = omega arith;
      few = omega arith;
      there = λ b l. d.measured b ∙ rw (is_there n b (omega arith)) (ap Some (omega arith));
      missing = λ b l. missing_data x b d (not_there n b (omega arith));
    }

sized_there : (w : ℕ) (z b : List ℕ) → length z ≡ w → w + number z ≤ length (z ++ b) → behind_size w (z ++ b) ≡ Some (w + number z)
sized_there w z b len h =
    let first : there w (z ++ b) ≡ Some w = is_there w (z ++ b) (omega (arith, length-append z b)) in
    rw (first, take_at z b w len) (is_there (w + number z) (z ++ b) h)

sized_missing : (w : ℕ) (z b : List ℕ) → length z ≡ w → length (z ++ b) < w + number z → behind_size w (z ++ b) ≡ None
sized_missing w z b len h =
    let first : there w (z ++ b) ≡ Some w = is_there w (z ++ b) (omega (arith, length-append z b)) in
    rw (first, take_at z b w len) (not_there (w + number z) (z ++ b) h)

measures_sized : {x w from : ℕ} {d : Data} {z : List ℕ} {old new : Reading} → ((s : List ℕ) → data_behind d s ≡ behind_size w s) → IsDataOf x d → length z ≡ w → w ≤ 4 → number z < 256 ^ 4 → Sees from (x ∷ z) old new → Measures from (1 + w + number z) old new
measures_sized {x} {w} {d = d} {z = z} size h len few most seen = record {
  head = x ∷ z;
  seen = seen;
  within = omega arith;
  some = omega arith;
  few = omega arith;
  there = λ b l. h.measured (z ++ b) ∙ (rw (size (z ++ b), sized_there w z b len (omega arith)) (ap Some (omega arith)));
  missing = λ b l. missing_data x (z ++ b) h (size (z ++ b) ∙ sized_missing w z b len (omega arith));
}

pub measures_8 : {x y from : ℕ} {a b d : Reading} → IsDataOf x Size8 → y < 256 → Sees from (x ∷ []) a b → Stays a b → Stays b d → Sees (from + 1) (y ∷ []) b d → Measures from (2 + y) a d
measures_8 {x} {y} {from} {a} {b} {d} h byte p s t q =
    let n : number (y ∷ []) ≡ y = omega arith in
    let m : Measures from (1 + 1 + number (y ∷ [])) a d = measures_sized (λ s. refl) h refl (omega arith) (omega arith) (sees_both (sees_later p t) (sees_before s q)) in
    subst (λ z. Measures from z a d) (omega arith) m

pub measures_32 : {x y from : ℕ} {a b d : Reading} → IsDataOf x Size32 → y < 2 ^ 32 → Sees from (x ∷ []) a b → Stays a b → Stays b d → SeesNumber (from + 1) 4 y b d → Measures from (5 + y) a d
measures_32 {x} {y} {from} {a} {b} {d} h word p s t q =
    let is = q.is in
    let m : Measures from (1 + 4 + number q.bytes) a d = measures_sized (λ s. refl) h q.len (omega arith) (omega arith) (sees_both (sees_later p t) (sees_before s q.seen)) in
    subst (λ z. Measures from z a d) (omega arith) m

-- ---- and where there is none

short_known : (n : ℕ) (r : Reading) (s : List ℕ) → IsShort n r → IsTrue r.honest → r.to_come ≡ Some s → length s < n
short_known n r s h honest at = subst (λ (z : Option (List ℕ)). ShortOf n z) at (h honest)

pub no_byte_there : {from : ℕ} {r : Reading} → IsShort (from + 1) r → NoScalar from r (Io UnexpectedEof)
no_byte_there {from} {r} h = record {
  kind = inl refl;
  why = λ honest s at. rw (drop_all from s (let few = short_known (from + 1) r s h honest at in omega arith)) (record { none = refl; named = refl });
}

pub no_code_there : {x from : ℕ} {e : Error} {old new : Reading} → (e ≡ InvalidFormatCode) × (code_of x ≡ None) → Sees from (x ∷ []) old new → NoScalar from old e
no_code_there {x} {from} d h = rw d.0 (record {
  kind = inr refl;
  why = λ honest s at. rw (front_is (drop from s) (x ∷ []) (h.known s at)) (no_code x _ d.1);
})

no_size_there : {x from : ℕ} {d : Data} {a b : Reading} (w : ℕ) → ((s : List ℕ) → data_behind d s ≡ behind_size w s) → IsDataOf x d → Sees from (x ∷ []) a b → Stays a b → IsShort (from + 1 + w) b → NoScalar from a (Io UnexpectedEof)
no_size_there {x} {from} {a = a} {b = b} w size h seen stays short = record {
  kind = inl refl;
  why = λ honest s at.
      let t = drop 1 (drop from s) in
      let is : drop from s ≡ x ∷ t = front_is (drop from s) (x ∷ []) (seen.known s at) in
      let few = short_known (from + 1 + w) b s short (stays.steady.honest ∙ honest) (kept_known a.to_come b.to_come s stays.to_come at) in
      let len : length (drop from s) ≡ suc (length t) = ap (λ (z : List ℕ). length z) is in
      rw is (missing_data x t h (size t ∙ rw (not_there w t (omega (arith, length-drop from s))) refl));
}

-- a fault behind a look
fails_before : (grows buffers : Bool) {a b : Reading} (d : Reading) (e : Error) → Stays a b → Fails grows buffers b d e → Fails grows buffers a d e
fails_before grows buffers d e s (inl m) = inl m
fails_before grows buffers d e s (inr f) = let p = s.steady.faults in let q = f.1 in inr (f.0, omega arith, f.2)

pub unseen_byte : (buffers : Bool) (from : ℕ) (a b : Reading) (e : Error) → NotSeen buffers buffers (from + 1) a b e → NoScalar from a e ⊎ Fails buffers buffers a b e
unseen_byte buffers from a b e (inl h) = inl (rw h.0 (no_byte_there h.1))
unseen_byte buffers from a b e (inr f) = inr f

unseen_size : (buffers : Bool) {x from : ℕ} {d : Data} {a b : Reading} (w : ℕ) (c : Reading) (e : Error) → ((s : List ℕ) → data_behind d s ≡ behind_size w s) → IsDataOf x d → Sees from (x ∷ []) a b → Stays a b → NotSeen buffers buffers (from + 1 + w) b c e → NoScalar from a e ⊎ Fails buffers buffers a c e
unseen_size buffers w c e size h seen stays (inl n) = inl (rw n.0 (no_size_there w size h seen stays n.1))
unseen_size buffers w c e size h seen stays (inr f) = inr (fails_before buffers buffers c e stays f)

pub unseen_8 : (buffers : Bool) {x from : ℕ} {a b : Reading} (c : Reading) (e : Error) → IsDataOf x Size8 → Sees from (x ∷ []) a b → Stays a b → NotSeen buffers buffers (from + 1 + 1) b c e → NoScalar from a e ⊎ Fails buffers buffers a c e
unseen_8 buffers c e h seen stays n = unseen_size buffers 1 c e (λ s. refl) h seen stays n

pub unseen_32 : (buffers : Bool) {x from : ℕ} {a b : Reading} (c : Reading) (e : Error) → IsDataOf x Size32 → Sees from (x ∷ []) a b → Stays a b → NotSeen buffers buffers (from + 1 + 4) b c e → NoScalar from a e ⊎ Fails buffers buffers a c e
unseen_32 buffers c e h seen stays n = unseen_size buffers 4 c e (λ s. refl) h seen stays n

-- ---- numbers of four bytes

number_4 : (a b c d : ℕ) → from_be_bytes w32 (a ∷ b ∷ c ∷ d ∷ []) ≡ number (a ∷ b ∷ c ∷ d ∷ [])
number_4 a b c d = omega arith

pub sees_four : {from a b c d n : ℕ} {r s t u v : Reading} → Stays r s → Stays s t → Stays t u → Stays u v → Sees from (a ∷ []) r s → Sees (from + 1) (b ∷ []) s t → Sees (from + 2) (c ∷ []) t u → Sees (from + 3) (d ∷ []) u v
    → n ≡ from_be_bytes w32 (a ∷ b ∷ c ∷ d ∷ []) → SeesNumber from 4 n r v
sees_four {a = a} {b = b} {c = c} {d = d} h i j k p q x y is = record {
  bytes = a ∷ b ∷ c ∷ d ∷ [];
  len = refl;
  seen = sees_both {x = a ∷ b ∷ c ∷ []} (sees_both {x = a ∷ b ∷ []} (sees_both {x = a ∷ []} (sees_later (sees_later (sees_later p i) j) k) (sees_before h (sees_later (sees_later q j) k))) (sees_before h (sees_before i (sees_later x k)))) (sees_before h (sees_before i (sees_before j y)));
  is = is ∙ number_4 a b c d;
}

-- ---- a measured value

pub measures_later : {from n : ℕ} {a b d : Reading} → Measures from n a b → Stays b d → Measures from n a d
measures_later m s = record { head = m.head; seen = sees_later m.seen s; within = m.within; some = m.some; few = m.few; there = m.there; missing = m.missing }

pub measures_before : {from n : ℕ} {a b d : Reading} → Stays a b → Measures from n b d → Measures from n a d
measures_before s m = record { head = m.head; seen = sees_before s m.seen; within = m.within; some = m.some; few = m.few; there = m.there; missing = m.missing }

scalar_there : {from n : ℕ} {a b : Reading} (s : List ℕ) → Measures from n a b → a.to_come ≡ Some s → from + n ≤ length s → scalar_raw (drop from s) ≡ Some n
scalar_there {from} {n} s m at l =
    let is = front_is (drop from s) m.head (m.seen.known s at) in
    let len : length (m.head ++ drop (length m.head) (drop from s)) ≡ length (drop from s) = ap (λ (z : List ℕ). length z) (sym is) in
    ap scalar_raw is ∙ m.there (drop (length m.head) (drop from s)) (omega (arith, len, length-drop from s))

scalar_missing : {from n : ℕ} {a b : Reading} (s : List ℕ) → Measures from n a b → a.to_come ≡ Some s → length (drop from s) < n → HasNoScalar (drop from s) (Io UnexpectedEof)
scalar_missing {from} {n} s m at l =
    let is = front_is (drop from s) m.head (m.seen.known s at) in
    let len : length (m.head ++ drop (length m.head) (drop from s)) ≡ length (drop from s) = ap (λ (z : List ℕ). length z) (sym is) in
    subst (λ z. HasNoScalar z (Io UnexpectedEof)) (sym is) (m.missing (drop (length m.head) (drop from s)) (omega (arith, len)))

scalar_next : {from n : ℕ} {a b : Reading} (t : List ℕ) → Measures from n a b → MayBeTaken b t → from + n ≤ length t → scalar_raw (drop from t) ≡ Some n
scalar_next {from} {n} t m may l =
    let within = m.within in
    let is = front_is (drop from t) m.head (m.seen.next t may (omega arith)) in
    let len : length (m.head ++ drop (length m.head) (drop from t)) ≡ length (drop from t) = ap (λ (z : List ℕ). length z) (sym is) in
    ap scalar_raw is ∙ m.there (drop (length m.head) (drop from t)) (omega (arith, len, length-drop from t))

raw_plain : (x : ℕ) (s : List ℕ) → (x ≡ 0 → ⊥) → raw (x ∷ s) ≡ scalar_raw (x ∷ s)
unfolding raw
raw_plain zero s h = absurd (h refl)
raw_plain (suc x) s h = refl

plain_missing : (x : ℕ) (s : List ℕ) (e : Error) → (x ≡ 0 → ⊥) → HasNoScalar (x ∷ s) e → HasNoValue (x ∷ s) e
plain_missing zero s e h m = absurd (h refl)
plain_missing (suc x) s e h m = record { none = raw_plain (suc x) s h ∙ m.none; named = m.named }

raw_described : (s : List ℕ) (m n : ℕ) → scalar_raw s ≡ Some m → scalar_raw (drop m s) ≡ Some n → raw (0 ∷ s) ≡ Some (1 + m + n)
unfolding raw
raw_described s m n h k = rw (h, k) (ap Some (omega arith))

descriptor_missing : (s : List ℕ) (e : Error) → HasNoScalar s e → HasNoValue (0 ∷ s) e
unfolding raw
descriptor_missing s e h = record { none = rw h.none refl; named = h.named ∙ rw h.none refl }

behind_missing : (s : List ℕ) (m : ℕ) (e : Error) → scalar_raw s ≡ Some m → HasNoScalar (drop m s) e → HasNoValue (0 ∷ s) e
unfolding raw
behind_missing s m e is h = record { none = rw (is, h.none) refl; named = h.named ∙ rw is refl }

-- the first byte of what is to come
first_known : {x : ℕ} {a b : Reading} (s : List ℕ) → Sees 0 (x ∷ []) a b → a.to_come ≡ Some s → s ≡ x ∷ drop 1 s
first_known {x} s h at = front_is s (x ∷ []) (h.known s at)

first_next : {x : ℕ} {a b : Reading} (t : List ℕ) → Sees 0 (x ∷ []) a b → MayBeTaken b t → 1 ≤ length t → t ≡ x ∷ drop 1 t
first_next {x} t h may l = front_is t (x ∷ []) (h.next t may (omega arith))

pub plain_value : {x n : ℕ} {a b : Reading} → (x ≡ 0 → ⊥) → Sees 0 (x ∷ []) a b → Measures 0 n a b → MeasuresValue n a b
plain_value {x} {n} plain h m =
    let some = m.some in
    record {
      taken = λ t may len.
          let is = first_next t h may (omega arith) in
          ap raw is ∙ (raw_plain x (drop 1 t) plain ∙ (ap scalar_raw (sym is) ∙ (scalar_next t m may (omega arith) ∙ ap Some (sym len))));
      there = λ s at l. let is = first_known s h at in ap raw is ∙ (raw_plain x (drop 1 s) plain ∙ (ap scalar_raw (sym is) ∙ scalar_there s m at (omega arith)));
      missing = λ s at l.
          let is = first_known s h at in
          subst (λ z. HasNoValue z (Io UnexpectedEof)) (sym is) (plain_missing x (drop 1 s) (Io UnexpectedEof) plain (subst (λ z. HasNoScalar z (Io UnexpectedEof)) is (scalar_missing s m at l)));
    }

-- the bytes behind 0x00, as those behind it and behind its descriptor
behind_zero : (s : List ℕ) (m : ℕ) → drop (1 + m) s ≡ drop m (drop 1 s)
behind_zero s m = sym (drop-drop m 1 s)

pub described_value : {m n : ℕ} {a b : Reading} → Sees 0 (0 ∷ []) a b → Measures 1 m a b → Measures (1 + m) n a b → MeasuresValue (1 + m + n) a b
described_value {m} {n} {a} {b} h p q = record {
  taken = λ t may len.
      let is = first_next t h may (omega arith) in
      ap raw is ∙ (raw_described (drop 1 t) m n (scalar_next t p may (omega arith)) (rw (← behind_zero t m) (scalar_next t q may (omega arith))) ∙ ap Some (sym len));
  there = λ s at l.
      let is = first_known s h at in
      ap raw is ∙ raw_described (drop 1 s) m n (scalar_there s p at (omega arith)) (rw (← behind_zero s m) (scalar_there s q at (omega arith)));
  missing = λ s at l. rw (first_known s h at) (cut s at l (cases_lt (length (drop 1 s)) m));
}
  where
    cut : (s : List ℕ) → a.to_come ≡ Some s → length s < 1 + m + n → (length (drop 1 s) < m) ⊎ (m ≤ length (drop 1 s)) → HasNoValue (0 ∷ drop 1 s) (Io UnexpectedEof)
    cut s at l (inl few) = descriptor_missing (drop 1 s) (Io UnexpectedEof) (scalar_missing s p at few)
    cut s at l (inr more) =
        behind_missing (drop 1 s) m (Io UnexpectedEof) (scalar_there s p at (omega (arith, length-drop 1 s)))
        (subst (λ z. HasNoScalar z (Io UnexpectedEof)) (behind_zero s m) (scalar_missing s q at (omega (arith, length-drop (1 + m) s, length-drop 1 s))))

-- ---- no value

empty_has_none : (s : List ℕ) → length s < 1 → HasNoValue s (Io UnexpectedEof)
unfolding raw
empty_has_none [] l = record { none = refl; named = refl }
empty_has_none (x ∷ s) l = absurd (omega arith)

no_first : {r : Reading} → IsShort 1 r → NoValue r (Io UnexpectedEof)
no_first {r} h = record {
  kind = inl refl;
  why = λ honest s at. empty_has_none s (short_known 1 r s h honest at);
}

pub unseen_first : (buffers : Bool) (a b : Reading) (e : Error) → NotSeen buffers buffers (0 + 1) a b e → NoValue a e ⊎ Fails buffers buffers a b e
unseen_first buffers a b e (inl h) = inl (rw h.0 (no_first h.1))
unseen_first buffers a b e (inr f) = inr f

pub unseen_plain : (buffers : Bool) {x : ℕ} {a b : Reading} (d : Reading) (e : Error) → (x ≡ 0 → ⊥) → Sees 0 (x ∷ []) a b → Stays a b → NoScalar 0 b e ⊎ Fails buffers buffers b d e → NoValue a e ⊎ Fails buffers buffers a d e
unseen_plain buffers {x} {a} {b} d e plain h s (inl n) = inl (record {
  kind = n.kind;
  why = λ honest t at.
      let is = first_known t h at in
      let lacks = n.why (s.steady.honest ∙ honest) t (kept_known a.to_come b.to_come t s.to_come at) in
      subst (λ z. HasNoValue z e) (sym is) (plain_missing x (drop 1 t) e plain (subst (λ z. HasNoScalar z e) is lacks));
})
unseen_plain buffers d e plain h s (inr f) = inr (fails_before buffers buffers d e s f)

pub unseen_descriptor : (buffers : Bool) {a b : Reading} (d : Reading) (e : Error) → Sees 0 (0 ∷ []) a b → Stays a b → NoScalar 1 b e ⊎ Fails buffers buffers b d e → NoValue a e ⊎ Fails buffers buffers a d e
unseen_descriptor buffers {a} {b} d e h s (inl n) = inl (record {
  kind = n.kind;
  why = λ honest t at.
      let lacks = n.why (s.steady.honest ∙ honest) t (kept_known a.to_come b.to_come t s.to_come at) in
      subst (λ z. HasNoValue z e) (sym (first_known t h at)) (descriptor_missing (drop 1 t) e lacks);
})
unseen_descriptor buffers d e h s (inr f) = inr (fails_before buffers buffers d e s f)

pub unseen_behind : (buffers : Bool) {m : ℕ} {a b : Reading} (d : Reading) (e : Error) → Sees 0 (0 ∷ []) a b → Measures 1 m a b → Stays a b → NoScalar (1 + m) b e ⊎ Fails buffers buffers b d e → NoValue a e ⊎ Fails buffers buffers a d e
unseen_behind buffers {m} {a} {b} d e h p s (inl n) = inl (record {
  kind = n.kind;
  why = λ honest t at.
      let lacks = subst (λ z. HasNoScalar z e) (behind_zero t m) (n.why (s.steady.honest ∙ honest) t (kept_known a.to_come b.to_come t s.to_come at)) in
      subst (λ z. HasNoValue z e) (sym (first_known t h at)) (cut t at lacks (cases_lt (length (drop 1 t)) m));
})
  where
    cut : (t : List ℕ) → a.to_come ≡ Some t → HasNoScalar (drop m (drop 1 t)) e → (length (drop 1 t) < m) ⊎ (m ≤ length (drop 1 t)) → HasNoValue (0 ∷ drop 1 t) e
    cut t at lacks (inl few) =
        let gone : HasNoScalar [] e = subst (λ z. HasNoScalar z e) (drop_all m (drop 1 t) (omega arith)) lacks in
        rw gone.named (descriptor_missing (drop 1 t) (Io UnexpectedEof) (scalar_missing t p at few))
    cut t at lacks (inr more) = behind_missing (drop 1 t) m e (scalar_there t p at (omega (arith, length-drop 1 t))) lacks
unseen_behind buffers d e h p s (inr f) = inr (fails_before buffers buffers d e s f)

pub looked_then : {j k n : ℕ} {a b d : Reading} → Looked j a b → Looked k b d → j ≤ n → k ≤ n → Looked n a d
looked_then {j} {k} {n} {a} {b} {d} p q l m =
    let x = p.received in
    let y = q.received in
    record { stays = stays_then p.stays q.stays; received = omega arith }

-- ---- of whole answers

pub plain_values : {x : ℕ} {a b : Reading} (d : Reading) (r : Result ℕ Error) → (x ≡ 0 → ⊥) → Sees 0 (x ∷ []) a b → Stays a b → OnOk r (Stays b d) → IfOk r (λ n. Measures 0 n b d) → IfOk r (λ n. MeasuresValue n a d)
plain_values d (Ok n) plain h s t m = plain_value plain (sees_later h t) (measures_before s m)
plain_values d (Err e) plain h s t m = tt

pub stays_looked : (from : ℕ) (a b : Reading) (r : Result ℕ Error) → IfOk r (λ n. Looked (from + n) a b) → OnOk r (Stays a b)
stays_looked from a b (Ok n) l = l.stays
stays_looked from a b (Err e) l = tt

pub unseen_plains : (buffers : Bool) {x : ℕ} {a b : Reading} (d : Reading) (r : Result ℕ Error) → (x ≡ 0 → ⊥) → Sees 0 (x ∷ []) a b → Stays a b → IfErr r (λ e. NoScalar 0 b e ⊎ Fails buffers buffers b d e) → IfErr r (λ e. NoValue a e ⊎ Fails buffers buffers a d e)
unseen_plains buffers d (Ok n) plain h s f = tt
unseen_plains buffers d (Err e) plain h s f = unseen_plain buffers d e plain h s f

-- ---- the value that is taken

consumed_known : (a b : Option (List ℕ)) (v s : List ℕ) → Consumes a b v → a ≡ Some s → (rest : List ℕ) × (s ≡ v ++ rest)
consumed_known None b v s c e = absurd cc
consumed_known (Some x) None v s c e = absurd c
consumed_known (Some x) (Some y) v s c e = (y, sym (same_Some x s e) ∙ c)

pub value_taken : {n : ℕ} {a b d : Reading} {v : List ℕ} → Looked n a b → MeasuresValue n a b → length v ≡ n → Takes b d v → TakesValue a d v
value_taken {n} {a} {b} {d} {v} l m len step = record {
  value = m.taken v (takes_may step) len;
  next = λ s at.
      let c = consumed_known b.to_come d.to_come v s step.to_come (kept_known a.to_come b.to_come s l.stays.to_come at) in
      let more : length s ≡ length (v ++ c.0) = ap (λ (z : List ℕ). length z) c.1 in
      m.there s at (omega (arith, more, length-append v c.0)) ∙ ap Some (sym len);
  step = looked_takes l step len;
}

pub strict_taken : {a d : Reading} {v : List ℕ} → TakesValue a d v → TakesStrict a v
strict_taken {a} {d} {v} t = record {
  just = λ b rest i at wire single.
      let c = consumed_known a.to_come d.to_come v (b ++ rest) t.step.to_come at in
      let len : length b ≡ length v = same_Some (length b) (length v) (sym (raw_agrees b i wire single rest) ∙ t.next (b ++ rest) at) in
      sym (take_at v c.0 (length v) refl) ∙ (ap (λ (z : List ℕ). take (length v) z) (sym c.1) ∙ take_at b rest (length v) len);
}

has_kept : (n : ℕ) (a b : Option (List ℕ)) → Keeps a b → HasBytes n b → HasBytes n a
has_kept n None b k h = tt
has_kept n (Some x) None k h = absurd k
has_kept n (Some x) (Some y) k h = subst (λ (z : List ℕ). n ≤ length z) k h

pub value_refused : (buffers : Bool) {n : ℕ} {a b : Reading} (d : Reading) (e : Error) → Looked n a b → MeasuresValue n a b → NotTaken true buffers n b d e → NoValue a e ⊎ (Fails true buffers a d e ⊎ ValuePassesCount buffers a e)
value_refused buffers {n} {a} {b} d e l m (inl h) = inl (rw h.0 (record {
  kind = inl refl;
  why = λ honest s at. m.missing s at (short_known n b s h.1 (l.stays.steady.honest ∙ honest) (kept_known a.to_come b.to_come s l.stays.to_come at));
}))
value_refused buffers d e l m (inr (inl f)) = inr (inl (fails_before true buffers d e l.stays f))
value_refused buffers {n} {a} {b} d e l m (inr (inr p)) =
    let same = l.stays.taken in
    inr (inr (record { bytes = n; past = (p.0, p.1, (let q = p.2 in omega arith), has_kept n a.to_come b.to_come l.stays.to_come p.3) }))

-- ---- of the bytes that are answered

pub values_taken : {A : Type 0} (items : A → List ℕ) {n : ℕ} {a b : Reading} (d : Reading) (r : Result A Error) → Looked n a b → MeasuresValue n a b → IfOk r (λ v. (length (items v) ≡ n) × Takes b d (items v)) → IfOk r (λ v. TakesValue a d (items v))
values_taken items d (Ok v) l m h = value_taken l m h.0 h.1
values_taken items d (Err e) l m h = tt

pub stricts_taken : {A : Type 0} (items : A → List ℕ) {n : ℕ} {a b : Reading} (d : Reading) (r : Result A Error) → Looked n a b → MeasuresValue n a b → IfOk r (λ v. (length (items v) ≡ n) × Takes b d (items v)) → IfOk r (λ v. TakesStrict a (items v))
stricts_taken items d (Ok v) l m h = strict_taken (value_taken l m h.0 h.1)
stricts_taken items d (Err e) l m h = tt

pub values_refused : {A : Type 0} (buffers : Bool) {n : ℕ} {a b : Reading} (d : Reading) (r : Result A Error) → Looked n a b → MeasuresValue n a b → IfErr r (λ e. NotTaken true buffers n b d e) → IfErr r (λ e. NoValue a e ⊎ (Fails true buffers a d e ⊎ ValuePassesCount buffers a e))
values_refused buffers d (Ok v) l m h = tt
values_refused buffers d (Err e) l m h = value_refused buffers d e l m h
