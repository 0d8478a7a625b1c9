-- Received bytes: what agrees with them, and what is left of them.
use Rattle.std.proofs.Common.{◌≡◌, ℕ, zero, suc, ◌≤◌, ◌<◌, max, List, [], ◌∷◌, ◌++◌, length, take, drop, Option, Some, None, refl, sym, ap, ◌∙◌, arith, inl, inr, ◌⊎◌}
use Rattle.std.proofs.lemmas.List.{length-append, append-nil, take-append-drop, drop_all, drop-drop, take_all, take_at}
use Rattle.std.proofs.lemmas.Option.{same_Some}
use Rattle.std.specs.Io.KnownBytes.{Keeps, Consumes}
use Rattle.amqp_read.specs.Raw.{MayBeTaken}
use Rattle.amqp_read.specs.Reading.{Reading, Agree, Stays, Takes}
use Rattle.amqp_read.specs.Steps.{StartsWith, Shows, ShowsBehind, ComeBehind, Admits, MayCome}

pub agree_then : (s x y : List ℕ) → Agree s x → Agree (drop (length x) s) y → Agree s (x ++ y)
agree_then [] x y p q = tt
agree_then (z ∷ s) [] y p q = q
agree_then (z ∷ s) (w ∷ x) y p q = (p.0, agree_then s x y p.1 q)

agree_longer : (s more x : List ℕ) → Agree (s ++ more) x → Agree s x
agree_longer [] more x p = tt
agree_longer (z ∷ s) more [] p = tt
agree_longer (z ∷ s) more (w ∷ x) p = (p.0, agree_longer s more x p.1)

-- what agrees with more bytes agrees with those in front
pub agree_front : (s t x : List ℕ) → take (length s) t ≡ s → Agree t x → Agree s x
agree_front s t x h p =
    let q : t ≡ s ++ drop (length s) t = sym (take-append-drop (length s) t) ∙ ap (λ (z : List ℕ). z ++ drop (length s) t) h in
    agree_longer s (drop (length s) t) x (rw q at p)

-- what is left of bytes that lost x and then y
pub left_then : (a b c x y : List ℕ) → b ≡ drop (length x) a → c ≡ drop (length y) b → c ≡ drop (length (x ++ y)) a
left_then a b c x y p q = q ∙ (ap (λ (z : List ℕ). drop (length y) z) p ∙ (drop-drop (length y) (length x) a ∙ ap (λ (n : ℕ). drop n a) (sym (length-append x y))))

lt_or_le : (n m : ℕ) → (n < m) ⊎ (m ≤ n)
lt_or_le n m = grind arith

-- bytes that were received by a look at n of them leave nothing more behind n that are consumed
pub left_behind : (n k : ℕ) (s t : List ℕ) → take (length s) t ≡ s → length t ≤ max (length s) n → n ≤ k → drop k t ≡ drop k s
left_behind n k s t h l m = tell (lt_or_le (length s) n)
  where
    tell : (length s < n) ⊎ (n ≤ length s) → drop k t ≡ drop k s
    tell (inl p) = drop_all k t (omega (arith, l, m, p)) ∙ sym (drop_all k s (omega (arith, m, p)))
    tell (inr p) = ap (λ (z : List ℕ). drop k z) (sym (take_all (length s) t (omega (arith, l, p))) ∙ h)

pub keeps_known : (k l : Option (List ℕ)) (s : List ℕ) → Keeps k l → k ≡ Some s → l ≡ Some s
keeps_known None l s h e = absurd cc
keeps_known (Some t) None s h e = absurd h
keeps_known (Some t) (Some u) s h e = ap Some h ∙ e

-- the first byte
pub first : (s : List ℕ) (b : ℕ) → take 1 s ≡ b ∷ [] → (rest : List ℕ) × (s ≡ b ∷ rest)
first [] b h = absurd cc
first (x ∷ s) b h = (s, let q : x ≡ b = head_is x b h in ap (λ (z : ℕ). z ∷ s) q)
  where
    head_is : (x b : ℕ) → (x ∷ []) ≡ (b ∷ []) → x ≡ b
    head_is x b h = cc

pub shown_known : (r : Reading) (s : List ℕ) (b : ℕ) → Shows r (b ∷ []) → r.to_come ≡ Some s → (rest : List ℕ) × (s ≡ b ∷ rest)
shown_known r s b h e = tell r.to_come r.received h e
  where
    tell : (k : Option (List ℕ)) (received : List ℕ) → StartsWith k received (b ∷ []) → k ≡ Some s → (rest : List ℕ) × (s ≡ b ∷ rest)
    tell None received h e = absurd cc
    tell (Some t) received h e = let q : t ≡ s = same_Some t s e in first s b (rw q at h)

-- ---- which bytes may come

-- known bytes begin with what stands at their front
may_of : (k : Option (List ℕ)) (received t rest : List ℕ) → k ≡ Some (t ++ rest) → Admits k received t
may_of None received t rest e = absurd cc
may_of (Some s) received t rest e = let q : s ≡ t ++ rest = same_Some s (t ++ rest) e in rw q (take_at t rest (length t) refl)

pub may_known : (r : Reading) (t rest : List ℕ) → r.to_come ≡ Some (t ++ rest) → MayCome r t
may_known r t rest e = may_of r.to_come r.received t rest e

may_be : (k l : Option (List ℕ)) (received x : List ℕ) → Consumes k l x → Agree received x → Admits k received x
may_be None l received x c a = a
may_be (Some s) None received x c a = absurd c
may_be (Some s) (Some u) received x c a = may_of (Some s) received x u (ap Some c)

-- what was consumed was what may come
pub may_taken : (old new : Reading) (x : List ℕ) → Takes old new x → MayCome old x
may_taken old new x t = may_be old.to_come new.to_come old.received x t.to_come t.agrees

agreed_first : (s t : List ℕ) (b : ℕ) → take 1 s ≡ b ∷ [] → Agree s t → 1 ≤ length t → (rest : List ℕ) × (t ≡ b ∷ rest)
agreed_first [] t b p q l = absurd cc
agreed_first (x ∷ s) [] b p q l = absurd (omega (arith, l))
agreed_first (x ∷ s) (y ∷ t) b p q l = first (y ∷ t) b (ap (λ (z : ℕ). z ∷ []) (sym q.0) ∙ p)

known_first : (s t : List ℕ) (b : ℕ) → take 1 s ≡ b ∷ [] → take (length t) s ≡ t → 1 ≤ length t → (rest : List ℕ) × (t ≡ b ∷ rest)
known_first [] t b p q l = absurd cc
known_first (x ∷ s) [] b p q l = absurd (omega (arith, l))
known_first (x ∷ s) (y ∷ t) b p q l = first (y ∷ t) b (head_is x y (take (length t) s) t q ∙ p)
  where
    head_is : (x y : ℕ) (s t : List ℕ) → (x ∷ s) ≡ (y ∷ t) → (y ∷ []) ≡ (x ∷ [])
    head_is x y s t h = cc

-- bytes that may come begin with the byte that is shown
pub shown_first : (r : Reading) (t : List ℕ) (b : ℕ) → Shows r (b ∷ []) → MayCome r t → 1 ≤ length t → (rest : List ℕ) × (t ≡ b ∷ rest)
shown_first r t b h m l = tell r.to_come r.received h m
  where
    tell : (k : Option (List ℕ)) (received : List ℕ) → StartsWith k received (b ∷ []) → Admits k received t → (rest : List ℕ) × (t ≡ b ∷ rest)
    tell None received h m = agreed_first received t b h m l
    tell (Some s) received h m = known_first s t b h m l

-- ---- what may be taken next

admits_before : (k l : Option (List ℕ)) (s u t : List ℕ) → Keeps k l → Agree s t → Admits l u t → Admits k s t
admits_before None l s u t h a m = a
admits_before (Some x) None s u t h a m = absurd h
admits_before (Some x) (Some y) s u t h a m = ap (λ (z : List ℕ). take (length t) z) (sym h) ∙ m

-- what may be taken behind a look might have been taken before it
pub may_before : (old new : Reading) (t : List ℕ) → Stays old new → MayBeTaken new t → MayBeTaken old t
may_before old new t s m =
    let a = agree_front old.received new.received t s.received m.0 in
    (a, admits_before old.to_come new.to_come old.received new.received t s.to_come a m.1)

-- what was consumed might be taken
pub may_be_taken : (old new : Reading) (t : List ℕ) → Takes old new t → MayBeTaken old t
may_be_taken old new t s = (s.agrees, may_taken old new t s)

pub agree_nothing : (s : List ℕ) → Agree s []
agree_nothing [] = tt
agree_nothing (x ∷ s) = tt

agree_known : (s t : List ℕ) → take (length t) s ≡ t → Agree s t
agree_known [] t h = tt
agree_known (x ∷ s) [] h = tt
agree_known (x ∷ s) (y ∷ t) h = (cc, agree_known s t cc)

agree_behind : (n : ℕ) (u t b : List ℕ) → Agree u t → take (length b) (drop n u) ≡ b → Agree (drop n t) b
agree_behind n u t [] h k = agree_nothing (drop n t)
agree_behind zero [] t (x ∷ b) h k = absurd cc
agree_behind (suc n) [] t (x ∷ b) h k = absurd cc
agree_behind zero (y ∷ u) [] (x ∷ b) h k = tt
agree_behind (suc n) (y ∷ u) [] (x ∷ b) h k = tt
agree_behind zero (y ∷ u) (z ∷ t) (x ∷ b) h k =
    let p : y ≡ x = cc in
    let q : take (length b) u ≡ b = cc in
    (sym h.0 ∙ p, agree_behind zero u t b h.1 q)
agree_behind (suc n) (y ∷ u) (z ∷ t) (x ∷ b) h k = agree_behind n u t (x ∷ b) h.1 k

next_behind : (n : ℕ) (k : Option (List ℕ)) (u t b : List ℕ) → ComeBehind n k u b → Agree u t → Admits k u t → Agree (drop n t) b
next_behind n None u t b h a m = agree_behind n u t b a h
next_behind n (Some s) u t b h a m = agree_behind n s t b (agree_known s t m) h

-- what is shown is in front of whatever is taken next
pub shown_next : (n : ℕ) (r : Reading) (b t : List ℕ) → ShowsBehind n r b → MayBeTaken r t → Agree (drop n t) b
shown_next n r b t h m = next_behind n r.to_come r.received t b h m.0 m.1

-- two that agree go on as the same bytes
pub agree_joins : (x y : List ℕ) → Agree x y → (u : List ℕ) × (v : List ℕ) × (x ++ u ≡ y ++ v)
agree_joins [] y h = (y, [], sym (append-nil y))
agree_joins (a ∷ x) [] h = ([], a ∷ x, append-nil (a ∷ x))
agree_joins (a ∷ x) (b ∷ y) h =
    let o = agree_joins x y h.1 in
    (o.0, o.1, cc (h.0, o.2))
