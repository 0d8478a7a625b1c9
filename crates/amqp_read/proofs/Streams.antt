-- What asking a source for more does to what is to come.
use Rattle.std.proofs.Common.{◌≡◌, ◌⊎◌, ◌<◌, ◌≤◌, ◌+◌, ◌++◌, [], ◌∷◌, List, ℕ, zero, suc, length, take, drop, arith, Option, Some, None, refl, sym, ap, ◌∙◌, append_assoc, Bool, true, false, IsTrue, MatchOption, IfSome, IfOk, OnOk, Result, Ok, Err, inl, inr, subst, max}
use Rattle.std.specs.Borrow.{GName}
use Rattle.std.specs.Io.KnownBytes.{Consumes, Keeps, prepend_known}
use Rattle.std.proofs.lemmas.List.{drop-append-le, take-append-le, drop_all, take_all, length-append, length-take-le, drop-drop, take-append-drop}
use Rattle.std.proofs.lemmas.Bool.{cases_lt}
use Rattle.std.proofs.Math.Seq.{take-add, take-append_seam, take-length}
use Rattle.std.specs.declared.io.ErrorKind.{ErrorKind}
use Rattle.std.specs.declared.io.ErrorKind.TheVariants as kinds
use Rattle.amqp_base.specs.declared.error.Error.{Error}
use Rattle.amqp_base.specs.declared.error.Error.TheVariants.{InvalidFormatCode, InvalidLength, InvalidUtf8Encoding, InvalidValue, Io, Message, OutOfMemory, SequenceLengthMismatch}
use Rattle.amqp_base.specs.Faults.{refusal_of, IsFault}
use Rattle.amqp_read.specs.Reading.{Reading, Agree, Stays, Steady, Takes}
use Rattle.amqp_read.specs.Steps.{Looked, IsShort, ShortOf, Passes, PassesSome, MayCome, Admits, Fails, Failed}
use Rattle.amqp_read.specs.Streaming.{reads, with_received, IsApart}

-- bytes that go from the source to the received ones are to come as before
pub still_to_come : (u got : List ℕ) (r r' : Option (List ℕ)) → Consumes r r' got → Keeps (prepend_known u r) (prepend_known (u ++ got) r')
still_to_come u got None r' h = tt
still_to_come u got (Some xs) None h = absurd h
still_to_come u got (Some xs) (Some ys) h = append_assoc u got ys ∙ ap (λ (z : List ℕ). u ++ z) (sym h)

-- what was received goes to the end of what is unread
pub received_stays : (u got : List ℕ) (r r' : Option (List ℕ)) (t f f' : ℕ) (l l' : Option ErrorKind) (h h' : Bool) (o o' : List GName) →
    Consumes r r' got → f' ≡ f → h' ≡ h → o' ≡ o → Stays (reads u r t f l h o) (reads (u ++ got) r' t f' l' h' o')
received_stays u got r r' t f f' l l' h h' o o' c faults honest origin = record {
  to_come = still_to_come u got r r' c;
  taken = refl;
  received = take-append_seam u got;
  steady = record { honest = honest; origin = origin; faults = omega arith; taken = omega arith };
}

keeps_behind : (u : List ℕ) (r r' : Option (List ℕ)) → Keeps r r' → Keeps (prepend_known u r) (prepend_known u r')
keeps_behind u None r' h = tt
keeps_behind u (Some xs) None h = absurd h
keeps_behind u (Some xs) (Some ys) h = ap (λ (z : List ℕ). u ++ z) h

-- a fault leaves what is to come
pub fault_stays : (u : List ℕ) (r r' : Option (List ℕ)) (t f f' : ℕ) (l l' : Option ErrorKind) (h h' : Bool) (o o' : List GName) →
    Keeps r r' → f ≤ f' → h' ≡ h → o' ≡ o → Stays (reads u r t f l h o) (reads u r' t f' l' h' o')
fault_stays u r r' t f f' l l' h h' o o' kept faults honest origin = record {
  to_come = keeps_behind u r r' kept;
  taken = refl;
  received = take-length u;
  steady = record { honest = honest; origin = origin; faults = faults; taken = omega arith };
}

-- a fault is want of memory, or the source's
fault_failed : (last : Option ErrorKind) (e : Error) → IsFault last e → Failed e
fault_failed last (Io kind) h = tt
fault_failed last OutOfMemory h = tt
fault_failed last (Message m) h = absurd h
fault_failed last InvalidFormatCode h = absurd h
fault_failed last InvalidValue h = absurd h
fault_failed last InvalidUtf8Encoding h = absurd h
fault_failed last SequenceLengthMismatch h = absurd h
fault_failed last InvalidLength h = absurd h

-- what a buffering reader refuses, by itself
pub fails_failed : (old new : Reading) (e : Error) → Fails true true old new e → Failed e × IsTrue true
fails_failed old new e (inl m) = rw m.0 (tt, refl)
fails_failed old new e (inr f) = (fault_failed new.last_fault e f.0, refl)

-- a fault, as a refusal
pub fault_fails : {grows : Bool} {old new before : ℕ} {after : Option ErrorKind} (kind : ErrorKind) → old ≡ before → (new ≡ old + 1) ⊎ ((kind ≡ kinds.OutOfMemory) × (grows ≡ true) × (new ≡ old)) → (old < new → after ≡ Some kind) →
    ((refusal_of kind ≡ OutOfMemory) × IsTrue true) ⊎ (IsFault after (refusal_of kind) × (before < new) × IsTrue true)
unfolding refusal_of
fault_fails kinds.OutOfMemory same c m = inl (refl, refl)
fault_fails {old} {new} kind same (inl e) m = let up : old < new = omega arith in inr (m up, omega arith, refl)
fault_fails kind same (inr e) m = let k = e.0 in absurd cc

-- the bytes of a vector behind its first ones, where it was cut behind what was read
pub cut_behind : (old new : List ℕ) (start have got : ℕ) → take have new ≡ old → have ≡ length old → start ≤ have → drop start (take (have + got) new) ≡ drop start old ++ take got (drop have new)
cut_behind old new start have got front len within =
    let e : take (have + got) new ≡ old ++ take got (drop have new) = take-add have got new ∙ ap (λ (z : List ℕ). z ++ take got (drop have new)) front in
    ap (λ (z : List ℕ). drop start z) e ∙ drop-append-le start old _ (omega arith)

keeps_same : (known : Option (List ℕ)) → Keeps known known
keeps_same None = tt
keeps_same (Some s) = refl

keeps_consumes : (a b d : Option (List ℕ)) (bytes : List ℕ) → Keeps a b → Consumes b d bytes → Consumes a d bytes
keeps_consumes None b d bytes p q = tt
keeps_consumes (Some x) None d bytes p q = absurd p
keeps_consumes (Some x) (Some y) None bytes p q = absurd q
keeps_consumes (Some x) (Some y) (Some z) bytes p q = sym p ∙ q

agree_front : (k : ℕ) (xs ys : List ℕ) → Agree xs ys → Agree (take k xs) ys
agree_front zero xs ys h = tt
agree_front (suc k) [] ys h = tt
agree_front (suc k) (x ∷ xs) [] h = tt
agree_front (suc k) (x ∷ xs) (y ∷ ys) h = (h.0, agree_front k xs ys h.1)

agree_taken : (k : ℕ) (xs : List ℕ) → Agree xs (take k xs)
agree_taken zero [] = tt
agree_taken zero (x ∷ xs) = tt
agree_taken (suc k) [] = tt
agree_taken (suc k) (x ∷ xs) = (refl, agree_taken k xs)

-- of bytes that only grew up to n, as many are left behind n
drop_grown : (n : ℕ) (xs ys : List ℕ) → take (length xs) ys ≡ xs → length ys ≤ max (length xs) n → drop n ys ≡ drop n xs
drop_grown n xs ys front few = elim (cases_lt (length xs) n) [
  | inr within ↦ let same : take (length xs) ys ≡ ys = take_all (length xs) ys (omega arith) in ap (λ (z : List ℕ). drop n z) (sym same ∙ front)
  | inl more ↦ drop_all n ys (omega arith) ∙ sym (drop_all n xs (omega arith))
]

pub steady_then : {a b d : Reading} → Steady a b → Steady b d → Steady a d
steady_then {a} {b} {d} p q =
    let pf = p.faults in let qf = q.faults in let pt = p.taken in let qt = q.taken in
    record { honest = q.honest ∙ p.honest; origin = q.origin ∙ p.origin; faults = omega arith; taken = omega arith }

pub looked_none : (n : ℕ) (r : Reading) → Looked n r r
looked_none n r = record {
  stays = record {
    to_come = keeps_same r.to_come;
    taken = refl;
    received = take-length r.received;
    steady = record { honest = refl; origin = refl; faults = omega arith; taken = omega arith };
  };
  received = omega arith;
}

-- what was looked at is consumed
pub looked_takes : {n : ℕ} {a b d : Reading} {bytes : List ℕ} → Looked n a b → Takes b d bytes → length bytes ≡ n → Takes a d bytes
looked_takes {n} {a} {b} {d} {bytes} p q len =
    let stays = p.stays in let pt = stays.taken in let qt = q.taken in
    record {
      to_come = keeps_consumes a.to_come b.to_come d.to_come bytes stays.to_come q.to_come;
      taken = omega arith;
      received = q.received ∙ drop_grown (length bytes) a.received b.received stays.received (rw len p.received);
      agrees = subst (λ (z : List ℕ). Agree z bytes) stays.received (agree_front (length a.received) b.received bytes q.agrees);
      steady = steady_then stays.steady q.steady;
    }

front_consumed : (n : ℕ) (u : List ℕ) (r : Option (List ℕ)) → Consumes (prepend_known u r) (prepend_known (drop n u) r) (take n u)
front_consumed n u None = tt
front_consumed n u (Some s) = ap (λ (z : List ℕ). z ++ s) (sym (take-append-drop n u)) ∙ append_assoc (take n u) (drop n u) s

-- unread bytes are consumed
pub consumed : (n : ℕ) (u v : List ℕ) (r : Option (List ℕ)) (t f : ℕ) (l : Option ErrorKind) (h : Bool) (o : List GName) {old : Reading} →
    reads u r t f l h o ≡ old → v ≡ drop n u → n ≤ length old.received → Takes old (reads v r (t + n) f l h o) (take n old.received)
consumed n u v r t f l h o e d counted =
    let within : n ≤ length u = rw (ap (λ (z : Reading). length z.received) e) counted in
    subst (λ (z : Reading). Takes z (reads v r (t + n) f l h o) (take n z.received)) e (rw d (record {
      to_come = front_consumed n u r;
      taken = omega (arith, length-take-le n u within);
      received = ap (λ (k : ℕ). drop k u) (sym (length-take-le n u within));
      agrees = agree_taken n u;
      steady = record { honest = refl; origin = refl; faults = omega arith; taken = omega arith };
    }))

consumes_known : (r r' : Option (List ℕ)) (bytes : List ℕ) → Consumes r r' bytes → Consumes (prepend_known [] r) (prepend_known [] r') bytes
consumes_known None r' bytes h = tt
consumes_known (Some s) None bytes h = absurd h
consumes_known (Some s) (Some z) bytes h = h

admits_front : (n : ℕ) (old : Option (List ℕ)) (received u : List ℕ) (r : Option (List ℕ)) → Keeps old (prepend_known u r) → take (length received) u ≡ received → n ≤ length u → Admits old received (take n u)
admits_front n None received u r keeps front within = subst (λ (z : List ℕ). Agree z (take n u)) front (agree_front (length received) u (take n u) (agree_taken n u))
admits_front n (Some x) received u None keeps front within = absurd keeps
admits_front n (Some x) received u (Some s) keeps front within = rw (length-take-le n u within) (ap (λ (z : List ℕ). take n z) (sym keeps) ∙ take-append-le n u s within)

-- the front of what is unread, behind a look
pub front_may_come : (n : ℕ) (u : List ℕ) (r : Option (List ℕ)) (t f : ℕ) (l : Option ErrorKind) (h : Bool) (o : List GName) {old new : Reading} → reads u r t f l h o ≡ new → Stays old new → n ≤ length u → MayCome old (take n u)
front_may_come n u r t f l h o {old} e stays within =
    let keeps = stays.to_come in let front = stays.received in
    admits_front n old.to_come old.received u r (subst (λ (z : Reading). Keeps old.to_come z.to_come) (sym e) keeps) (subst (λ (z : Reading). take (length old.received) z.received ≡ old.received) (sym e) front) within

-- bytes are consumed that were not received before
pub source_taken : (k : ℕ) (u bytes : List ℕ) (r r' : Option (List ℕ)) (t f f' : ℕ) (l l' : Option ErrorKind) (h h' : Bool) (o o' : List GName) {old : Reading} →
    reads u r t f l h o ≡ old → old.received ≡ [] → Consumes r r' bytes → length bytes ≡ k → f' ≡ f → h' ≡ h → o' ≡ o → Takes old (reads u r' (t + k) f' l' h' o') bytes
source_taken k u bytes r r' t f f' l l' h h' o o' e none c len faults honest origin =
    let empty : u ≡ [] = ap (λ (z : Reading). z.received) e ∙ none in
    subst (λ (z : Reading). Takes z (reads u r' (t + k) f' l' h' o') bytes) e (rw empty (record {
      to_come = consumes_known r r' bytes c;
      taken = omega arith;
      received = sym (drop_all (length bytes) [] (omega arith));
      agrees = tt;
      steady = record { honest = honest; origin = origin; faults = omega arith; taken = omega arith };
    }))

agree_self : (xs : List ℕ) → Agree xs xs
agree_self [] = tt
agree_self (x ∷ xs) = (refl, agree_self xs)

front_is_consumed : (bytes : List ℕ) (r : Option (List ℕ)) → Consumes (prepend_known bytes (prepend_known [] r)) (prepend_known [] r) bytes
front_is_consumed bytes None = tt
front_is_consumed bytes (Some s) = refl

-- bytes that stand apart from the buffer are counted
pub apart_counted : (u bytes : List ℕ) (r : Option (List ℕ)) (t f : ℕ) (l : Option ErrorKind) (h : Bool) (o : List GName) {old : Reading} →
    reads u r t f l h o ≡ old → old.received ≡ [] → Takes (with_received bytes old) (reads u r (t + length bytes) f l h o) bytes
apart_counted u bytes r t f l h o e none =
    let empty : u ≡ [] = ap (λ (z : Reading). z.received) e ∙ none in
    subst (λ (z : Reading). Takes (with_received bytes z) (reads u r (t + length bytes) f l h o) bytes) e (rw empty (record {
      to_come = front_is_consumed bytes r;
      taken = refl;
      received = sym (drop_all (length bytes) bytes (omega arith));
      agrees = agree_self bytes;
      steady = record { honest = refl; origin = refl; faults = omega arith; taken = omega arith };
    }))

-- bytes that were received apart from the buffer are consumed
pub apart_takes : {bytes held : List ℕ} {a b d : Reading} → IsApart bytes a b → held ≡ bytes → Takes (with_received held b) d held → Takes a d bytes
apart_takes p same q = looked_takes p.looked (rw (sym same) q) refl

-- a call that looked first reads what a call behind it reads
pub looked_reads : {A E : Type 0} (now : A → List ℕ) (result : Result A E) (d : Reading) {n : ℕ} {a b : Reading} → Looked n a b → IfOk result (λ v. length (now v) ≡ n) → IfOk result (λ v. Takes b d (now v)) → IfOk result (λ v. Takes a d (now v))
looked_reads now (Ok v) d looked len takes = looked_takes looked takes len
looked_reads now (Err e) d looked len takes = tt

consumes_none : (known : Option (List ℕ)) → Consumes known known []
consumes_none None = tt
consumes_none (Some s) = refl

agrees_none : (received : List ℕ) → Agree received []
agrees_none [] = tt
agrees_none (x ∷ xs) = tt

takes_none : (r : Reading) → Takes r r []
takes_none r = record {
  to_come = consumes_none r.to_come;
  taken = omega arith;
  received = refl;
  agrees = agrees_none r.received;
  steady = record { honest = refl; origin = refl; faults = omega arith; taken = omega arith };
}

consumes_then : (a b d : Option (List ℕ)) (x y : List ℕ) → Consumes a b x → Consumes b d y → Consumes a d (x ++ y)
consumes_then None b d x y p q = tt
consumes_then (Some a) None d x y p q = absurd p
consumes_then (Some a) (Some b) None x y p q = absurd q
consumes_then (Some a) (Some b) (Some d) x y p q = p ∙ (ap (λ (z : List ℕ). x ++ z) q ∙ sym (append_assoc x y d))

agree_then : (xs x y : List ℕ) → Agree xs x → Agree (drop (length x) xs) y → Agree xs (x ++ y)
agree_then xs [] y p q = q
agree_then [] (b ∷ x) y p q = tt
agree_then (a ∷ xs) (b ∷ x) y p q = (p.0, agree_then xs x y p.1 q)

takes_then : {a b d : Reading} {x y : List ℕ} → Takes a b x → Takes b d y → Takes a d (x ++ y)
takes_then {a} {b} {d} {x} {y} p q =
    let pt = p.taken in let qt = q.taken in let len = length-append x y in
    record {
      to_come = consumes_then a.to_come b.to_come d.to_come x y p.to_come q.to_come;
      taken = omega arith;
      received = q.received ∙ (ap (λ (z : List ℕ). drop (length y) z) p.received ∙ (drop-drop (length y) (length x) a.received ∙ ap (λ (k : ℕ). drop k a.received) (sym len)));
      agrees = agree_then a.received x y p.agrees (subst (λ (z : List ℕ). Agree z y) p.received q.agrees);
      steady = steady_then p.steady q.steady;
    }

pub passes_then : {j k n : ℕ} {a b d : Reading} → Passes j a b → Passes k b d → j + k ≡ n → Passes n a d
passes_then {j} {k} {n} {a} {b} {d} p q sum =
    let x = p.len in let y = q.len in
    record { bytes = p.bytes ++ q.bytes; len = omega (arith, length-append p.bytes q.bytes); step = takes_then p.step q.step }

-- some were passed, of the most that may be
some_passed : {j n : ℕ} {a b : Reading} → Passes j a b → j ≤ n → PassesSome n a b
some_passed {j} {n} p few = let len = p.len in record { bytes = p.bytes; few = omega arith; step = p.step }

consumes_short : (n m : ℕ) (a b : Option (List ℕ)) (x : List ℕ) → Consumes a b x → ShortOf m b → length x + m ≤ n → ShortOf n a
consumes_short n m None b x p q sum = tt
consumes_short n m (Some a) None x p q sum = absurd p
consumes_short n m (Some a) (Some b) x p q sum = let len : length a ≡ length (x ++ b) = ap (λ (z : List ℕ). length z) p in omega (arith, length-append x b)

pub short_behind : (j m n : ℕ) (a b : Reading) → Passes j a b → IsShort m b → j + m ≤ n → IsShort n a
short_behind j m n a b p short sum = let step = p.step in let len = p.len in λ honest. consumes_short n m a.to_come b.to_come p.bytes step.to_come (short (step.steady.honest ∙ honest)) (omega arith)

-- a refusal behind what was passed
kept_passes : {a b : Reading} → Stays a b → b.received ≡ a.received → Passes 0 a b
kept_passes {a} {b} p same = record {
  bytes = [];
  len = refl;
  step = record {
    to_come = keeps_consumes a.to_come b.to_come b.to_come [] p.to_come (consumes_none b.to_come);
    taken = omega (arith, p.taken);
    received = same;
    agrees = agrees_none a.received;
    steady = p.steady;
  };
}

pub refused_behind : (j n : ℕ) {a b d : Reading} → Passes j a b → j ≤ n → Stays b d → d.received ≡ b.received → PassesSome n a d
refused_behind j n {a} {b} {d} p few stays same = some_passed (passes_then {k = 0} p (kept_passes stays same) (omega arith)) few

pub none_passed : (k : ℕ) (r : Reading) → k ≡ 0 → Passes k r r
none_passed k r e = record { bytes = []; len = sym e; step = takes_none r }

pub refused_at_once : (n : ℕ) (r : Reading) → PassesSome n r r
refused_at_once n r = record { bytes = []; few = omega arith; step = takes_none r }

-- what holds of an answer, once it is known
pub when_some : {A : Type 0} (P : A → Type 0) {o : Option A} {x : A} → IfSome o P → o ≡ Some x → P x
when_some {A} P h e = subst (λ (z : Option A). IfSome z P) e h

-- a front that is shown, or that isn't there
pub front_shown : {A : Type 0} (now : A → List ℕ) (o : Option A) (n : ℕ) (u : List ℕ) (old : Reading) {short : Type 0} →
    MatchOption o (length u < n) (λ b. (n ≤ length u) × (now b ≡ take n u)) → (length u < n → short) → (n ≤ length u → MayCome old (take n u)) →
    MatchOption o short (λ b. (length (now b) ≡ n) × MayCome old (now b))
front_shown now None n u old h none some = none h
front_shown now (Some b) n u old h none some = rw h.1 (length-take-le n u h.0, some h.0)

pub not_full : {short : Type 0} (f : Bool) (n k : ℕ) → (IsTrue f → n ≤ k) → (f ≡ false → short) → k < n → short
not_full true n k full short few = absurd (omega (arith, full refl))
not_full false n k full short few = short refl

pub on_ok : {A E P Q : Type 0} (r : Result A E) → (P → Q) → OnOk r P → OnOk r Q
on_ok (Ok x) f p = f p
on_ok (Err e) f p = tt
