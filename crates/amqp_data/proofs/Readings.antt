-- Steps of a reader, one after the other.
use Rattle.std.proofs.Common.{◌≡◌, ℕ, ◌+◌, ◌^◌, ◌≤◌, ◌<◌, Bool, List, [], ◌∷◌, ◌++◌, length, Option, Some, None, refl, sym, ap, ◌∙◌, arith, append_assoc, IsTrue, ◌⊎◌, inl, inr, Err}
use Rattle.std.proofs.lemmas.List.{length-append, take_all}
use Rattle.std.specs.Io.KnownBytes.{Consumes, Keeps}
use Rattle.std.specs.declared.io.ErrorKind.TheVariants.{UnexpectedEof, Other}
use Rattle.amqp_base.specs.declared.error.Error.{Error}
use Rattle.amqp_base.specs.declared.error.Error.TheVariants.{Io, OutOfMemory}
use Rattle.amqp_base.specs.Refusals.{IsDevice}
use Rattle.amqp_read.specs.Reading.{Reading, Agree, Steady, Takes, Stays}
use Rattle.amqp_read.specs.Steps.{IsShort, HasBytes, NotTaken}
use Rattle.amqp_base.specs.Faults.{IsFault}
use Rattle.amqp_data.specs.Excuses.{Overfull, Excused, Advances, IsCause, no_memory, faulted, uncounted}
use Rattle.amqp_base.specs.Parse.{Parsed}
use Rattle.amqp_data.specs.Steps.{Rejects, Unread}
use Rattle.amqp_data.proofs.Received.{agree_then, left_then}

pub steady_same : (r : Reading) → Steady r r
steady_same r = record { honest = refl; origin = refl; faults = omega arith; taken = omega arith }

pub steady_then : (a b c : Reading) → Steady a b → Steady b c → Steady a c
steady_then a b c p q = record { honest = q.honest ∙ p.honest; origin = q.origin ∙ p.origin; faults = omega (arith, p.faults, q.faults); taken = omega (arith, p.taken, q.taken) }

keeps_same : (k : Option (List ℕ)) → Keeps k k
keeps_same None = tt
keeps_same (Some s) = refl

pub stays_same : (r : Reading) → Stays r r
stays_same r = record { to_come = keeps_same r.to_come; taken = refl; received = take_all (length r.received) r.received (omega arith); steady = steady_same r }

consumes_nothing : (k : Option (List ℕ)) → Consumes k k []
consumes_nothing None = tt
consumes_nothing (Some s) = refl

agree_none : (s : List ℕ) → Agree s []
agree_none [] = tt
agree_none (x ∷ s) = tt

pub takes_nothing : (r : Reading) → Takes r r []
takes_nothing r = record { to_come = consumes_nothing r.to_come; taken = omega arith; received = refl; agrees = agree_none r.received; steady = steady_same r }

consumes_then : (a b c : Option (List ℕ)) (x y : List ℕ) → Consumes a b x → Consumes b c y → Consumes a c (x ++ y)
consumes_then None b c x y p q = tt
consumes_then (Some s) None c x y p q = absurd p
consumes_then (Some s) (Some t) None x y p q = absurd q
consumes_then (Some s) (Some t) (Some u) x y p q = p ∙ (ap (λ (z : List ℕ). x ++ z) q ∙ sym (append_assoc x y u))

pub takes_then : (a b c : Reading) (x y : List ℕ) → Takes a b x → Takes b c y → Takes a c (x ++ y)
takes_then a b c x y p q = record {
  to_come = consumes_then a.to_come b.to_come c.to_come x y p.to_come q.to_come;
  taken = omega (arith, p.taken, q.taken, length-append x y);
  received = left_then a.received b.received c.received x y p.received q.received;
  agrees = agree_then a.received x y p.agrees (rw p.received at q.agrees);
  steady = steady_then a b c p.steady q.steady;
}

keeps_consumes : (k l : Option (List ℕ)) → Keeps k l → Consumes k l []
keeps_consumes None l h = tt
keeps_consumes (Some s) None h = absurd h
keeps_consumes (Some s) (Some t) h = sym h

pub onward : {old new : Reading} {x : List ℕ} → Takes old new x → Advances old new
onward {x = x} t = record { consumed = x; rest = t.to_come; taken = t.taken; honest = t.steady.honest; origin = t.steady.origin; faults = t.steady.faults }

pub stayed : {old new : Reading} → Stays old new → Advances old new
stayed {old = old} {new = new} s = record { consumed = []; rest = keeps_consumes old.to_come new.to_come s.to_come; taken = omega (arith, s.taken); honest = s.steady.honest; origin = s.steady.origin; faults = s.steady.faults }

pub advances_same : (r : Reading) → Advances r r
advances_same r = onward (takes_nothing r)

pub advances_then : (a b c : Reading) → Advances a b → Advances b c → Advances a c
advances_then a b c p q = record {
  consumed = p.consumed ++ q.consumed;
  rest = consumes_then a.to_come b.to_come c.to_come p.consumed q.consumed p.rest q.rest;
  taken = omega (arith, p.taken, q.taken, length-append p.consumed q.consumed);
  honest = q.honest ∙ p.honest;
  origin = q.origin ∙ p.origin;
  faults = omega (arith, p.faults, q.faults);
}

-- known bytes of which some were consumed
known_rest : (k l : Option (List ℕ)) (s x : List ℕ) → k ≡ Some s → Consumes k l x → (rest : List ℕ) × (l ≡ Some rest) × (s ≡ x ++ rest)
known_rest None l s x e c = absurd cc
known_rest (Some t) None s x e c = absurd c
known_rest (Some t) (Some u) s x e c = let same : t ≡ s = cc in (u, refl, sym same ∙ c)

pub behind : (old new : Reading) (s x : List ℕ) → Takes old new x → old.to_come ≡ Some s → (rest : List ℕ) × (new.to_come ≡ Some rest) × (s ≡ x ++ rest)
behind old new s x t e = known_rest old.to_come new.to_come s x e t.to_come

-- the bytes can't all be counted, if they couldn't before some were consumed
overfull_known : (m n : ℕ) (k l : Option (List ℕ)) (x : List ℕ) → Consumes k l x → n ≡ m + length x → Overfull n l → Overfull m k
overfull_known m n None l x c e o = tt
overfull_known m n (Some s) None x c e o = absurd c
overfull_known m n (Some s) (Some t) x c e o = omega (arith, o, e, ap (λ (z : List ℕ). length z) c, length-append x t)

pub overfull_before : (old mid : Reading) (x : List ℕ) → Takes old mid x → Overfull mid.taken mid.to_come → Overfull old.taken old.to_come
overfull_before old mid x t o = overfull_known old.taken mid.taken old.to_come mid.to_come x t.to_come t.taken o

-- an excuse of a later step is one of the whole
pub excused_before : {grows buffers : Bool} (old mid new : Reading) (x : List ℕ) (e : Error) → Takes old mid x → Excused grows buffers mid new e → Excused grows buffers old new e
excused_before old mid new x e t (no_memory p q) = no_memory p q
excused_before old mid new x e t (faulted i p q) = faulted i (let s = t.steady.faults in omega (arith, s, p)) q
excused_before old mid new x e t (uncounted p q o) = uncounted p q (overfull_before old mid x t o)

-- more may be refused for want of memory
pub excused_more : {a b buffers : Bool} (old new : Reading) (e : Error) → (IsTrue a → IsTrue b) → Excused a buffers old new e → Excused b buffers old new e
excused_more old new e h (no_memory p q) = no_memory p (h q)
excused_more old new e h (faulted i p q) = faulted i p q
excused_more old new e h (uncounted p q o) = uncounted p q o

overfull_of : (n m : ℕ) (k : Option (List ℕ)) → 2 ^ 64 ≤ m + n → HasBytes n k → Overfull m k
overfull_of n m None l h = tt
overfull_of n m (Some s) l h = omega (arith, l, h)

-- n bytes that weren't consumed: there were fewer, or there is an excuse
pub unread_why : {grows buffers : Bool} (n : ℕ) (old new : Reading) (e : Error) → NotTaken grows buffers n old new e → ((e ≡ Io UnexpectedEof) × IsShort n old) ⊎ Excused grows buffers old new e
unread_why n old new e (inl p) = inl p
unread_why n old new e (inr (inl (inl p))) = inr (no_memory p.0 p.1)
unread_why n old new e (inr (inl (inr p))) = inr (faulted p.0 p.1 p.2)
unread_why n old new e (inr (inr p)) = inr (uncounted p.0 p.1 (overfull_of n old.taken old.to_come p.2 p.3))

not_eof : (e : Error) → e ≡ Io UnexpectedEof → IsDevice e → ⊥
not_eof e p d = let q : IsDevice (Io UnexpectedEof) = rw p at d in q.0 refl

not_other : (e : Error) → e ≡ Io Other → IsDevice e → ⊥
not_other e p d = let q : IsDevice (Io Other) = rw p at d in q.1 refl

not_memory : (e : Error) → e ≡ OutOfMemory → IsDevice e → ⊥
not_memory e p d = let q : IsDevice OutOfMemory = rw p at d in q

pub unread_device : {grows buffers : Bool} (n : ℕ) (old new : Reading) (e : Error) → NotTaken grows buffers n old new e → IsDevice e → old.faults < new.faults
unread_device n old new e (inl p) d = absurd (not_eof e p.0 d)
unread_device n old new e (inr (inl (inl p))) d = absurd (not_memory e p.0 d)
unread_device n old new e (inr (inl (inr p))) d = p.1
unread_device n old new e (inr (inr p)) d = absurd (not_other e p.0 d)

pub unread_memory : {grows buffers : Bool} (n : ℕ) (old new : Reading) (e : Error) → NotTaken grows buffers n old new e → e ≡ OutOfMemory → IsTrue grows
unread_memory n old new e (inl p) m = absurd cc (m, p.0)
unread_memory n old new e (inr (inl (inl p))) m = p.1
unread_memory n old new e (inr (inl (inr p))) m = let i : IsFault new.last_fault OutOfMemory = rw m at p.0 in absurd i
unread_memory n old new e (inr (inr p)) m = absurd cc (m, p.0)

device_cause : (e : Error) → IsDevice e → IsCause e
device_cause OutOfMemory d = tt
device_cause (Io kind) d = d
device_cause _ d = d

memory_cause : (e : Error) → e ≡ OutOfMemory → IsCause e
memory_cause e m = rw m tt

-- bytes that aren't there are what the parse lacks
pub unread_rejects : {A : Type 0} {grows buffers : Bool} (parse : List ℕ → Parsed A) (n : ℕ) (old new : Reading) (e : Error)
    → ((s : List ℕ) → length s < n → parse s ≡ Err (Io UnexpectedEof)) → Unread grows buffers n old new e → Rejects grows buffers parse old new e
unread_rejects {grows = grows} {buffers = buffers} parse n old new e short u = record {
  why = λ s at h. tell s at h (unread_why n old new e u.why);
  steady = stayed u.stays;
  device = unread_device n old new e u.why;
  memory = unread_memory n old new e u.why;
}
  where
    tell : (s : List ℕ) → old.to_come ≡ Some s → IsTrue old.honest → ((e ≡ Io UnexpectedEof) × IsShort n old) ⊎ Excused grows buffers old new e → (parse s ≡ Err e) ⊎ Excused grows buffers old new e
    tell s at h (inl p) = let l : length s < n = rw at at (p.1 h) in inl (short s l ∙ ap Err (sym p.0))
    tell s at h (inr x) = inr x

-- a later step's refusal is the whole's
pub rejects_then : {A B : Type 0} {grows buffers : Bool} (whole : List ℕ → Parsed B) (parse : List ℕ → Parsed A) (old mid new : Reading) (x : List ℕ) (e : Error) → Takes old mid x
    → ((s : List ℕ) → parse s ≡ Err e → whole (x ++ s) ≡ Err e) → Rejects grows buffers parse mid new e → Rejects grows buffers whole old new e
rejects_then {grows = grows} {buffers = buffers} whole parse old mid new x e t hand n = record {
  why = λ s at h.
      let b = behind old mid s x t at in
      tell s b.0 b.2 (n.why b.0 b.1 (t.steady.honest ∙ h));
  steady = advances_then old mid new (onward t) n.steady;
  device = λ d. let f = t.steady.faults in let g = n.device d in omega (arith, f, g);
  memory = n.memory;
}
  where
    tell : (s r : List ℕ) → s ≡ x ++ r → (parse r ≡ Err e) ⊎ Excused grows buffers mid new e → (whole s ≡ Err e) ⊎ Excused grows buffers old new e
    tell s r q (inl p) = inl (ap whole q ∙ hand r p)
    tell s r q (inr y) = inr (excused_before old mid new x e t y)

-- a refusal that the bytes call for
pub rejects_here : {A : Type 0} {grows buffers : Bool} (parse : List ℕ → Parsed A) (r : Reading) (e : Error) → (IsCause e → ⊥) → ((s : List ℕ) → parse s ≡ Err e) → Rejects grows buffers parse r r e
rejects_here parse r e no_device h = record { why = λ s at f. inl (h s); steady = advances_same r; device = λ d. absurd (no_device (device_cause e d)); memory = λ m. absurd (no_device (memory_cause e m)) }

pub rejects_after : {A : Type 0} {grows buffers : Bool} (parse : List ℕ → Parsed A) (old new : Reading) (x : List ℕ) (e : Error) → Takes old new x → (IsCause e → ⊥) → ((s : List ℕ) → parse (x ++ s) ≡ Err e) → Rejects grows buffers parse old new e
rejects_after parse old new x e t no_device h = record {
  why = λ s at f. let b = behind old new s x t at in inl (ap parse b.2 ∙ h b.0);
  steady = onward t;
  device = λ d. absurd (no_device (device_cause e d));
  memory = λ m. absurd (no_device (memory_cause e m));
}

pub rejects_more : {A : Type 0} {a b buffers : Bool} (parse : List ℕ → Parsed A) (old new : Reading) (e : Error) → (IsTrue a → IsTrue b) → Rejects a buffers parse old new e → Rejects b buffers parse old new e
rejects_more {a = a} {b = b} {buffers = buffers} parse old new e m n = record { why = λ s at h. tell s (n.why s at h); steady = n.steady; device = n.device; memory = λ x. m (n.memory x) }
  where
    tell : (s : List ℕ) → (parse s ≡ Err e) ⊎ Excused a buffers old new e → (parse s ≡ Err e) ⊎ Excused b buffers old new e
    tell s (inl p) = inl p
    tell s (inr y) = inr (excused_more old new e m y)
