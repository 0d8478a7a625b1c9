-- Looks further ahead, one behind the other.
use Rattle.std.proofs.Common.{◌≡◌, ◌⊎◌, inl, inr, ℕ, zero, suc, ◌+◌, ◌*◌, ◌^◌, ◌<◌, ◌≤◌, Bool, true, IsTrue, List, [], ◌∷◌, ◌++◌, length, take, drop, Option, Some, None, Err, refl, sym, ap, subst, ◌∙◌, add-one, arith}
use Rattle.std.proofs.KnownBytes.{Keeps-trans, Keeps-refl}
use Rattle.std.proofs.lemmas.List.{length-append, length-drop, length-take, length_push, take-append-drop, take-take, take_all, drop-drop}
use Rattle.std.specs.Prelude.{IsUtf8}
use Rattle.std.specs.declared.io.ErrorKind.TheVariants.{UnexpectedEof}
use Rattle.std.proofs.lemmas.Str.{is_utf8-from_IsUtf8}
use Rattle.std.specs.Io.KnownBytes.{Keeps, Consumes}
use Rattle.amqp_base.specs.declared.error.Error.{Error}
use Rattle.amqp_base.specs.declared.error.Error.TheVariants.{Io, InvalidFormatCode, InvalidUtf8Encoding}
use Rattle.amqp_base.specs.declared.format_code.EncodingCodes.{EncodingCodes}
use Rattle.amqp_base.specs.declared.format_code.EncodingCodes.TheVariants.{DescribedType, Ulong, SmallUlong, Ulong0, Sym8, Sym32}
use Rattle.amqp_base.specs.Codes.{Kind, row, code_of}
use Rattle.amqp_base.specs.Item.{ulong, symbol, Descriptor, name, code}
use Rattle.amqp_base.specs.Parse.{Parsed, text_at, behind_byte, descriptor_at, descriptor_data}
use Rattle.amqp_base.specs.Value.{number, payload, read}
use Rattle.amqp_base.specs.Wire.{of_data, of_variable, variable, code_and_data}
use Rattle.amqp_read.specs.Reading.{Reading, Agree, Stays, Takes}
use Rattle.amqp_read.specs.Steps.{Looked, ShowsBehind, ComeBehind, ShortOf, NotSeen, NotTaken}
use Rattle.amqp_data.specs.Ahead.{Ahead, Unseen, NumberAhead, TextAhead, DataAhead, ShowsDescriptor, RejectsAhead, known_past, past}
use Rattle.amqp_data.specs.Excuses.{Excused, no_memory, faulted, uncounted}
use Rattle.amqp_data.specs.Steps.{Rejects, Unread}
use Rattle.amqp_data.proofs.Received.{keeps_known, agree_then, agree_nothing, may_before, shown_next}
use Rattle.amqp_data.proofs.Readings.{steady_then, steady_same, stayed, rejects_here, unread_device, unread_memory}
use Rattle.amqp_data.proofs.Data.{bytes_short, scalar_under}
use Rattle.amqp_data.proofs.FixedWidth.{fixed_spells, fixed_refused, other_byte, not_device}
use Rattle.amqp_data.proofs.KindCodes.{code_byte}
use Rattle.amqp_data.proofs.Sized.{length_there, text_refused, text_err}
use Rattle.amqp_data.proofs.Descriptors.{ulong_refused, symbol_refused, other_descriptor, byte_not, behind_first}

-- ---- looks one behind the other

received_then : (a b c : List ℕ) → take (length a) b ≡ a → take (length b) c ≡ b → take (length a) c ≡ a
received_then a b c p q =
    let few : length a ≤ length b = omega (arith, length-take (length a) b, ap (λ (z : List ℕ). length z) p) in
    sym (take-take (length a) (length b) c few) ∙ (ap (λ (z : List ℕ). take (length a) z) q ∙ p)

pub stays_then : (a b c : Reading) → Stays a b → Stays b c → Stays a c
stays_then a b c p q = record {
  to_come = Keeps-trans a.to_come b.to_come c.to_come p.to_come q.to_come;
  taken = q.taken ∙ p.taken;
  received = received_then a.received b.received c.received p.received q.received;
  steady = steady_then a b c p.steady q.steady;
}

pub looked_then : (m n : ℕ) (a b c : Reading) → m ≤ n → Looked m a b → Looked n b c → Looked n a c
looked_then m n a b c l p q = record { stays = stays_then a b c p.stays q.stays; received = let x = p.received in let y = q.received in omega arith }

looked_same : (n : ℕ) (r : Reading) → Looked n r r
looked_same n r = record { stays = record { to_come = Keeps-refl r.to_come; taken = refl; received = take_all (length r.received) r.received (omega arith); steady = steady_same r }; received = omega arith }

-- what is shown behind n known bytes
known_behind : (n : ℕ) (b : List ℕ) (k : Option (List ℕ)) (received s : List ℕ) → k ≡ Some s → ComeBehind n k received b → take (length b) (drop n s) ≡ b
known_behind n b None received s e h = absurd cc
known_behind n b (Some t) received s e h = let q : t ≡ s = cc in rw q at h

pub ahead : (n : ℕ) (b : List ℕ) (old new : Reading) → Looked (n + length b) old new → ShowsBehind n new b → Ahead n b old new
ahead n b old new l h = record {
  looked = l;
  shown = λ s at. known_behind n b new.to_come new.received s (keeps_known old.to_come new.to_come s l.stays.to_come at) h;
  next = λ t m. shown_next n new b t h m;
}

pub ahead_none : (n : ℕ) (r : Reading) → Ahead n [] r r
ahead_none n r = record { looked = looked_same (n + 0) r; shown = λ s at. refl; next = λ t m. agree_nothing (drop n t) }

front_join : (a b s : List ℕ) → take (length a) s ≡ a → take (length b) (drop (length a) s) ≡ b → take (length (a ++ b)) s ≡ a ++ b
front_join [] b s p q = q
front_join (x ∷ a) b [] p q = absurd cc
front_join (x ∷ a) b (y ∷ s) p q =
    let h : y ≡ x = cc in
    let t : take (length a) s ≡ a = cc in
    let r = front_join a b s t q in
    cc

pub ahead_then : (n m : ℕ) (a b : List ℕ) (old mid new : Reading) → m ≡ n + length a → Ahead n a old mid → Ahead m b mid new → Ahead n (a ++ b) old new
ahead_then n m a b old mid new e p q = record {
  looked = looked_then (n + length a) (n + length (a ++ b)) old mid new (omega (arith, length-append a b)) p.looked (subst (λ (k : ℕ). Looked k mid new) (omega (arith, e, length-append a b)) q.looked);
  shown = λ s at.
      front_join a b (drop n s) (p.shown s at)
      (ap (λ (z : List ℕ). take (length b) z) (drop-drop (length a) n s ∙ ap (λ (k : ℕ). drop k s) (sym e)) ∙ q.shown s (keeps_known old.to_come mid.to_come s p.looked.stays.to_come at));
  next = λ t h.
      agree_then (drop n t) a b (p.next t (may_before mid new t q.looked.stays h))
      (subst (λ (z : List ℕ). Agree z b) (sym (drop-drop (length a) n t ∙ ap (λ (k : ℕ). drop k t) (sym e))) (q.next t h));
}

-- ---- what is read behind bytes that stay

consumes_past : (n : ℕ) (b : List ℕ) (k l : Option (List ℕ)) → Keeps k l → ((s : List ℕ) → k ≡ Some s → take (length b) (drop n s) ≡ b) → Consumes (known_past n k) (known_past (n + length b) l) b
consumes_past n b None l h f = tt
consumes_past n b (Some s) None h f = absurd h
consumes_past n b (Some s) (Some t) h f =
    sym (take-append-drop (length b) (drop n s))
    ∙ (ap (λ (z : List ℕ). z ++ drop (length b) (drop n s)) (f s refl) ∙ ap (λ (z : List ℕ). b ++ z) (drop-drop (length b) n s ∙ ap (λ (z : List ℕ). drop (n + length b) z) (sym h)))

none_left : (k : ℕ) → ◌≡◌ {A = List ℕ} (drop k []) []
none_left zero = refl
none_left (suc k) = refl

pub takes_past : (n : ℕ) (b : List ℕ) (old new : Reading) → Ahead n b old new → Takes (past n old) (past (n + length b) new) b
takes_past n b old new a =
    let s = a.looked.stays in
    let t = s.taken in
    record {
      to_come = consumes_past n b old.to_come new.to_come s.to_come a.shown;
      taken = omega (arith, t);
      received = sym (none_left (length b));
      agrees = tt;
      steady = record { honest = s.steady.honest; origin = s.steady.origin; faults = s.steady.faults; taken = omega (arith, t) };
    }

keeps_past : (n : ℕ) (k l : Option (List ℕ)) → Keeps k l → Keeps (known_past n k) (known_past n l)
keeps_past n None l h = tt
keeps_past n (Some s) None h = absurd h
keeps_past n (Some s) (Some t) h = ap (λ (z : List ℕ). drop n z) h

pub stays_past : (n : ℕ) (old new : Reading) → Stays old new → Stays (past n old) (past n new)
stays_past n old new s =
    let t = s.taken in
    record { to_come = keeps_past n old.to_come new.to_come s.to_come; taken = omega (arith, t); received = refl; steady = record { honest = s.steady.honest; origin = s.steady.origin; faults = s.steady.faults; taken = omega (arith, t) } }

short_past : (n w : ℕ) (k : Option (List ℕ)) → 0 < w → ShortOf (n + w) k → ShortOf w (known_past n k)
short_past n w None e h = tt
short_past n w (Some s) e h = omega (arith, length-drop n s)

not_taken : {grows buffers : Bool} (n : ℕ) (old new : Reading) (e : Error) → NotSeen grows buffers n old new e → NotTaken grows buffers n old new e
not_taken n old new e (inl p) = inl p
not_taken n old new e (inr p) = inr (inl p)

pub unread_past : {grows buffers : Bool} (n w : ℕ) (old new : Reading) (e : Error) → 0 < w → Unseen grows buffers (n + w) old new e → Unread grows buffers w (past n old) (past n new) e
unread_past {grows} {buffers} n w old new e h u = record { stays = stays_past n old new u.stays; why = tell u.why }
  where
    tell : NotSeen grows buffers (n + w) old new e → NotTaken grows buffers w (past n old) (past n new) e
    tell (inl p) = inl (p.0, λ honest. short_past n w old.to_come h (p.1 honest))
    tell (inr p) = inr (inl p)

known_from : (n : ℕ) (k : Option (List ℕ)) (t : List ℕ) → known_past n k ≡ Some t → (s : List ℕ) × (k ≡ Some s) × (drop n s ≡ t)
known_from n None t h = absurd cc
known_from n (Some s) t h = (s, refl, cc)

pub rejects_ahead : {A : Type 0} {buffers : Bool} (n m : ℕ) (parse : List ℕ → Parsed A) (old new : Reading) (e : Error) → Stays old new → Rejects true buffers parse (past n old) (past m new) e → RejectsAhead n buffers parse old new e
rejects_ahead {buffers = buffers} n m parse old new e s r = record {
  stays = s;
  rejects = record { why = λ t at h. tell t (r.why t at h); steady = stayed (stays_past n old new s); device = r.device; memory = r.memory };
}
  where
    tell : (t : List ℕ) → (parse t ≡ Err e) ⊎ Excused true buffers (past n old) (past m new) e → (parse t ≡ Err e) ⊎ Excused true buffers (past n old) (past n new) e
    tell t (inl p) = inl p
    tell t (inr (no_memory p q)) = inr (no_memory p q)
    tell t (inr (faulted p q h)) = inr (faulted p q h)
    tell t (inr (uncounted p q o)) = inr (uncounted p q o)

-- ---- a number

pub number_none : (n : ℕ) (r : Reading) → NumberAhead n 0 0 r r
number_none n r = record { digits = []; len = refl; value = refl; small = omega arith; ahead = ahead_none n r }

power_more : (k : ℕ) → 256 ^ (k + 1) ≡ 256 ^ k * 256
power_more k = rw add-one (omega arith)

number_snoc : (d : List ℕ) (x : ℕ) → number (d ++ x ∷ []) ≡ number d * 256 + x
number_snoc [] x = omega arith
number_snoc (c ∷ d) x =
    rw (length_push d x, power_more (length d), number_snoc d x) (omega arith)

pub number_then : (n i k x : ℕ) (old mid new : Reading) → x < 256 → NumberAhead n i k old mid → Looked (n + i + 1) mid new → ShowsBehind (n + i) new (x ∷ []) → NumberAhead n (i + 1) (k * 256 + x) old new
number_then n i k x old mid new b d l h =
    let p = power_more i in
    let small = d.small in
    record {
      digits = d.digits ++ x ∷ [];
      len = length_push d.digits x ∙ ap (λ (z : ℕ). z + 1) d.len;
      value = number_snoc d.digits x ∙ ap (λ (z : ℕ). z * 256 + x) d.value;
      small = omega arith;
      ahead = ahead_then n (n + i) d.digits (x ∷ []) old mid new (ap (λ (z : ℕ). n + z) (sym d.len)) d.ahead (ahead (n + i) (x ∷ []) mid new l h);
    }

-- a number of up to seven bytes
pub power_below : (i : ℕ) → i < 8 → 256 ^ i ≤ 2 ^ 56
power_below zero h = omega arith
power_below (suc zero) h = omega arith
power_below (suc (suc zero)) h = omega arith
power_below (suc (suc (suc zero))) h = omega arith
power_below (suc (suc (suc (suc zero)))) h = omega arith
power_below (suc (suc (suc (suc (suc zero))))) h = omega arith
power_below (suc (suc (suc (suc (suc (suc zero)))))) h = omega arith
power_below (suc (suc (suc (suc (suc (suc (suc zero))))))) h = omega arith
power_below (suc (suc (suc (suc (suc (suc (suc (suc i)))))))) h = absurd (omega arith)

-- ---- a length, and a text

pub payload_ahead : (n w k : ℕ) (b : List ℕ) (old mid new : Reading) (d : NumberAhead n w k old mid) → length b ≡ k → Looked (n + w + k) mid new → ShowsBehind (n + w) new b → Ahead n (d.digits ++ b) old new
payload_ahead n w k b old mid new d l o h = ahead_then n (n + w) d.digits b old mid new (ap (λ (z : ℕ). n + z) (sym d.len)) d.ahead (ahead (n + w) b mid new (subst (λ (z : ℕ). Looked z mid new) (ap (λ (z : ℕ). n + w + z) (sym l)) o) h)

pub text_there : (n w k : ℕ) (b t : List ℕ) (old mid new : Reading) → NumberAhead n w k old mid → length b ≡ k → Looked (n + w + k) mid new → ShowsBehind (n + w) new b → t ≡ b → IsUtf8 t → TextAhead n w t old new
text_there n w k b t old mid new d l o h q u = record {
  digits = d.digits;
  len = d.len;
  value = d.value ∙ (sym l ∙ ap (λ (z : List ℕ). length z) (sym q));
  utf8 = is_utf8-from_IsUtf8 t u;
  ahead = rw q (payload_ahead n w k b old mid new d l o h);
}

payload_short : (w k : ℕ) (d s : List ℕ) → length d ≡ w → number d ≡ k → take (length d) s ≡ d → length s < w + k → text_at w s ≡ Err (Io UnexpectedEof)
payload_short w k d s l v h f =
    let p : d ++ drop (length d) s ≡ s = ap (λ (z : List ℕ). z ++ drop (length d) s) (sym h) ∙ take-append-drop (length d) s in
    let few : length (drop (length d) s) < k = omega (arith, length-drop (length d) s, length-take (length d) s, ap (λ (z : List ℕ). length z) h) in
    subst (λ (z : List ℕ). text_at w z ≡ Err (Io UnexpectedEof)) p (rw (length_there w d (drop (length d) s) l, v, bytes_short k (drop (length d) s) few) refl)

pub text_unseen : {buffers : Bool} (n w k : ℕ) (old mid new : Reading) (e : Error) → 0 < w → NumberAhead n w k old mid → Stays mid new → NotSeen true buffers (n + w + k) mid new e → RejectsAhead n buffers (text_at w) old new e
text_unseen {buffers} n w k old mid new e h d s u = record {
  stays = stays;
  rejects = record {
    why = λ t at honest. let f = known_from n old.to_come t at in tell t f.0 f.1 f.2 honest u;
    steady = stayed (stays_past n old new stays);
    device = λ x. let a = d.ahead.looked.stays.steady.faults in let b = unread_device (n + w + k) mid new e (not_taken (n + w + k) mid new e u) x in omega arith;
    memory = unread_memory (n + w + k) mid new e (not_taken (n + w + k) mid new e u);
  };
}
  where
    stays : Stays old new
    stays = stays_then old mid new d.ahead.looked.stays s

    tell : (t r : List ℕ) → old.to_come ≡ Some r → drop n r ≡ t → IsTrue old.honest → NotSeen true buffers (n + w + k) mid new e → (text_at w t ≡ Err e) ⊎ Excused true buffers (past n old) (past n new) e
    tell t r at q honest (inl x) =
        let same = keeps_known old.to_come mid.to_come r d.ahead.looked.stays.to_come at in
        let few : length r < n + w + k = rw same at (x.1 (d.ahead.looked.stays.steady.honest ∙ honest)) in
        let seen = d.ahead.shown r at in
        let there : length (drop n r) < w + k = omega (arith, length-drop n r, length-take (length d.digits) (drop n r), ap (λ (z : List ℕ). length z) seen, d.len) in
        inl (ap (λ (z : List ℕ). text_at w z) (sym q) ∙ (payload_short w k d.digits (drop n r) d.len d.value seen there ∙ ap Err (sym x.0)))
    tell t r at q honest (inr (inl x)) = inr (no_memory x.0 x.1)
    tell t r at q honest (inr (inr x)) = inr (faulted x.0 (let a = d.ahead.looked.stays.steady.faults in let b = x.1 in omega arith) x.2)

pub text_no_utf8 : (buffers : Bool) (n w k : ℕ) (b : List ℕ) (old mid new : Reading) → NumberAhead n w k old mid → length b ≡ k → Looked (n + w + k) mid new → ShowsBehind (n + w) new b → (IsUtf8 b → ⊥) → RejectsAhead n buffers (text_at w) old new InvalidUtf8Encoding
text_no_utf8 buffers n w k b old mid new d l o h u =
    let a = payload_ahead n w k b old mid new d l o h in
    rejects_ahead n (n + length (d.digits ++ b)) (text_at w) old new InvalidUtf8Encoding a.looked.stays
    (text_refused buffers w b (past n old) (past (n + length (d.digits ++ b)) new) (record { digits = d.digits; len = d.len; value = d.value ∙ sym l; step = takes_past n (d.digits ++ b) old new a }) u)

-- ---- a descriptor's data

pub ulong_there : (x w k : ℕ) (old new : Reading) → ((x ≡ 0x80) × (w ≡ 8)) ⊎ ((x ≡ 0x53) × (w ≡ 1)) → NumberAhead 2 w k old new → DataAhead 2 x (code k) old new
unfolding row code_of payload read
ulong_there x w k old new (inl p) d = record { code = Ulong; code_is = rw p.0 refl; text = d.digits; spelled = fixed_spells Ulong 8 d.digits (ulong k) refl (d.len ∙ p.1) (rw d.value refl); ahead = d.ahead }
ulong_there x w k old new (inr p) d = record { code = SmallUlong; code_is = rw p.0 refl; text = d.digits; spelled = fixed_spells SmallUlong 1 d.digits (ulong k) refl (d.len ∙ p.1) (rw d.value refl); ahead = d.ahead }

pub zero_there : (x : ℕ) (r : Reading) → x ≡ 0x44 → DataAhead 2 x (code 0) r r
unfolding row code_of payload read
zero_there x r p = record { code = Ulong0; code_is = rw p refl; text = []; spelled = fixed_spells Ulong0 0 [] (ulong 0) refl refl refl; ahead = ahead_none 2 r }

pub ulong_missing : {buffers : Bool} (x w : ℕ) (old new : Reading) (e : Error) → ((x ≡ 0x80) × (w ≡ 8)) ⊎ ((x ≡ 0x53) × (w ≡ 1)) → Unseen buffers buffers (2 + w) old new e → RejectsAhead 2 buffers (behind_byte (descriptor_data InvalidFormatCode) x) old new e
unfolding row code_of
ulong_missing x w old new e (inl p) u =
    let v = unread_past 2 8 old new e (omega arith) (rw p.1 at u) in
    rejects_ahead 2 2 (behind_byte (descriptor_data InvalidFormatCode) x) old new e u.stays
    (ulong_refused InvalidFormatCode x (past 2 old) (past 2 new) e (inl p.0) (fixed_refused Kind.ulong x Ulong 8 (past 2 old) (past 2 new) e (rw p.0 refl) refl refl v.stays v.why))
ulong_missing x w old new e (inr p) u =
    let v = unread_past 2 1 old new e (omega arith) (rw p.1 at u) in
    rejects_ahead 2 2 (behind_byte (descriptor_data InvalidFormatCode) x) old new e u.stays
    (ulong_refused InvalidFormatCode x (past 2 old) (past 2 new) e (inr (inl p.0)) (fixed_refused Kind.ulong x SmallUlong 1 (past 2 old) (past 2 new) e (rw p.0 refl) refl refl v.stays v.why))

pub symbol_there : (x w : ℕ) (b : List ℕ) (old new : Reading) → ((x ≡ 0xa3) × (w ≡ 1)) ⊎ ((x ≡ 0xb3) × (w ≡ 4)) → TextAhead 2 w b old new → DataAhead 2 x (name b) old new
unfolding row code_of payload read
symbol_there x w b old new (inl p) t = record { code = Sym8; code_is = rw p.0 refl; text = t.digits ++ b; spelled = of_data (of_variable (variable t.digits b (t.len ∙ p.1) t.value (rw t.utf8 refl))); ahead = t.ahead }
symbol_there x w b old new (inr p) t = record { code = Sym32; code_is = rw p.0 refl; text = t.digits ++ b; spelled = of_data (of_variable (variable t.digits b (t.len ∙ p.1) t.value (rw t.utf8 refl))); ahead = t.ahead }

pub symbol_missing : {buffers : Bool} (x w : ℕ) (old new : Reading) (e : Error) → ((x ≡ 0xa3) × (w ≡ 1)) ⊎ ((x ≡ 0xb3) × (w ≡ 4)) → RejectsAhead 2 buffers (text_at w) old new e → RejectsAhead 2 buffers (behind_byte (descriptor_data InvalidFormatCode) x) old new e
unfolding row code_of payload read
symbol_missing {buffers} x w old new e (inl p) r =
    let q : Rejects true buffers (text_at 1) (past 2 old) (past 2 new) e = rw p.1 at r.rejects in
    rejects_ahead 2 2 (behind_byte (descriptor_data InvalidFormatCode) x) old new e r.stays
    (symbol_refused InvalidFormatCode x (past 2 old) (past 2 new) e (inl p.0) (text_err {V = ℕ} Kind.symbol symbol buffers x Sym8 1 (Err e) (past 2 old) (past 2 new) (rw p.0 refl) refl refl refl (λ b. refl) q))
symbol_missing {buffers} x w old new e (inr p) r =
    let q : Rejects true buffers (text_at 4) (past 2 old) (past 2 new) e = rw p.1 at r.rejects in
    rejects_ahead 2 2 (behind_byte (descriptor_data InvalidFormatCode) x) old new e r.stays
    (symbol_refused InvalidFormatCode x (past 2 old) (past 2 new) e (inr p.0) (text_err {V = ℕ} Kind.symbol symbol buffers x Sym32 4 (Err e) (past 2 old) (past 2 new) (rw p.0 refl) refl refl refl (λ b. refl) q))

-- a code of another kind, or none
pub other_there : {buffers : Bool} (x : ℕ) (r : Reading) → (x ≡ 0xa3 → ⊥) → (x ≡ 0xb3 → ⊥) → (x ≡ 0x80 → ⊥) → (x ≡ 0x53 → ⊥) → (x ≡ 0x44 → ⊥) → RejectsAhead 2 buffers (behind_byte (descriptor_data InvalidFormatCode) x) r r InvalidFormatCode
unfolding row
other_there x r a b c d f = rejects_ahead 2 2 (behind_byte (descriptor_data InvalidFormatCode) x) r r InvalidFormatCode (looked_same 0 r).stays (rejects_here (behind_byte (descriptor_data InvalidFormatCode) x) (past 2 r) InvalidFormatCode not_device (λ s. other_byte (descriptor_data InvalidFormatCode) x s (tell s)))
  where
    tell : (s : List ℕ) (e : EncodingCodes) → (code_of x ≡ Some e) ⊎ (e ≡ DescribedType) → descriptor_data InvalidFormatCode e s ≡ Err InvalidFormatCode
    tell s e (inl h) =
        let p = code_byte x e h in
        other_descriptor InvalidFormatCode e s (byte_not x 0xa3 e Sym8 p refl a) (byte_not x 0xb3 e Sym32 p refl b) (byte_not x 0x80 e Ulong p refl c) (byte_not x 0x53 e SmallUlong p refl d) (byte_not x 0x44 e Ulong0 p refl f)
    tell s e (inr h) = other_descriptor InvalidFormatCode e s (λ q. absurd cc (h, q)) (λ q. absurd cc (h, q)) (λ q. absurd cc (h, q)) (λ q. absurd cc (h, q)) (λ q. absurd cc (h, q))

-- ---- a descriptor with its own code

pub descriptor_there : (x : ℕ) (d : Descriptor) (old mid new : Reading) → Looked 2 old mid → ShowsBehind 1 mid (x ∷ []) → DataAhead 2 x d mid new → ShowsDescriptor 1 d old new
descriptor_there x d old mid new l h t = record {
  text = x ∷ t.text;
  spelled = code_and_data t.code_is (scalar_under t.spelled);
  ahead = ahead_then 1 2 (x ∷ []) t.text old mid new refl (ahead 1 (x ∷ []) old mid l h) t.ahead;
}

pub no_data : {buffers : Bool} (x : ℕ) (old mid new : Reading) (e : Error) → Looked 2 old mid → ShowsBehind 1 mid (x ∷ []) → RejectsAhead 2 buffers (behind_byte (descriptor_data InvalidFormatCode) x) mid new e → RejectsAhead 1 buffers (descriptor_at InvalidFormatCode) old new e
no_data {buffers} x old mid new e l h r =
    rejects_ahead 1 2 (descriptor_at InvalidFormatCode) old new e (stays_then old mid new l.stays r.stays)
    (behind_first (behind_byte (descriptor_data InvalidFormatCode)) buffers x (past 1 old) (past 2 mid) (past 2 new) e (takes_past 1 (x ∷ []) old mid (ahead 1 (x ∷ []) old mid l h)) r.rejects)
