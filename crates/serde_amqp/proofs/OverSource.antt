-- What a whole call over a source gives.
use Rattle.std.proofs.Common.{◌≡◌, ℕ, Bool, true, false, ◌||◌, List, [], ◌++◌, length, take, drop, Option, Some, None, Result, Ok, Err, refl, sym, ap, subst, ◌∙◌, arith, ◌⊎◌, inl, inr, append_assoc}
use Rattle.std.proofs.lemmas.List.{length-append, take_at, drop_at, take-append-drop, drop_all}
use Rattle.std.specs.Prelude.{IfOk, IfErr, ◌≤◌, ◌^◌, ◌+◌}
use Rattle.std.specs.Borrow.{GName}
use Rattle.std.specs.Io.KnownBytes.{Consumes, prepend_known}
use Rattle.amqp_base.specs.Faults.{IsFault}
use Rattle.amqp_base.specs.Wire.{bare}
use Rattle.amqp_base.specs.Meaning.{Meaning}
use Rattle.amqp_base.specs.declared.error.Error.{Error}
use Rattle.amqp_base.specs.declared.error.Error.TheVariants.{OutOfMemory}
use Rattle.amqp_base.proofs.OneFront.{same_wire}
use Rattle.amqp_read.specs.Reading.{Reading}
use Rattle.amqp_read.specs.Streaming.{reads}
use Rattle.amqp_data.specs.Excuses.{Advances, Overfull, Excused, no_memory as no_room, faulted as failed, uncounted as overfull}
use Rattle.amqp_de.specs.Decoding.{Decoding}
use Rattle.amqp_de.specs.Law.{Found, Missed, Named}
use Rattle.serde_amqp.specs.Streams.{Given, TakenFrom, Unasked, no_memory, faulted, uncounted, AnswersAll, RefusedOf, Leaves, InMemory, Agree, AgreeBehind}
use Rattle.serde_amqp.specs.Headline.{ReadFrom}
use Rattle.serde_amqp.proofs.Whole.{consumed, reads_value}

-- a reader over the source, which is lent so, that has received these bytes, and consumed so many
abbrev pub over : List GName → List ℕ → ℕ → Given → Reading
over o received taken g = reads received g.to_come taken g.faults g.last_fault g.honest o

-- a deserializer that begins at the source
abbrev pub begun_at : List GName → Given → Decoding
begun_at o g = record { reading = over o [] 0 g; ended = false; inherited = bare; described = false; begun = 0 }

-- the reader stands over the source
abbrev pub StandsOver : List GName → Reading → Given → Type 0
StandsOver o r g = over o r.received r.taken g ≡ r

none_ahead : (known : Option (List ℕ)) → prepend_known [] known ≡ known
none_ahead None = refl
none_ahead (Some s) = refl

-- what was received and not consumed is gone, too
all_gone : (a b : Option (List ℕ)) (received x : List ℕ) → Consumes a (prepend_known received b) x → Consumes a b (x ++ received)
all_gone None b received x h = tt
all_gone (Some s) None received x h = absurd h
all_gone (Some s) (Some t) received x h = h ∙ sym (append_assoc x received t)

from_source : (a : Option (List ℕ)) (b : Option (List ℕ)) (x : List ℕ) → Consumes (prepend_known [] a) b x → Consumes a b x
from_source a b x h = subst (λ z. Consumes z b x) (none_ahead a) h

still_left : (a b : Option (List ℕ)) (received text : List ℕ) → received ≡ drop (length text) [] → Consumes (prepend_known [] a) (prepend_known received b) text → Consumes a b text
still_left a b received text none h =
    let empty : received ≡ [] = none ∙ drop_all (length text) [] (omega arith) in
    from_source a b text (subst (λ z. Consumes (prepend_known [] a) z text) (ap (λ z. prepend_known z b) empty ∙ none_ahead b) h)

pub taken_from : {T : Type 0} (m : Meaning T) (v : T) {o p : List GName} (g h : Given) (old new : Decoding) → old ≡ begun_at o g → StandsOver p new.reading h → Found m.takes (λ i. m.means i v) old new → TakenFrom m v g.to_come h.to_come
taken_from m v {o = o} g h old new begins stands f =
    let k : Found m.takes (λ i. m.means i v) (begun_at o g) new = rw begins at f in
    let x = k.front refl in
    let left : Consumes (prepend_known [] g.to_come) (prepend_known new.reading.received h.to_come) x.text =
    subst (λ (z : Option (List ℕ)). Consumes (prepend_known [] g.to_come) z x.text) (sym (ap (λ (z : Reading). z.to_come) stands)) x.step.to_come in
    record {
      item = x.item;
      text = x.text;
      spelled = x.spelled;
      taken = x.taken;
      value = x.value;
      left = still_left g.to_come h.to_come new.reading.received x.text x.step.received left;
    }

pub leaves : {o p : List GName} (g h : Given) (old new : Decoding) → old ≡ begun_at o g → StandsOver p new.reading h → Advances old.reading new.reading → Leaves g h
leaves {o = o} g h old new begins stands a =
    let k : Advances (over o [] 0 g) new.reading = subst (λ (z : Decoding). Advances z.reading new.reading) begins a in
    let faults = k.faults in
    let same = ap (λ (z : Reading). z.faults) stands in
    record {
      gone = k.consumed ++ new.reading.received;
      left = all_gone g.to_come h.to_come new.reading.received k.consumed (from_source g.to_come (prepend_known new.reading.received h.to_come) k.consumed
          (subst (λ (z : Option (List ℕ)). Consumes (prepend_known [] g.to_come) z k.consumed) (sym (ap (λ (z : Reading). z.to_come) stands)) k.rest));
      honest = ap (λ (z : Reading). z.honest) stands ∙ k.honest;
      faults = omega arith;
    }

overfull_source : (a : Option (List ℕ)) (s : List ℕ) → a ≡ Some s → Overfull 0 (prepend_known [] a) → 2 ^ 64 ≤ length s
overfull_source a s e o = let h : 2 ^ 64 ≤ 0 + length s = rw e at o in omega arith

unasked : (grows : Bool) (s : List ℕ) {o p : List GName} (g h : Given) (new : Reading) (e : Error) → g.to_come ≡ Some s → StandsOver p new h → Excused grows true (over o [] 0 g) new e → Unasked s g h e
unasked grows s g h new e at stands (no_room p q) = no_memory p
unasked grows s g h new e at stands (failed i p q) =
    let same = ap (λ (z : Reading). z.faults) stands in
    faulted (subst (λ (z : Reading). IsFault z.last_fault e) (sym stands) i) (omega arith)
unasked grows s g h new e at stands (overfull p q o) = uncounted p (overfull_source g.to_come s at o)

-- what was taken from known bytes stood at their front
pub read_from_taken : {T : Type 0} (m : Meaning T) (v : T) (g h : Given) (s : List ℕ) → g.to_come ≡ Some s → TakenFrom m v g.to_come h.to_come → ReadFrom m.takes (λ i. m.means i v) s
read_from_taken m v g h s at t =
    let c = consumed g.to_come h.to_come s t.text at t.left in
    let front : take (length t.text) s ≡ t.text = rw c.1 (take_at t.text c.0 (length t.text) refl) in
    record {
      item = t.item;
      length = length t.text;
      front = record {
        within = rw c.1 (omega (arith, length-append t.text c.0));
        spelled = rw front t.spelled;
      };
      taken = t.taken;
      value = t.value;
    }

pub answers_value : {T : Type 0} (m : Meaning T) (v : T) (g h : Given) → TakenFrom m v g.to_come h.to_come → AnswersAll m g h (Ok v)
answers_value m v g h t = record {
  answer = λ s at honest i n front taken. (reads_value m.takes m.means m.grows s v (read_from_taken m v g h s at t)).answer i n front taken;
}

pub answers_refusal : {T : Type 0} (m : Meaning T) (e : Error) {o p : List GName} (g h : Given) (old new : Decoding) → old ≡ begun_at o g → StandsOver p new.reading h → Missed m.takes (m.grows || true) true old new e → AnswersAll m g h (Err e)
answers_refusal m e {o = o} g h old new begins stands f =
    let k : Missed m.takes (m.grows || true) true (begun_at o g) new e = rw begins at f in
    record {
      answer = λ s at honest i n front t.
          unasked (m.grows || true) s g h new.reading e at stands
          (k.why refl i (take n s) (drop n s) front.spelled t (ap (λ z. prepend_known [] z) at ∙ ap Some (sym (take-append-drop n s))) honest);
    }

refused_of : {T : Type 0} (m : Meaning T) (e : Error) {o p : List GName} (g h : Given) (old new : Decoding) → old ≡ begun_at o g → StandsOver p new.reading h
    → Missed m.takes (m.grows || true) true old new e → Named m.refuses (m.grows || true) true old new e → RefusedOf m g h e
refused_of m e {o = o} g h old new begins stands f n =
    let j : Missed m.takes (m.grows || true) true (begun_at o g) new e = rw begins at f in
    let k : Named m.refuses (m.grows || true) true (begun_at o g) new e = rw begins at n in
    let same = ap (λ (z : Reading). z.faults) stands in
    record {
      why = λ s at honest. tell s at (k.why refl s (ap (λ z. prepend_known [] z) at) honest);
      device = λ d. let more = j.device d in omega arith;
    }
  where
    tell : (s : List ℕ) → g.to_come ≡ Some s → m.refuses bare s e ⊎ Excused (m.grows || true) true (over o [] 0 g) new.reading e → m.refuses bare s e ⊎ Unasked s g h e
    tell s at (inl p) = inl p
    tell s at (inr x) = inr (unasked (m.grows || true) s g h new.reading e at stands x)

-- ---- of whole answers

pub found_of : {T : Type 0} (m : Meaning T) {o p : List GName} (g h : Given) (old new : Decoding) (r : Result T Error) → old ≡ begun_at o g → StandsOver p new.reading h
    → IfOk r (λ v. Found m.takes (λ i. m.means i v) old new) → IfOk r (λ v. TakenFrom m v g.to_come h.to_come)
found_of m g h old new (Ok v) begins stands f = taken_from m v g h old new begins stands f
found_of m g h old new (Err e) begins stands f = tt

pub all_of : {T : Type 0} (m : Meaning T) {o p : List GName} (g h : Given) (old new : Decoding) (r : Result T Error) → old ≡ begun_at o g → StandsOver p new.reading h
    → IfOk r (λ v. Found m.takes (λ i. m.means i v) old new) → IfErr r (λ e. Missed m.takes (m.grows || true) true old new e) → AnswersAll m g h r
all_of m g h old new (Ok v) begins stands f x = answers_value m v g h (taken_from m v g h old new begins stands f)
all_of m g h old new (Err e) begins stands f x = answers_refusal m e g h old new begins stands x

pub names_of : {T : Type 0} (m : Meaning T) {o p : List GName} (g h : Given) (old new : Decoding) (r : Result T Error) → old ≡ begun_at o g → StandsOver p new.reading h
    → IfErr r (λ e. Missed m.takes (m.grows || true) true old new e) → IfErr r (λ e. Named m.refuses (m.grows || true) true old new e) → IfErr r (λ e. RefusedOf m g h e)
names_of m g h old new (Ok v) begins stands x n = tt
names_of m g h old new (Err e) begins stands x n = refused_of m e g h old new begins stands x n

pub leaves_of : {T : Type 0} (m : Meaning T) {o p : List GName} (g h : Given) (old new : Decoding) (r : Result T Error) → old ≡ begun_at o g → StandsOver p new.reading h
    → IfOk r (λ v. Found m.takes (λ i. m.means i v) old new) → IfErr r (λ e. Missed m.takes (m.grows || true) true old new e) → Leaves g h
leaves_of m g h old new (Ok v) begins stands f x = leaves g h old new begins stands f.steady
leaves_of m g h old new (Err e) begins stands f x = leaves g h old new begins stands x.steady

-- ---- both readers

only_memory : (s : List ℕ) (old new : Given) (e : Error) → InMemory s old new → Unasked s old new e → e ≡ OutOfMemory
only_memory s old new e h (no_memory p) = p
only_memory s old new e h (faulted i p) = absurd (omega (arith, h.no_fault))
only_memory s old new e h (uncounted p q) = absurd (omega (arith, h.counted))

pub agree : {T : Type 0} (m : Meaning T) → Agree m
agree m s old new (Ok v) (Ok w) h r all t more = m.one_value r.item v w r.value (more.answer s h.told h.honest r.item r.length r.front r.taken)
agree m s old new (Ok v) (Err e) h r all t more = only_memory s old new e h (more.answer s h.told h.honest r.item r.length r.front r.taken)
agree m s old new (Err e) (Ok w) h r all t more =
    let q = read_from_taken m w old new s h.told t in
    all.answer q.item q.length q.front q.taken
agree m s old new (Err e) (Err f) h r all t more = tt

pub agree_behind : {T : Type 0} (m : Meaning T) → AgreeBehind m
agree_behind m s rest None v w a b = absurd b.left
agree_behind m s rest (Some left) v w a b =
    let same = (same_wire a.spelled b.spelled rest left (sym a.left ∙ b.left)).0 in
    let at : drop (length a.text) (a.text ++ rest) ≡ rest = drop_at a.text rest (length a.text) refl in
    let behind : drop (length b.text) (b.text ++ left) ≡ left = drop_at b.text left (length b.text) refl in
    ap Some (sym behind ∙ (ap (λ z. drop (length z) (b.text ++ left)) (sym same) ∙ (ap (λ z. drop (length a.text) z) (sym b.left ∙ a.left) ∙ at)))
