-- What whole calls give.
use Rattle.std.proofs.Common.{◌≡◌, ◌-◌, ℕ, Bool, true, false, ◌||◌, IsTrue, List, [], ◌++◌, length, take, drop, Option, Some, None, Result, Ok, Err, refl, sym, ap, subst, ◌∙◌, arith, ◌⊎◌, inl, inr}
use Rattle.std.proofs.lemmas.List.{length-append, length-drop, take_at, take_all, take-append-drop}
use Rattle.std.proofs.lemmas.Option.{same_Some}
use Rattle.std.specs.Prelude.{IfOk, IfErr}
use Rattle.std.specs.Io.KnownBytes.{Consumes}
use Rattle.amqp_base.specs.Item.{Item}
use Rattle.amqp_base.specs.Wire.{Wire, lenient, bare, Front as WireFront}
use Rattle.amqp_base.specs.declared.error.Error.{Error}
use Rattle.amqp_base.specs.declared.error.Error.TheVariants.{OutOfMemory}
use Rattle.amqp_base.proofs.OneFront.{same_wire}
use Rattle.amqp_read.specs.Reading.{Reading}
use Rattle.amqp_de.specs.Decoding.{Decoding, stands_under}
use Rattle.amqp_de.specs.Law.{Front, Found, Missed, Named}
use Rattle.amqp_data.specs.Excuses.{Excused, no_memory, faulted, uncounted}
use Rattle.amqp_base.specs.Typing.{OneValue}
use Rattle.amqp_base.specs.Meaning.{Meaning}
use Rattle.serde_amqp.specs.Headline.{ReadFrom, ReadsAll, Answered, SameAgain, NamedFrom}

-- what was consumed of known bytes stood in front of the others
pub consumed : (k l : Option (List ℕ)) (s x : List ℕ) → k ≡ Some s → Consumes k l x → (rest : List ℕ) × (s ≡ x ++ rest)
consumed None l s x e c = absurd cc
consumed (Some t) None s x e c = absurd c
consumed (Some t) (Some u) s x e c = (u, sym (same_Some t s e) ∙ c)

-- behind as many bytes stands the rest
pub left_behind : (s x : List ℕ) (n : ℕ) (rest : List ℕ) → s ≡ x ++ rest → n ≡ length x → s ≡ x ++ take (length s - n) (drop n s)
left_behind s x n rest p q =
    let front : take n s ≡ x = rw (p, q) (take_at x rest (length x) refl) in
    let all : take (length s - n) (drop n s) ≡ drop n s = take_all (length s - n) (drop n s) (omega (arith, length-drop n s)) in
    rw all (sym (take-append-drop n s) ∙ ap (λ (z : List ℕ). z ++ drop n s) front)

pub read_from : (takes : Item → Bool) (means : Item → Type 0) (s : List ℕ) (old new : Decoding) → stands_under old ≡ bare → old.reading.to_come ≡ Some s → Front takes means old new → ReadFrom takes means s
read_from takes means s old new b at f =
    let c = consumed old.reading.to_come new.reading.to_come s f.text at f.step.to_come in
    let front : take (length f.text) s ≡ f.text = rw c.1 (take_at f.text c.0 (length f.text) refl) in
    record {
      item = f.item;
      length = length f.text;
      front = record {
        within = rw c.1 (omega (arith, length-append f.text c.0));
        spelled = rw front (subst (λ z. Wire lenient z f.text f.item) b f.spelled);
      };
      taken = f.taken;
      value = f.value;
    }

same_item : (s : List ℕ) (i j : Item) (m n : ℕ) → WireFront lenient bare s i m → WireFront lenient bare s j n → i ≡ j
same_item s i j m n f g = (same_wire f.spelled g.spelled (drop m s) (drop n s) (take-append-drop m s ∙ sym (take-append-drop n s))).1

or_false : (a : Bool) → IsTrue (a || false) → IsTrue a
or_false true h = refl
or_false false h = absurd cc

-- over a slice the only excuse is want of memory
excused : (grows : Bool) (old new : Reading) (e : Error) → Excused (grows || false) false old new e → (e ≡ OutOfMemory) × IsTrue grows
excused grows old new e (no_memory p q) = (p, or_false grows q)
excused grows old new e (faulted i p q) = absurd cc
excused grows old new e (uncounted p q o) = absurd cc

pub reads_value : {T : Type 0} (takes : Item → Bool) (means : Item → T → Type 0) (grows : Bool) (s : List ℕ) (v : T) → ReadFrom takes (λ i. means i v) s → ReadsAll takes means grows s (Ok v)
reads_value takes means grows s v r = record {
  answer = λ i n f t. subst (λ (z : Item). means z v) (same_item s r.item i r.length n r.front f) r.value;
}

pub reads_refused : {T : Type 0} (takes : Item → Bool) (means : Item → T → Type 0) (grows : Bool) (s : List ℕ) (e : Error) (old new : Decoding) → stands_under old ≡ bare → old.ended ≡ false → IsTrue old.reading.honest → old.reading.to_come ≡ Some s
    → Missed takes (grows || false) false old new e → ReadsAll takes means grows s (Err e)
reads_refused takes means grows s e old new b a h at m = record {
  answer = λ i n f t. excused grows old.reading new.reading e (m.why a i (take n s) (drop n s) (rw b f.spelled) t (at ∙ ap Some (sym (take-append-drop n s))) h);
}

-- memory is wanted only where the type grows
pub wants_memory : {T : Type 0} (takes : Item → Bool) (old new : Decoding) (grows : Bool) (r : Result T Error) → IfErr r (λ e. Missed takes (grows || false) false old new e) → IfErr r (λ e. e ≡ OutOfMemory → IsTrue grows)
wants_memory takes old new grows (Ok v) m = tt
wants_memory takes old new grows (Err e) m = λ h. or_false grows (m.memory h)

-- a deserializer over these bytes
abbrev pub fresh : List ℕ → Decoding
fresh s = record { reading = record { to_come = Some s; taken = 0; received = []; faults = 0; last_fault = None; honest = true; origin = [] }; ended = false; inherited = bare; described = false; begun = 0 }

pub found_from : {T : Type 0} (takes : Item → Bool) (means : Item → T → Type 0) (s : List ℕ) (old new : Decoding) (r : Result T Error) → old ≡ fresh s → IfOk r (λ v. Found takes (λ i. means i v) old new) → IfOk r (λ v. ReadFrom takes (λ i. means i v) s)
found_from takes means s old new (Ok v) e f =
    let g : Found takes (λ i. means i v) (fresh s) new = rw e at f in
    read_from takes (λ i. means i v) s (fresh s) new refl refl (g.front refl)
found_from takes means s old new (Err x) e f = tt

pub all_read : {T : Type 0} (takes : Item → Bool) (means : Item → T → Type 0) (grows : Bool) (s : List ℕ) (old new : Decoding) (r : Result T Error) → old ≡ fresh s → IfOk r (λ v. Found takes (λ i. means i v) old new) → IfErr r (λ e. Missed takes (grows || false) false old new e)
    → ReadsAll takes means grows s r
all_read takes means grows s old new (Ok v) e f m = reads_value takes means grows s v (found_from takes means s old new (Ok v) e f)
all_read takes means grows s old new (Err x) e f m =
    let n : Missed takes (grows || false) false (fresh s) new x = rw e at m in
    reads_refused takes means grows s x (fresh s) new refl refl refl refl n

-- an item is read as one value
pub same_again : {T : Type 0} (means : Item → T → Type 0) (same : T → T → Type 0) (grows : Bool) → OneValue means same → (i : Item) (v : T) (r : Result T Error) → means i v → Answered means grows i r → SameAgain same grows v r
same_again means same grows one i v (Ok w) m a = one i v w m a
same_again means same grows one i v (Err e) m a = a

-- a refusal has the name that the bytes call for
pub named_from : {T : Type 0} (m : Meaning T) (s : List ℕ) (old new : Decoding) (r : Result T Error) → old ≡ fresh s → IfErr r (λ e. Named m.refuses (m.grows || false) false old new e) → IfErr r (λ e. NamedFrom m s e)
named_from m s old new (Ok v) e n = tt
named_from m s old new (Err x) e n =
    let k : Named m.refuses (m.grows || false) false (fresh s) new x = rw e at n in
    tell (k.why refl s refl refl)
  where
    tell : m.refuses bare s x ⊎ Excused (m.grows || false) false (fresh s).reading new.reading x → NamedFrom m s x
    tell (inl p) = inl p
    tell (inr y) = inr (excused m.grows (fresh s).reading new.reading x y)

-- a value that is handed on with the bytes behind it
pub with_rest : {T U : Type 0} (takes : Item → Bool) (means : Item → T → Type 0) (grows : Bool) (s : List ℕ) (v : T) (rest : U) → ReadsAll takes means grows s (Ok v) → ReadsAll {T = T × U} takes (λ i p. means i p.0) grows s (Ok (v, rest))
with_rest takes means grows s v rest h = record { answer = λ i n f t. h.answer i n f t }

pub without_rest : {T U : Type 0} (takes : Item → Bool) (means : Item → T → Type 0) (grows : Bool) (s : List ℕ) (e : Error) → ReadsAll {T = T} takes means grows s (Err e) → ReadsAll {T = T × U} takes (λ i p. means i p.0) grows s (Err e)
without_rest takes means grows s e h = record { answer = λ i n f t. h.answer i n f t }
