-- A length, and the payload behind it.
use Rattle.std.proofs.Common.{◌≡◌, ℕ, ◌≤◌, Bool, IsTrue, true, false, if◌then◌else◌, List, ◌++◌, length, take, Option, Some, None, Result, Ok, Err, refl, sym, ap, subst, ◌∙◌, inl, inr, ◌⊎◌, append_assoc}
use Rattle.std.specs.Prelude.{IfOk, IfErr, OnErr, IsUtf8}
use Rattle.std.proofs.lemmas.Str.{IsUtf8-from_is_utf8, is_utf8-from_IsUtf8}
use Rattle.std.specs.Str.{is_utf8}
use Rattle.amqp_base.specs.declared.error.Error.{Error}
use Rattle.std.proofs.lemmas.Bool.{le-ltb}
use Rattle.std.specs.declared.io.ErrorKind.TheVariants.{UnexpectedEof}
use Rattle.amqp_base.specs.declared.error.Error.TheVariants.{Io, InvalidUtf8Encoding, OutOfMemory}
use Rattle.amqp_base.specs.declared.format_code.EncodingCodes.{EncodingCodes}
use Rattle.amqp_base.specs.declared.format_code.Category.{Category}
use Rattle.amqp_base.specs.declared.format_code.Category.TheVariants.{Variable}
use Rattle.amqp_base.specs.Codes.{Kind, row, code_of}
use Rattle.amqp_base.specs.Item.{Scalar, scalar}
use Rattle.amqp_base.specs.Value.{number, payload}
use Rattle.amqp_base.specs.Wire.{lenient, of_data, Data, of_variable, variable}
use Rattle.amqp_data.specs.Excuses.{IsCause, Excused}
use Rattle.amqp_base.proofs.KindPlaces.{kind_same}
use Rattle.amqp_read.specs.Reading.{Reading, Stays, Takes}
use Rattle.amqp_read.specs.Steps.{NotTaken, Holds}
use Rattle.amqp_read.specs.Texts.{NoText, FrontIsNoText}
use Rattle.amqp_base.specs.Parse.{Parsed, ◌>>=◌, bytes_at, sized_at, utf8, text_at, valued, value_or_refusal, bad_payload, data_at, behind_byte}
use Rattle.amqp_data.specs.Steps.{IsData, Rejects, BytesFirst, Unread, Number, Payload, Text}
use Rattle.amqp_data.proofs.Readings.{takes_then, stayed, behind, unread_memory, unread_rejects, rejects_then, rejects_after}
use Rattle.amqp_data.proofs.Data.{bytes_there, bytes_short, behind_code}

-- the length is there
pub length_there : (w : ℕ) (l s : List ℕ) → length l ≡ w → sized_at w (l ++ s) ≡ bytes_at (number l) s
length_there w l s h = rw (bytes_there w l s h) refl

pub payload_ok : {V : Type 0} (items : V → List ℕ) (w n : ℕ) (old mid new : Reading) (r : Result V Error) → Number w n old mid → IfOk r (λ v. (length (items v) ≡ n) × Takes mid new (items v)) → IfOk r (λ v. Payload w (items v) old new)
payload_ok items w n old mid new (Ok v) d t = record { digits = d.digits; len = d.len; value = d.value ∙ sym t.0; step = takes_then old mid new d.digits (items v) d.step t.1 }
payload_ok items w n old mid new (Err e) d t = tt

pub payload_refused : {grows : Bool} (buffers : Bool) (w n : ℕ) (old mid new : Reading) (e : Error) → Number w n old mid → Stays mid new → NotTaken grows buffers n mid new e → Rejects grows buffers (sized_at w) old new e
payload_refused buffers w n old mid new e d s u =
    rejects_then (sized_at w) (bytes_at n) old mid new d.digits e d.step (λ t h. length_there w d.digits t d.len ∙ ap (λ (m : ℕ). bytes_at m t) d.value ∙ h)
    (unread_rejects (bytes_at n) n mid new e (bytes_short n) (record { stays = s; why = u }))

pub payload_err : {V : Type 0} (buffers : Bool) (w n : ℕ) (old mid new : Reading) (r : Result V Error) → Number w n old mid → OnErr r (Stays mid new) → IfErr r (λ e. NotTaken true buffers n mid new e) → IfErr r (λ e. Rejects true buffers (sized_at w) old new e)
payload_err buffers w n old mid new (Ok v) d s u = tt
payload_err buffers w n old mid new (Err e) d s u = payload_refused buffers w n old mid new e d s u

not_utf8 : (b : List ℕ) → (IsUtf8 b → ⊥) → is_utf8 b ≡ false
not_utf8 b n = tell (is_utf8 b) refl
  where
    tell : (t : Bool) → is_utf8 b ≡ t → is_utf8 b ≡ false
    tell true h = absurd (n (IsUtf8-from_is_utf8 b h))
    tell false h = h

bad_text : (w : ℕ) (l b s : List ℕ) → length l ≡ w → number l ≡ length b → is_utf8 b ≡ false → text_at w ((l ++ b) ++ s) ≡ Err InvalidUtf8Encoding
bad_text w l b s h n u = rw (append_assoc l b s, length_there w l (b ++ s) h, n, bytes_there (length b) b s refl, u) refl

no_device : IsCause InvalidUtf8Encoding → ⊥
no_device d = d

pub text_refused : {grows : Bool} (buffers : Bool) (w : ℕ) (b : List ℕ) (old new : Reading) → Payload w b old new → (IsUtf8 b → ⊥) → Rejects grows buffers (text_at w) old new InvalidUtf8Encoding
text_refused buffers w b old new p n = rejects_after (text_at w) old new (p.digits ++ b) InvalidUtf8Encoding p.step no_device (λ s. bad_text w p.digits b s p.len p.value (not_utf8 b n))

-- ---- a text that the reader makes of the bytes behind the length

pub text_took : (w n : ℕ) (old mid new : Reading) (t : List ℕ) → Number w n old mid → (length t ≡ n) × Takes mid new t → IsUtf8 t → Text w t old new
text_took w n old mid new t d k u = record { payload = payload_ok {V = List ℕ} (λ b. b) w n old mid new (Ok t) d k; utf8 = is_utf8-from_IsUtf8 t u }

-- n bytes that are UTF-8
abbrev text_there : ℕ → List ℕ → Parsed (List ℕ)
text_there n s = bytes_at n s >>= utf8

front_no_text : (n : ℕ) (s : List ℕ) → n ≤ length s → (IsUtf8 (take n s) → ⊥) → text_there n s ≡ Err InvalidUtf8Encoding
front_no_text n s h u = rw (le-ltb (length s) n h, not_utf8 (take n s) u) refl

known_no_text : (n : ℕ) (k : Option (List ℕ)) (s : List ℕ) → k ≡ Some s → FrontIsNoText n k → text_there n s ≡ Err InvalidUtf8Encoding
known_no_text n None s e f = absurd cc
known_no_text n (Some t) s e f = let q : t ≡ s = cc in rw q at (front_no_text n t f.0 f.1)

no_text_rejects : {grows buffers : Bool} (n : ℕ) (old new : Reading) (e : Error) → Stays old new → NoText n old e → Rejects grows buffers (text_there n) old new e
no_text_rejects n old new e s u = rw u.0 (record {
  why = λ t at h. inl (known_no_text n old.to_come t at u.1);
  steady = stayed s;
  device = λ d. absurd d;
  memory = λ m. absurd cc m;
})

behind_length : (w n : ℕ) (l s : List ℕ) (e : Error) → length l ≡ w → number l ≡ n → text_there n s ≡ Err e → text_at w (l ++ s) ≡ Err e
behind_length w n l s e h v p = rw (length_there w l s h, v) p

pub text_not_taken : {grows : Bool} (buffers : Bool) (w n : ℕ) (old mid new : Reading) (e : Error) → Number w n old mid → Stays mid new → NoText n mid e ⊎ NotTaken grows buffers n mid new e → Rejects grows buffers (text_at w) old new e
text_not_taken {grows} buffers w n old mid new e d s u =
    rejects_then (text_at w) (text_there n) old mid new d.digits e d.step (λ t p. behind_length w n d.digits t e d.len d.value p) (tell u)
  where
    tell : NoText n mid e ⊎ NotTaken grows buffers n mid new e → Rejects grows buffers (text_there n) mid new e
    tell (inl q) = no_text_rejects n mid new e s q
    tell (inr q) = unread_rejects (text_there n) n mid new e (λ t h. rw (bytes_short n t h) refl) (record { stays = s; why = q })

-- a code's data are a payload
pub sized_is : (x : ℕ) (e : EncodingCodes) (w : ℕ) (b : List ℕ) (v : Scalar) (old new : Reading) → code_of x ≡ Some e → (row e).category ≡ Variable w → payload e b ≡ Some v → Payload w b old new → IsData x (scalar v) old new
sized_is x e w b v old new c k p t = record {
  code = e;
  code_is = c;
  text = t.digits ++ b;
  spelled = of_data (subst (λ (z : Category). Data lenient e (row e).kind z (t.digits ++ b) (scalar v)) (sym k) (of_variable (variable t.digits b t.len t.value p)));
  step = t.step;
}

pub sized_ok : {V : Type 0} (view : V → List ℕ) (con : List ℕ → Scalar) (x : ℕ) (e : EncodingCodes) (w : ℕ) (r : Result V Error) (old new : Reading) → code_of x ≡ Some e → (row e).category ≡ Variable w → ((b : List ℕ) → payload e b ≡ Some (con b))
    → IfOk r (λ v. Payload w (view v) old new) → IfOk r (λ v. IsData x (scalar (con (view v))) old new)
sized_ok view con x e w (Ok v) old new c k p t = sized_is x e w (view v) (con (view v)) old new c k (p (view v)) t
sized_ok view con x e w (Err f) old new c k p t = tt

pub text_ok : {V : Type 0} (view : V → List ℕ) (con : List ℕ → Scalar) (x : ℕ) (e : EncodingCodes) (w : ℕ) (r : Result V Error) (old new : Reading) → code_of x ≡ Some e → (row e).category ≡ Variable w → ((b : List ℕ) → payload e b ≡ (if is_utf8 b then Some (con b) else None))
    → IfOk r (λ v. Text w (view v) old new) → IfOk r (λ v. IsData x (scalar (con (view v))) old new)
text_ok view con x e w (Ok v) old new c k p t = sized_is x e w (view v) (con (view v)) old new c k (p (view v) ∙ rw t.utf8 refl) t.payload
text_ok view con x e w (Err f) old new c k p t = tt

-- a code's data are refused as this parse refuses them
pub refused_data : {V A B : Type 0} (target : EncodingCodes → List ℕ → Parsed B) (grows buffers : Bool) (x : ℕ) (e : EncodingCodes) (parse : List ℕ → Parsed A) (r : Result V Error) (old new : Reading) → code_of x ≡ Some e
    → ((s : List ℕ) (err : Error) → parse s ≡ Err err → target e s ≡ Err err)
    → IfErr r (λ err. Rejects grows buffers parse old new err) → IfErr r (λ err. Rejects grows buffers (behind_byte target x) old new err)
refused_data target grows buffers x e parse (Ok v) old new c h t = tt
refused_data target grows buffers x e parse (Err err) old new c h t = record { why = λ s at f. tell s (t.why s at f); steady = t.steady; device = t.device; memory = t.memory }
  where
    tell : (s : List ℕ) → (parse s ≡ Err err) ⊎ Excused grows buffers old new err → (behind_byte target x s ≡ Err err) ⊎ Excused grows buffers old new err
    tell s (inl p) = inl (behind_code target x e s c ∙ h s err p)
    tell s (inr y) = inr y

pub passed_on : {A B : Type 0} (p : Parsed A) (f : A × List ℕ → Parsed B) (err : Error) → p ≡ Err err → (p >>= f) ≡ Err err
passed_on p f err h = rw h refl

sized_data : (k : Kind) (e : EncodingCodes) (w : ℕ) → (row e).kind ≡ k → (row e).category ≡ Variable w → (s : List ℕ) (err : Error) → sized_at w s ≡ Err err → data_at k e s ≡ Err err
unfolding data_at
sized_data k e w h c s err p = rw (kind_same (row e).kind k h, c) (passed_on (sized_at w s) (valued e) err p)

pub sized_err : {V : Type 0} (k : Kind) (grows buffers : Bool) (x : ℕ) (e : EncodingCodes) (w : ℕ) (r : Result V Error) (old new : Reading) → code_of x ≡ Some e → (row e).kind ≡ k → (row e).category ≡ Variable w
    → IfErr r (λ err. Rejects grows buffers (sized_at w) old new err) → IfErr r (λ err. Rejects grows buffers (behind_byte (data_at k) x) old new err)
sized_err k grows buffers x e w r old new c h l t = refused_data (data_at k) grows buffers x e (sized_at w) r old new c (sized_data k e w h l) t

-- what is refused as a text is refused as the code's data
refused_as : (err : Error) (b : List ℕ × List ℕ) → (if false then Ok b else Err InvalidUtf8Encoding) ≡ Err err → InvalidUtf8Encoding ≡ err
refused_as err b h = cc

refused_text : (con : List ℕ → Scalar) (t : Bool) (err : Error) (b : List ℕ × List ℕ) (o : Option Scalar) → o ≡ (if t then Some (con b.0) else None) → (if t then Ok b else Err InvalidUtf8Encoding) ≡ Err err → value_or_refusal InvalidUtf8Encoding o b.1 ≡ Err err
refused_text con true err b o p h = absurd cc
refused_text con false err b o p h = rw p (ap Err (refused_as err b h))

refused_parse : (e : EncodingCodes) (con : List ℕ → Scalar) (p : Parsed (List ℕ)) (err : Error) → bad_payload (row e).kind ≡ InvalidUtf8Encoding → ((b : List ℕ) → payload e b ≡ (if is_utf8 b then Some (con b) else None))
    → (p >>= utf8) ≡ Err err → (p >>= valued e) ≡ Err err
refused_parse e con (Ok b) err n f h = rw n (refused_text con (is_utf8 b.0) err b (payload e b.0) (f b.0) h)
refused_parse e con (Err x) err n f h = let q : x ≡ err = cc in ap Err q

pub text_data_refused : (k : Kind) (e : EncodingCodes) (con : List ℕ → Scalar) (w : ℕ) → (row e).kind ≡ k → (row e).category ≡ Variable w → bad_payload (row e).kind ≡ InvalidUtf8Encoding → ((b : List ℕ) → payload e b ≡ (if is_utf8 b then Some (con b) else None))
    → (s : List ℕ) (err : Error) → text_at w s ≡ Err err → data_at k e s ≡ Err err
unfolding data_at
text_data_refused k e con w h c n f s err p = rw (kind_same (row e).kind k h, c) (refused_parse e con (sized_at w s) err n f p)

pub text_err : {V : Type 0} (k : Kind) (con : List ℕ → Scalar) (buffers : Bool) (x : ℕ) (e : EncodingCodes) (w : ℕ) (r : Result V Error) (old new : Reading) → code_of x ≡ Some e → (row e).kind ≡ k → (row e).category ≡ Variable w
    → bad_payload (row e).kind ≡ InvalidUtf8Encoding → ((b : List ℕ) → payload e b ≡ (if is_utf8 b then Some (con b) else None))
    → IfErr r (λ err. Rejects true buffers (text_at w) old new err) → IfErr r (λ err. Rejects true buffers (behind_byte (data_at k) x) old new err)
text_err k con buffers x e w r old new c h l n f t = refused_data (data_at k) true buffers x e (text_at w) r old new c (text_data_refused k e con w h l n f) t

-- ---- memory is asked for only where the payload is there

-- the length isn't
pub number_first : (buffers : Bool) (w n : ℕ) (old new : Reading) (e : Error) → Unread buffers buffers n old new e → BytesFirst buffers (sized_at w) old e
number_first buffers w n old new e u = record { there = λ m. inl (unread_memory n old new e u.why m) }

held : (n : ℕ) (s : List ℕ) → n ≤ length s → bytes_at n s ≡ Err (Io UnexpectedEof) → ⊥
held n s h p = cc (rw (le-ltb (length s) n h) at p)

holds_known : (n : ℕ) (k : Option (List ℕ)) (s : List ℕ) → k ≡ Some s → Holds n k → n ≤ length s
holds_known n None s e h = absurd cc
holds_known n (Some t) s e h = let q : t ≡ s = cc in rw q at h

pub payload_first : {V : Type 0} (buffers : Bool) (w n : ℕ) (old mid : Reading) (r : Result V Error) → Number w n old mid → IfErr r (λ e. (e ≡ OutOfMemory) → (IsTrue buffers ⊎ Holds n mid.to_come)) → IfErr r (λ e. BytesFirst buffers (sized_at w) old e)
payload_first buffers w n old mid (Ok v) d h = tt
payload_first buffers w n old mid (Err e) d h = record { there = λ m. tell (h m) }
  where
    tell : IsTrue buffers ⊎ Holds n mid.to_come → IsTrue buffers ⊎ ((s : List ℕ) → old.to_come ≡ Some s → sized_at w s ≡ Err (Io UnexpectedEof) → ⊥)
    tell (inl b) = inl b
    tell (inr k) = inr (λ s at p.
        let b = behind old mid s d.digits d.step at in
        let q : bytes_at n b.0 ≡ Err (Io UnexpectedEof) = sym (ap sized_at_w b.2 ∙ (length_there w d.digits b.0 d.len ∙ ap (λ (m : ℕ). bytes_at m b.0) d.value)) ∙ p in
        held n b.0 (holds_known n mid.to_come b.0 b.1 k) q)
      where
        sized_at_w : List ℕ → Parsed (List ℕ)
        sized_at_w s = sized_at w s

-- another refusal than want of memory
pub other_first : {A : Type 0} (buffers : Bool) (parse : List ℕ → Parsed A) (old : Reading) (e : Error) → (e ≡ OutOfMemory → ⊥) → BytesFirst buffers parse old e
other_first buffers parse old e h = record { there = λ m. absurd (h m) }

short_value : (bad : Error) (o : Option Scalar) (s : List ℕ) → (bad ≡ Io UnexpectedEof → ⊥) → value_or_refusal bad o s ≡ Err (Io UnexpectedEof) → ⊥
short_value bad None s n p = let q : bad ≡ Io UnexpectedEof = cc in n q
short_value bad (Some v) s n p = cc

short_size : (e : EncodingCodes) (p : Parsed (List ℕ)) → (bad_payload (row e).kind ≡ Io UnexpectedEof → ⊥) → (p >>= valued e) ≡ Err (Io UnexpectedEof) → p ≡ Err (Io UnexpectedEof)
short_size e (Ok b) n h = absurd (short_value (bad_payload (row e).kind) (payload e b.0) b.1 n h)
short_size e (Err x) n h = let q : x ≡ Io UnexpectedEof = cc in ap Err q

-- the data of a code are cut short where their payload is
short_data_size : (k : Kind) (x : ℕ) (e : EncodingCodes) (w : ℕ) (s : List ℕ) → code_of x ≡ Some e → (row e).kind ≡ k → (row e).category ≡ Variable w → (bad_payload (row e).kind ≡ Io UnexpectedEof → ⊥)
    → behind_byte (data_at k) x s ≡ Err (Io UnexpectedEof) → sized_at w s ≡ Err (Io UnexpectedEof)
unfolding data_at
short_data_size k x e w s c h l n p = short_size e (sized_at w s) n (rw (kind_same (row e).kind k h, l) at (sym (behind_code (data_at k) x e s c) ∙ p))

pub data_first : {V : Type 0} (k : Kind) (buffers : Bool) (x : ℕ) (e : EncodingCodes) (w : ℕ) (r : Result V Error) (old : Reading) → code_of x ≡ Some e → (row e).kind ≡ k → (row e).category ≡ Variable w → (bad_payload (row e).kind ≡ Io UnexpectedEof → ⊥)
    → IfErr r (λ err. BytesFirst buffers (sized_at w) old err) → IfErr r (λ err. BytesFirst buffers (behind_byte (data_at k) x) old err)
data_first k buffers x e w (Ok v) old c h l n t = tt
data_first k buffers x e w (Err err) old c h l n t = record { there = λ m. tell (t.there m) }
  where
    tell : IsTrue buffers ⊎ ((s : List ℕ) → old.to_come ≡ Some s → sized_at w s ≡ Err (Io UnexpectedEof) → ⊥) → IsTrue buffers ⊎ ((s : List ℕ) → old.to_come ≡ Some s → behind_byte (data_at k) x s ≡ Err (Io UnexpectedEof) → ⊥)
    tell (inl b) = inl b
    tell (inr f) = inr (λ s at p. f s at (short_data_size k x e w s c h l n p))
