-- The text of an item without parts, with its code, is read as that item.
use Rattle.std.proofs.Common.{◌≡◌, ℕ, ℤ, Bool, true, false, cond, ltb, leb, eqb, ◌⊎◌, List, [], ◌∷◌, length, Option, Some, None, refl, sym, ap, subst, ◌∙◌, arith, inl, inr, ⊎_elim}
use Rattle.std.proofs.lemmas.Bool.{ltb-true, eqb-true}
use Rattle.std.proofs.lemmas.Option.{same_Some}
use Rattle.std.specs.Str.{is_utf8}
use Rattle.amqp_base.specs.declared.format_code.EncodingCodes.{EncodingCodes}
use Rattle.amqp_base.specs.declared.format_code.EncodingCodes.TheVariants.{Null, BooleanTrue, BooleanFalse, SmallUint, Uint0, SmallUlong, Ulong0, SmallInt, SmallLong, Vbin8, Str8, Sym8}
use Rattle.amqp_base.specs.declared.format_code.Category.TheVariants.{Fixed, Variable}
use Rattle.amqp_base.specs.Codes.{Kind, row, code_of, widest}
use Rattle.amqp_base.specs.Item.{Scalar, null, boolean, uint, ulong, int, long, binary, string, symbol}
use Rattle.amqp_base.specs.Value.{number, signed, read, payload}
use Rattle.amqp_base.specs.Wire.{ScalarData, fixed, variable, ScalarText, code_and_data}
use Rattle.amqp_base.specs.Canon.{◌>>=◌, or_else, kind_of, when, in_two's_complement, magnitude, short_number, short_signed, short_payload, short_text, wide_text, scalar_body, scalar_text}
use Rattle.amqp_base.proofs.Numbers.{signed_again}
use Rattle.amqp_base.proofs.ScalarStrict.{when_some, if_some, text_payload, scalar_strict}

pub bind_some : {A B : Type 0} (o : Option A) (f : A → Option B) (y : B) → (o >>= f) ≡ Some y → (x : A) × (o ≡ Some x) × (f x ≡ Some y)
bind_some (Some x) f y e = (x, refl, e)
bind_some None f y e = absurd cc

pub if_cases : {A : Type 0} (t : Bool) (a b c : Option A) → cond t a b ≡ c → ((t ≡ true) × (a ≡ c)) ⊎ ((t ≡ false) × (b ≡ c))
if_cases true a b c h = inl (refl, h)
if_cases false a b c h = inr (refl, h)

pub else_cases : {A : Type 0} (o p : Option A) (y : A) → or_else o p ≡ Some y → (o ≡ Some y) ⊎ (p ≡ Some y)
else_cases (Some x) p y h = inl h
else_cases None p y h = inr h

as_text : {b c : List ℕ} {v : Scalar} → Some b ≡ Some c → ScalarText b v → ScalarText c v
as_text {b} {c} {v} h t = subst (λ (d : List ℕ). ScalarText d v) (same_Some b c h) t

short_number_strict : (z e : EncodingCodes) (K : ℕ → Scalar) (zb eb : ℕ) → code_of zb ≡ Some z → code_of eb ≡ Some e
    → ((b : List ℕ) → ScalarData z (Fixed 0) [] (K 0) → ScalarData z (row z).category [] (K 0))
    → ((n : ℕ) (b : List ℕ) → ScalarData e (Fixed 1) b (K n) → ScalarData e (row e).category b (K n))
    → ((b : List ℕ) → payload z b ≡ Some (K (number b))) → ((b : List ℕ) → payload e b ≡ Some (K (number b)))
    → (n : ℕ) (b : List ℕ) → short_number zb eb n ≡ Some b → ScalarText b (K n)
short_number_strict z e K zb eb cz ce az ae pz pe n b h =
    ⊎_elim
    (λ q. let n0 : 0 ≡ n = sym (eqb-true n 0 q.0) in
    as_text q.1 (subst (λ (m : ℕ). ScalarText (zb ∷ []) (K m)) n0 (code_and_data cz (az [] (fixed refl (pz []))))))
    (λ q. let s = when_some (ltb n 256) (eb ∷ n ∷ []) b q.1 in
    let m : number (n ∷ []) ≡ n = omega arith in
    subst (λ (d : List ℕ). ScalarText d (K n)) s.1 (code_and_data ce (ae n (n ∷ []) (fixed refl (pe (n ∷ []) ∙ ap (λ (k : ℕ). Some (K k)) m)))))
    (if_cases (eqb n 0) (Some (zb ∷ [])) (when (ltb n 256) (eb ∷ n ∷ [])) (Some b) h)

short_signed_strict : (e : EncodingCodes) (K : ℤ → Scalar) (eb : ℕ) → code_of eb ≡ Some e
    → ((z : ℤ) (b : List ℕ) → ScalarData e (Fixed 1) b (K z) → ScalarData e (row e).category b (K z))
    → ((b : List ℕ) → payload e b ≡ Some (K (signed b)))
    → (z : ℤ) (b : List ℕ) → short_signed eb z ≡ Some b → ScalarText b (K z)
short_signed_strict e K eb ce ae pe z b h =
    let n : ℕ = in_two's_complement 1 z in
    let s = when_some (ltb (magnitude z) 128) (eb ∷ n ∷ []) b h in
    let m : signed (n ∷ []) ≡ z = signed_again 1 (n ∷ []) z refl (omega arith) (omega (arith, ltb-true (magnitude z) 128 s.0)) in
    subst (λ (d : List ℕ). ScalarText d (K z)) s.1 (code_and_data ce (ae z (n ∷ []) (fixed refl (pe (n ∷ []) ∙ ap (λ (k : ℤ). Some (K k)) m))))

short_payload_strict : (e : EncodingCodes) (v : Scalar) (eb : ℕ) → code_of eb ≡ Some e
    → ((b : List ℕ) → ScalarData e (Variable 1) b v → ScalarData e (row e).category b v)
    → (c b : List ℕ) → payload e c ≡ Some v → short_payload eb c ≡ Some b → ScalarText b v
short_payload_strict e v eb ce ae c b p h =
    let s = when_some (leb (length c) 254) (eb ∷ length c ∷ c) b h in
    let m : number (length c ∷ []) ≡ length c = omega arith in
    subst (λ (d : List ℕ). ScalarText d v) s.1 (code_and_data ce (ae (length c ∷ c) (variable (length c ∷ []) c refl m p)))

short_strict : (v : Scalar) (b : List ℕ) → short_text v ≡ Some b → ScalarText b v
unfolding short_text code_of row payload read
short_strict null b h = as_text h (code_and_data {e = Null} refl (fixed refl refl))
short_strict (boolean true) b h = as_text h (code_and_data {e = BooleanTrue} refl (fixed refl refl))
short_strict (boolean false) b h = as_text h (code_and_data {e = BooleanFalse} refl (fixed refl refl))
short_strict (uint n) b h = short_number_strict Uint0 SmallUint uint 0x43 0x52 refl refl (λ c t. t) (λ m c t. t) (λ c. refl) (λ c. refl) n b h
short_strict (ulong n) b h = short_number_strict Ulong0 SmallUlong ulong 0x44 0x53 refl refl (λ c t. t) (λ m c t. t) (λ c. refl) (λ c. refl) n b h
short_strict (int z) b h = short_signed_strict SmallInt int 0x54 refl (λ m c t. t) (λ c. refl) z b h
short_strict (long z) b h = short_signed_strict SmallLong long 0x55 refl (λ m c t. t) (λ c. refl) z b h
short_strict (binary c) b h = short_payload_strict Vbin8 (binary c) 0xa0 refl (λ d t. t) c b refl h
short_strict (string c) b h = let s = if_some (is_utf8 c) (short_payload 0xa1 c) b h in short_payload_strict Str8 (string c) 0xa1 refl (λ d t. t) c b (text_payload (is_utf8 c) (string c) s.0) s.1
short_strict (symbol c) b h = let s = if_some (is_utf8 c) (short_payload 0xa3 c) b h in short_payload_strict Sym8 (symbol c) 0xa3 refl (λ d t. t) c b (text_payload (is_utf8 c) (symbol c) s.0) s.1
short_strict _ b h = absurd cc

pub widest_code : (k : Kind) (e : EncodingCodes) → widest k ≡ Some e → code_of (row e).byte ≡ Some e
unfolding widest code_of row
widest_code Kind.described e h = absurd cc
widest_code Kind.null e h = absurd cc
widest_code _ e h = subst (λ (d : EncodingCodes). code_of (row d).byte ≡ Some d) (same_Some _ e h) refl

pub scalar_text_strict : (v : Scalar) (b : List ℕ) → scalar_text v ≡ Some b → ScalarText b v
unfolding scalar_text
scalar_text_strict v b h =
    ⊎_elim (short_strict v b)
    (λ w. let p = bind_some (widest (kind_of v)) (λ e. scalar_body v >>= λ c. Some ((row e).byte ∷ c)) b w in
    let q = bind_some (scalar_body v) (λ c. Some ((row p.0).byte ∷ c)) b p.2 in
    as_text q.2 (code_and_data (widest_code (kind_of v) p.0 p.1) (scalar_strict v p.0 q.0 p.1 q.1)))
    (else_cases (short_text v) (wide_text v) b h)
