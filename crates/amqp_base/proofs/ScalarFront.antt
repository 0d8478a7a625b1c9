-- The front of an item without parts, by its code byte.
use Rattle.std.proofs.Common.{◌≡◌, ℕ, zero, suc, ◌+◌, ◌*◌, ◌<◌, ◌≤◌, true, false, List, [], ◌∷◌, ◌++◌, length, take, drop, get_or, Some, refl, sym, ap, subst, ◌∙◌, arith}
use Rattle.std.proofs.lemmas.List.{length-append, length-take, take-append-drop, take_at}
use Rattle.std.proofs.lemmas.Option.{same_Some}
use Rattle.std.specs.Str.{is_utf8, all_scalars}
use Rattle.amqp_base.specs.declared.format_code.EncodingCodes.{EncodingCodes}
use Rattle.amqp_base.specs.declared.format_code.EncodingCodes.TheVariants.{BooleanTrue, BooleanFalse}
use Rattle.amqp_base.specs.declared.format_code.Category.{Category}
use Rattle.amqp_base.specs.declared.format_code.Category.TheVariants.{Fixed}
use Rattle.amqp_base.specs.Codes.{Kind, row, code_of}
use Rattle.amqp_base.specs.Item.{Scalar, boolean, scalar}
use Rattle.amqp_base.specs.Value.{number, payload, read, boolean_of}
use Rattle.amqp_base.specs.Wire.{Rules, bare, ScalarData, fixed, variable, Wire, of_code, of_data, Data, of_fixed, of_variable, Front}
use Rattle.amqp_base.specs.Canon.{kind_of}
use Rattle.amqp_base.proofs.ScalarStrict.{if_some}

pub boolean_kind : (n : ℕ) (v : Scalar) → boolean_of n ≡ Some v → Kind.boolean ≡ kind_of v
boolean_kind zero v h = ap kind_of (same_Some _ v h)
boolean_kind (suc zero) v h = ap kind_of (same_Some _ v h)
boolean_kind (suc (suc n)) v h = absurd cc

read_kind : (k : Kind) (b : List ℕ) (v : Scalar) → read k b ≡ Some v → k ≡ kind_of v
unfolding read
read_kind Kind.boolean b v h = boolean_kind (number b) v h
read_kind Kind.char b v h = ap kind_of (same_Some _ v (if_some (all_scalars (number b ∷ [])) _ v h).1)
read_kind Kind.string b v h = ap kind_of (same_Some _ v (if_some (is_utf8 b) _ v h).1)
read_kind Kind.symbol b v h = ap kind_of (same_Some _ v (if_some (is_utf8 b) _ v h).1)
read_kind Kind.list b v h = absurd cc
read_kind Kind.map b v h = absurd cc
read_kind Kind.array b v h = absurd cc
read_kind Kind.described b v h = absurd cc
read_kind _ b v h = ap kind_of (same_Some _ v h)

-- what is read under a code is of the code's kind
pub payload_kind : (e : EncodingCodes) (b : List ℕ) (v : Scalar) → payload e b ≡ Some v → (row e).kind ≡ kind_of v
unfolding payload row
payload_kind BooleanTrue b v h = ap kind_of (same_Some (boolean true) v h)
payload_kind BooleanFalse b v h = ap kind_of (same_Some (boolean false) v h)
payload_kind e b v h = read_kind (row e).kind b v h

data_kind : {e : EncodingCodes} {c : Category} {b : List ℕ} {v : Scalar} → ScalarData e c b v → (row e).kind ≡ kind_of v
data_kind {e} {b = b} {v = v} (fixed l p) = payload_kind e b v p
data_kind {e} {v = v} (variable l b ll n p) = payload_kind e b v p

-- a code byte, and data of a code of the item's kind behind it
pub record Begins (s : List ℕ) (n : ℕ) (v : Scalar) : Type 0 where
  pub x : ℕ
  pub code : EncodingCodes
  pub text : List ℕ
  pub rest : List ℕ
  pub parts : s ≡ x ∷ (text ++ rest)
  pub code_is : code_of x ≡ Some code
  pub kind_is : (row code).kind ≡ kind_of v
  pub there : ScalarData code (row code).category text v
  pub takes : n ≡ suc (length text)

data_of : {r : Rules} {e : EncodingCodes} {k : Kind} {c : Category} {b : List ℕ} {v : Scalar} → Data r e k c b (scalar v) → ScalarData e c b v
data_of (of_fixed h) = h
data_of (of_variable h) = h

begins : {r : Rules} {b : List ℕ} {v : Scalar} → Wire r bare b (scalar v) → (t : List ℕ) (n : ℕ) → length b ≡ n → Begins (b ++ t) n v
begins (of_code {x = x} {e = e} {b = b} p (of_data h)) t n l =
    let d = data_of h in
    record { x = x; code = e; text = b; rest = t; parts = refl; code_is = p; kind_is = data_kind d; there = d; takes = sym l }

pub front_begins : (r : Rules) (s : List ℕ) (v : Scalar) (n : ℕ) → Front r bare s (scalar v) n → Begins s n v
front_begins r s v n f =
    subst (λ (x : List ℕ). Begins x n v) (take-append-drop n s) (begins f.spelled (drop n s) n (omega (arith, f.within, length-take n s)))

wire_of : {r : Rules} {e : EncodingCodes} {k : Kind} {c : Category} {b : List ℕ} {v : Scalar} → ScalarData e c b v → Data r e k c b (scalar v)
wire_of (fixed l p) = of_fixed (fixed l p)
wire_of (variable l b ll n p) = of_variable (variable l b ll n p)

pub begins_front : (r : Rules) (s : List ℕ) (v : Scalar) (n : ℕ) → Begins s n v → Front r bare s (scalar v) n
begins_front r s v n b =
    let front : take n s ≡ b.x ∷ b.text = rw (b.parts) (take_at (b.x ∷ b.text) b.rest n (sym b.takes)) in
    let len : length s ≡ suc (length b.text + length b.rest) = ap (λ (t : List ℕ). length t) b.parts ∙ ap suc (length-append b.text b.rest) in
    record { within = omega (arith, len, b.takes); spelled = rw front (of_code b.code_is (of_data (wire_of b.there))) }

-- ---- by the code at the front

pub found : (r : Rules) (s : List ℕ) (e : EncodingCodes) (w : ℕ) (v : Scalar) → w < length s → code_of (get_or s 0 0) ≡ Some e → (row e).category ≡ Fixed w → payload e (take w (drop 1 s)) ≡ Some v → Front r bare s (scalar v) (suc w)
found r [] e w v l p c q = absurd (omega arith)
found r (x ∷ s) e w v l p c q =
    begins_front r (x ∷ s) v (suc w) (record {
      x = x;
      code = e;
      text = take w s;
      rest = drop w s;
      parts = ap (λ (t : List ℕ). x ∷ t) (sym (take-append-drop w s));
      code_is = p;
      kind_is = payload_kind e (take w s) v q;
      there = subst (λ (k : Category). ScalarData e k (take w s) v) (sym c) (fixed (omega (arith, length-take w s)) q);
      takes = omega (arith, length-take w s);
    })

pub other_kind : (r : Rules) (s : List ℕ) (v : Scalar) (n : ℕ) → ((e : EncodingCodes) → code_of (get_or s 0 0) ≡ Some e → (row e).kind ≡ kind_of v → ⊥) → Front r bare s (scalar v) n → ⊥
other_kind r s v n h f =
    let b = front_begins r s v n f in
    let head : get_or s 0 0 ≡ b.x = ap (λ (t : List ℕ). get_or t 0 0) b.parts in
    h b.code (ap code_of head ∙ b.code_is) b.kind_is

pub number_4 : (s : List ℕ) → 5 ≤ length s → number (take 4 (drop 1 s)) ≡ get_or s 1 0 * 16777216 + get_or s 2 0 * 65536 + get_or s 3 0 * 256 + get_or s 4 0
number_4 (x ∷ a ∷ b ∷ c ∷ d ∷ s) h = omega arith
number_4 [] h = absurd (omega arith)
number_4 (x ∷ []) h = absurd (omega arith)
number_4 (x ∷ a ∷ []) h = absurd (omega arith)
number_4 (x ∷ a ∷ b ∷ []) h = absurd (omega arith)
number_4 (x ∷ a ∷ b ∷ c ∷ []) h = absurd (omega arith)

pub number_1 : (s : List ℕ) → 2 ≤ length s → number (take 1 (drop 1 s)) ≡ get_or s 1 0
number_1 (x ∷ a ∷ s) h = omega arith
number_1 [] h = absurd (omega arith)
number_1 (x ∷ []) h = absurd (omega arith)
