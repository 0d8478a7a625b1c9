-- No strict form is shorter than the canonical text, where nothing in it is an array or a payload of 255 bytes.
use Rattle.std.proofs.Common.{◌≡◌, ℕ, zero, suc, ◌+◌, ◌-◌, ◌/◌, ◌^◌, ◌<◌, ◌≤◌, ℤ, pos, negsuc, Bool, true, false, cond, ltb, leb, eqb, ◌⊎◌, List, [], ◌∷◌, ◌++◌, length, get_or, Option, Some, None, refl, sym, ap, subst, ◌∙◌, arith, inl, inr, ⊎_elim}
use Rattle.std.proofs.lemmas.Bool.{ltb-true, ltb-false, leb-false, eqb-true, eqb-false, cases_lt, lt-ltb, le-leb}
use Rattle.std.proofs.lemmas.List.{length-append, get_or_append_left, get_or-append-add, get_or_past}
use Rattle.std.proofs.lemmas.Option.{same_Some}
use Rattle.std.specs.Int.{bytes_high_first}
use Rattle.std.specs.Str.{is_utf8, all_scalars}
use Rattle.amqp_base.specs.declared.format_code.EncodingCodes.{EncodingCodes}
use Rattle.amqp_base.specs.declared.format_code.EncodingCodes.TheVariants.{DescribedType, Boolean, Uint, SmallUint, Uint0, Ulong, SmallUlong, Ulong0, Int, SmallInt, Long, SmallLong, Char, Vbin8, Vbin32, Str8, Str32, Sym8, Sym32, List0, List8, List32, Map8, Map32, Array8, Array32}
use Rattle.amqp_base.specs.declared.format_code.Category.{Category}
use Rattle.amqp_base.specs.declared.format_code.Category.TheVariants.{Fixed, Variable, Compound, Array}
use Rattle.amqp_base.specs.Codes.{Kind, row, widest}
use Rattle.amqp_base.specs.Item.{Scalar, null, boolean, ubyte, ushort, uint, ulong, byte, short, int, long, float, double, decimal32, decimal64, decimal128, char, timestamp, uuid, binary, string, symbol, Descriptor, descriptor_item, Item, scalar, list, map, array, described, Items, none, more, Pairs, no_pairs, pair, count, in_turn}
use Rattle.amqp_base.specs.Value.{number, signed, payload, read, boolean_of}
use Rattle.amqp_base.specs.Wire.{Rules, strict, bare, ScalarData, fixed, variable, ScalarText, code_and_data, Wire, of_code, of_described, of_data, Data, of_fixed, of_variable, list0, of_list, of_map, Parts, no_part, part}
use Rattle.amqp_base.specs.Canon.{◌>>=◌, or_else, kind_of, when, unsigned, twos, exactly, sized, limit, magnitude, in_two's_complement, short_text, wide_text, scalar_body, scalar_text, headed, wide_body, compound_text, list_text, descriptor_text, canon, canons, pair_canons}
use Rattle.amqp_base.specs.Laws.{IsUsual, Usual, UsualIn, UsualInPairs, AreBytes, CanonShortest}
use Rattle.amqp_base.proofs.Numbers.{written_length}
use Rattle.amqp_base.proofs.ScalarStrict.{when_some, if_some}
use Rattle.amqp_base.proofs.ShortStrict.{bind_some, if_cases}

-- ---- bytes

pub bytes_left : (a b : List ℕ) → AreBytes (a ++ b) → AreBytes a
bytes_left a b h k = go (dec k)
  where
    dec : (k : ℕ) → (k < length a) ⊎ (length a ≤ k)
    dec k = cases_lt k (length a)

    go : (k < length a) ⊎ (length a ≤ k) → get_or a k 0 < 256
    go (inl l) = subst (λ (n : ℕ). n < 256) (get_or_append_left a b 0 k l) (h k)
    go (inr l) = rw (get_or_past a k 0 l) (omega arith)

pub bytes_right : (a b : List ℕ) → AreBytes (a ++ b) → AreBytes b
bytes_right a b h k = subst (λ (n : ℕ). n < 256) (get_or-append-add a b k 0) (h (length a + k))

pub bytes_rest : (x : ℕ) (b : List ℕ) → AreBytes (x ∷ b) → AreBytes b
bytes_rest x b h k = h (suc k)

pub one_byte : (z : List ℕ) → length z ≡ 1 → AreBytes z → number z < 256
one_byte [] l h = absurd (omega arith)
one_byte (x ∷ []) l h = omega (arith, h 0)
one_byte (x ∷ y ∷ z) l h = absurd (omega arith)

-- ---- the length of the text of an item without parts

abbrev number_length : ℕ → ℕ → ℕ
number_length wide n = cond (eqb n 0) 1 (cond (ltb n 256) 2 wide)

abbrev signed_length : ℕ → ℤ → ℕ
signed_length wide z = cond (ltb (magnitude z) 128) 2 wide

abbrev payload_length : List ℕ → ℕ
payload_length b = cond (leb (length b) 254) (2 + length b) (5 + length b)

abbrev least : Scalar → ℕ
least null = 1
least (boolean b) = 1
least (ubyte n) = 2
least (ushort n) = 3
least (uint n) = number_length 5 n
least (ulong n) = number_length 9 n
least (byte z) = 2
least (short z) = 3
least (int z) = signed_length 5 z
least (long z) = signed_length 9 z
least (float n) = 5
least (double n) = 9
least (decimal32 b) = 5
least (decimal64 b) = 9
least (decimal128 b) = 17
least (char n) = 5
least (timestamp z) = 9
least (uuid b) = 17
least (binary b) = payload_length b
least (string b) = payload_length b
least (symbol b) = payload_length b

same_length : (a b : List ℕ) → Some a ≡ Some b → length a ≡ length b
same_length a b h = ap (λ (x : List ℕ). length x) (same_Some a b h)

unsigned_length : (w n : ℕ) (b : List ℕ) → unsigned w n ≡ Some b → length b ≡ w
unsigned_length w n b h = let s = when_some (ltb n (256 ^ w)) (bytes_high_first w n) b h in ap (λ (x : List ℕ). length x) (sym s.1) ∙ written_length w n

twos_length : (w : ℕ) (z : ℤ) (b : List ℕ) → twos w z ≡ Some b → length b ≡ w
twos_length w z b h = let s = when_some (ltb (magnitude z) (256 ^ w / 2)) (bytes_high_first w (in_two's_complement w z)) b h in ap (λ (x : List ℕ). length x) (sym s.1) ∙ written_length w (in_two's_complement w z)

exact_length : (w : ℕ) (c b : List ℕ) → exactly w c ≡ Some b → length b ≡ w
exact_length w c b h = let s = when_some (eqb (length c) w) c b h in ap (λ (x : List ℕ). length x) (sym s.1) ∙ eqb-true (length c) w s.0

char_length : (n : ℕ) (b : List ℕ) → when (all_scalars (n ∷ [])) (bytes_high_first 4 n) ≡ Some b → length b ≡ 4
char_length n b h = let s = when_some (all_scalars (n ∷ [])) (bytes_high_first 4 n) b h in ap (λ (x : List ℕ). length x) (sym s.1)

sized_length : (c b : List ℕ) → sized c ≡ Some b → length b ≡ 4 + length c
sized_length c b h = let s = when_some (leb (length c) limit) (bytes_high_first 4 (length c) ++ c) b h in ap (λ (x : List ℕ). length x) (sym s.1) ∙ (let e : length (bytes_high_first 4 (length c) ++ c) ≡ 4 + length c = omega (arith, length-append (bytes_high_first 4 (length c)) c) in e)

wide_of : (v : Scalar) (t : List ℕ) → wide_text v ≡ Some t → (b : List ℕ) × (scalar_body v ≡ Some b) × (length t ≡ suc (length b))
wide_of v t w =
    let p = bind_some (widest (kind_of v)) (λ e. scalar_body v >>= λ c. Some ((row e).byte ∷ c)) t w in
    let q = bind_some (scalar_body v) (λ c. Some ((row p.0).byte ∷ c)) t p.2 in
    (q.0, q.1, sym (same_length ((row p.0).byte ∷ q.0) t q.2))

-- where the body of v has n bytes
wide_length : (v : Scalar) (n : ℕ) → ((b : List ℕ) → scalar_body v ≡ Some b → length b ≡ n) → (t : List ℕ) → wide_text v ≡ Some t → length t ≡ suc n
wide_length v n f t h = let w = wide_of v t h in w.2 ∙ ap suc (f w.0 w.1)

number_text : (z e wide n : ℕ) (p : Option (List ℕ)) (t : List ℕ) → (p ≡ Some t → length t ≤ wide) → (x y : Bool) → or_else (cond x (Some (z ∷ [])) (when y (e ∷ n ∷ []))) p ≡ Some t → length t ≤ cond x 1 (cond y 2 wide)
number_text z e wide n p t f true y h = omega (arith, same_length (z ∷ []) t h)
number_text z e wide n p t f false true h = omega (arith, same_length (e ∷ n ∷ []) t h)
number_text z e wide n p t f false false h = f h

signed_text : (e m wide : ℕ) (p : Option (List ℕ)) (t : List ℕ) → (p ≡ Some t → length t ≤ wide) → (x : Bool) → or_else (when x (e ∷ m ∷ [])) p ≡ Some t → length t ≤ cond x 2 wide
signed_text e m wide p t f true h = omega (arith, same_length (e ∷ m ∷ []) t h)
signed_text e m wide p t f false h = f h

payload_text : (e : ℕ) (b : List ℕ) (p : Option (List ℕ)) (t : List ℕ) (u : Bool) → (p ≡ Some t → (u ≡ true) × (length t ≤ 5 + length b)) → (x : Bool) → or_else (cond u (when x (e ∷ length b ∷ b)) None) p ≡ Some t → length t ≤ cond x (2 + length b) (5 + length b)
payload_text e b p t true f true h = omega (arith, same_length (e ∷ length b ∷ b) t h)
payload_text e b p t true f false h = (f h).1
payload_text e b p t false f x h = let q : false ≡ true = (f h).0 in absurd cc

utf8_length : (u : Bool) (c b : List ℕ) → cond u (sized c) None ≡ Some b → (u ≡ true) × (length b ≡ 4 + length c)
utf8_length u c b h = let s = if_some u (sized c) b h in (s.0, sized_length c b s.1)

text_least : (v : Scalar) (t : List ℕ) → scalar_text v ≡ Some t → length t ≤ least v
unfolding scalar_text short_text scalar_body
text_least null t h = omega (arith, same_length (0x40 ∷ []) t h)
text_least (boolean true) t h = omega (arith, same_length (0x41 ∷ []) t h)
text_least (boolean false) t h = omega (arith, same_length (0x42 ∷ []) t h)
text_least (ubyte n) t h = omega (arith, wide_length (ubyte n) 1 (unsigned_length 1 n) t h)
text_least (ushort n) t h = omega (arith, wide_length (ushort n) 2 (unsigned_length 2 n) t h)
text_least (uint n) t h = number_text 0x43 0x52 5 n (wide_text (uint n)) t (λ w. omega (arith, wide_length (uint n) 4 (unsigned_length 4 n) t w)) (eqb n 0) (ltb n 256) h
text_least (ulong n) t h = number_text 0x44 0x53 9 n (wide_text (ulong n)) t (λ w. omega (arith, wide_length (ulong n) 8 (unsigned_length 8 n) t w)) (eqb n 0) (ltb n 256) h
text_least (byte z) t h = omega (arith, wide_length (byte z) 1 (twos_length 1 z) t h)
text_least (short z) t h = omega (arith, wide_length (short z) 2 (twos_length 2 z) t h)
text_least (int z) t h = signed_text 0x54 (in_two's_complement 1 z) 5 (wide_text (int z)) t (λ w. omega (arith, wide_length (int z) 4 (twos_length 4 z) t w)) (ltb (magnitude z) 128) h
text_least (long z) t h = signed_text 0x55 (in_two's_complement 1 z) 9 (wide_text (long z)) t (λ w. omega (arith, wide_length (long z) 8 (twos_length 8 z) t w)) (ltb (magnitude z) 128) h
text_least (float n) t h = omega (arith, wide_length (float n) 4 (unsigned_length 4 n) t h)
text_least (double n) t h = omega (arith, wide_length (double n) 8 (unsigned_length 8 n) t h)
text_least (decimal32 c) t h = omega (arith, wide_length (decimal32 c) 4 (exact_length 4 c) t h)
text_least (decimal64 c) t h = omega (arith, wide_length (decimal64 c) 8 (exact_length 8 c) t h)
text_least (decimal128 c) t h = omega (arith, wide_length (decimal128 c) 16 (exact_length 16 c) t h)
text_least (char n) t h = omega (arith, wide_length (char n) 4 (char_length n) t h)
text_least (timestamp z) t h = omega (arith, wide_length (timestamp z) 8 (twos_length 8 z) t h)
text_least (uuid c) t h = omega (arith, wide_length (uuid c) 16 (exact_length 16 c) t h)
text_least (binary c) t h = payload_text 0xa0 c (wide_text (binary c)) t true (λ w. (refl, omega (arith, wide_length (binary c) (4 + length c) (sized_length c) t w))) (leb (length c) 254) h
text_least (string c) t h = payload_text 0xa1 c (wide_text (string c)) t (is_utf8 c) (λ w. let x = wide_of (string c) t w in let y = utf8_length (is_utf8 c) c x.0 x.1 in (y.0, omega (arith, x.2, y.1))) (leb (length c) 254) h
text_least (symbol c) t h = payload_text 0xa3 c (wide_text (symbol c)) t (is_utf8 c) (λ w. let x = wide_of (symbol c) t w in let y = utf8_length (is_utf8 c) c x.0 x.1 in (y.0, omega (arith, x.2, y.1))) (leb (length c) 254) h

-- ---- data are no shorter

number_most : (wide n m : ℕ) → 2 ≤ wide → wide ≤ m → number_length wide n ≤ m
number_most wide n m l h = go (eqb n 0) (ltb n 256)
  where
    go : (x y : Bool) → cond x 1 (cond y 2 wide) ≤ m
    go true y = omega arith
    go false true = omega arith
    go false false = h

number_small : (wide n : ℕ) → n < 256 → number_length wide n ≤ 2
number_small wide n h = rw (lt-ltb n 256 h) (go (eqb n 0))
  where
    go : (x : Bool) → cond x 1 2 ≤ 2
    go true = omega arith
    go false = omega arith

signed_most : (wide m : ℕ) (z : ℤ) → 2 ≤ wide → wide ≤ m → signed_length wide z ≤ m
signed_most wide m z l h = go (ltb (magnitude z) 128)
  where
    go : (x : Bool) → cond x 2 wide ≤ m
    go true = omega arith
    go false = h

small_magnitude : (n : ℕ) → n < 256 → (x : Bool) → ltb n 128 ≡ x → magnitude (cond x (pos n) (negsuc (256 - suc n))) < 128
small_magnitude n h true e = ltb-true n 128 e
small_magnitude n h false e = omega (arith, ltb-false n 128 e)

signed_small : (wide : ℕ) (b : List ℕ) → length b ≡ 1 → AreBytes b → signed_length wide (signed b) ≤ 2
signed_small wide b l h =
    let m : magnitude (signed b) < 128 = rw l (small_magnitude (number b) (one_byte b l h) (ltb (number b) 128) refl) in
    rw (lt-ltb (magnitude (signed b)) 128 m) (omega arith)

-- bytes of a fixed code
abbrev width : Category → ℕ
width (Fixed n) = n
width (Variable w) = w
width (Compound w) = w
width (Array w) = w

abbrev IsFixed : Category → Type 0
IsFixed (Fixed n) = Unit {0}
IsFixed (Variable w) = ⊥
IsFixed (Compound w) = ⊥
IsFixed (Array w) = ⊥

at_scalar : (o : Option Scalar) (u v : Scalar) (m : ℕ) → Some u ≡ Some v → least u ≤ m → least v ≤ m
at_scalar o u v m h l = subst (λ (p : Scalar). least p ≤ m) (same_Some u v h) l

boolean_least : (n : ℕ) (v : Scalar) → boolean_of n ≡ Some v → least v ≤ 2
boolean_least zero v h = at_scalar None (boolean false) v 2 h (omega arith)
boolean_least (suc zero) v h = at_scalar None (boolean true) v 2 h (omega arith)
boolean_least (suc (suc n)) v h = absurd cc

fixed_least : (e : EncodingCodes) (b : List ℕ) (v : Scalar) → IsFixed (row e).category → length b ≡ width (row e).category → AreBytes b → payload e b ≡ Some v → least v ≤ suc (width (row e).category)
unfolding row payload read
fixed_least DescribedType b v f l y h = absurd cc
fixed_least Boolean b v f l y h = boolean_least (number b) v h
fixed_least Uint b v f l y h = at_scalar None (uint (number b)) v 5 h (number_most 5 (number b) 5 (omega arith) (omega arith))
fixed_least SmallUint b v f l y h = at_scalar None (uint (number b)) v 2 h (number_small 5 (number b) (one_byte b l y))
fixed_least Uint0 [] v f l y h = at_scalar None (uint 0) v 1 h (omega arith)
fixed_least Uint0 (x ∷ b) v f l y h = absurd (omega arith)
fixed_least Ulong b v f l y h = at_scalar None (ulong (number b)) v 9 h (number_most 9 (number b) 9 (omega arith) (omega arith))
fixed_least SmallUlong b v f l y h = at_scalar None (ulong (number b)) v 2 h (number_small 9 (number b) (one_byte b l y))
fixed_least Ulong0 [] v f l y h = at_scalar None (ulong 0) v 1 h (omega arith)
fixed_least Ulong0 (x ∷ b) v f l y h = absurd (omega arith)
fixed_least Int b v f l y h = at_scalar None (int (signed b)) v 5 h (signed_most 5 5 (signed b) (omega arith) (omega arith))
fixed_least SmallInt b v f l y h = at_scalar None (int (signed b)) v 2 h (signed_small 5 b l y)
fixed_least Long b v f l y h = at_scalar None (long (signed b)) v 9 h (signed_most 9 9 (signed b) (omega arith) (omega arith))
fixed_least SmallLong b v f l y h = at_scalar None (long (signed b)) v 2 h (signed_small 9 b l y)
fixed_least Char b v f l y h = at_scalar None (char (number b)) v 5 (if_some (all_scalars (number b ∷ [])) (Some (char (number b))) v h).1 (omega arith)
fixed_least Vbin8 b v f l y h = absurd f
fixed_least Vbin32 b v f l y h = absurd f
fixed_least Str8 b v f l y h = absurd f
fixed_least Str32 b v f l y h = absurd f
fixed_least Sym8 b v f l y h = absurd f
fixed_least Sym32 b v f l y h = absurd f
fixed_least List0 b v f l y h = absurd cc
fixed_least List8 b v f l y h = absurd f
fixed_least List32 b v f l y h = absurd f
fixed_least Map8 b v f l y h = absurd f
fixed_least Map32 b v f l y h = absurd f
fixed_least Array8 b v f l y h = absurd f
fixed_least Array32 b v f l y h = absurd f
fixed_least _ b v f l y h = at_scalar None _ v _ h (omega arith)

payload_most : (b : List ℕ) (m : ℕ) → 5 + length b ≤ m → payload_length b ≤ m
payload_most b m h = go (leb (length b) 254)
  where
    go : (x : Bool) → cond x (2 + length b) (5 + length b) ≤ m
    go true = omega arith
    go false = h

payload_small : (b : List ℕ) → length b ≤ 255 → (length b ≡ 255 → ⊥) → payload_length b ≤ 2 + length b
payload_small b h ne = rw (le-leb (length b) 254 (omega arith)) (omega arith)

abbrev IsVariable : Category → Type 0
IsVariable (Fixed n) = ⊥
IsVariable (Variable w) = Unit {0}
IsVariable (Compound w) = ⊥
IsVariable (Array w) = ⊥

-- what stands behind a length
Payload : Scalar → List ℕ → Type 0
Payload v b = (binary b ≡ v) ⊎ ((string b ≡ v) ⊎ (symbol b ≡ v))

payload_is : (e : EncodingCodes) (b : List ℕ) (v : Scalar) → IsVariable (row e).category → payload e b ≡ Some v → Payload v b
unfolding row payload read Payload
payload_is Vbin8 b v f h = inl (same_Some (binary b) v h)
payload_is Vbin32 b v f h = inl (same_Some (binary b) v h)
payload_is Str8 b v f h = inr (inl (same_Some (string b) v (if_some (is_utf8 b) (Some (string b)) v h).1))
payload_is Str32 b v f h = inr (inl (same_Some (string b) v (if_some (is_utf8 b) (Some (string b)) v h).1))
payload_is Sym8 b v f h = inr (inr (same_Some (symbol b) v (if_some (is_utf8 b) (Some (symbol b)) v h).1))
payload_is Sym32 b v f h = inr (inr (same_Some (symbol b) v (if_some (is_utf8 b) (Some (symbol b)) v h).1))
payload_is _ b v f h = absurd f

variable_width : (e : EncodingCodes) → IsVariable (row e).category → (width (row e).category ≡ 1) ⊎ (4 ≤ width (row e).category)
unfolding row
variable_width Vbin8 f = inl refl
variable_width Str8 f = inl refl
variable_width Sym8 f = inl refl
variable_width Vbin32 f = inr (omega arith)
variable_width Str32 f = inr (omega arith)
variable_width Sym32 f = inr (omega arith)
variable_width _ f = absurd f

payload_least : (v : Scalar) (b : List ℕ) (m : ℕ) → Payload v b → IsUsual v → ((length b ≡ 255 → ⊥) → payload_length b ≤ m) → least v ≤ m
unfolding Payload
payload_least v b m (inl p) = subst (λ (u : Scalar). IsUsual u → ((length b ≡ 255 → ⊥) → payload_length b ≤ m) → least u ≤ m) p (λ n f. f n)
payload_least v b m (inr (inl p)) = subst (λ (u : Scalar). IsUsual u → ((length b ≡ 255 → ⊥) → payload_length b ≤ m) → least u ≤ m) p (λ n f. f n)
payload_least v b m (inr (inr p)) = subst (λ (u : Scalar). IsUsual u → ((length b ≡ 255 → ⊥) → payload_length b ≤ m) → least u ≤ m) p (λ n f. f n)

data_least : {e : EncodingCodes} {c : Category} {b : List ℕ} {v : Scalar} → ScalarData e c b v → c ≡ (row e).category → IsUsual v → AreBytes b → least v ≤ suc (length b)
data_least {e} (fixed {n = n} {b = b} {v = v} l p) k u y =
    let w : n ≡ width (row e).category = ap width k in
    let f : IsFixed (row e).category = subst IsFixed k tt in
    omega (arith, fixed_least e b v f (l ∙ w) y p)
data_least {e} (variable {w = w} l b {v = v} ll n p) k u y =
    let w' : w ≡ width (row e).category = ap width k in
    let f : IsVariable (row e).category = subst IsVariable k tt in
    let most : ℕ = suc (length (l ++ b)) in
    let bound : (length b ≡ 255 → ⊥) → payload_length b ≤ suc (length (l ++ b)) = λ ne.
    ⊎_elim
    (λ one. let a : length b < 256 = omega (arith, one_byte l (ll ∙ w' ∙ one) (bytes_left l b y), n) in
    omega (arith, payload_small b (omega arith) ne, length-append l b))
    (λ four. payload_most b (suc (length (l ++ b))) (omega (arith, length-append l b)))
    (variable_width e f) in
    payload_least v b (suc (length (l ++ b))) (payload_is e b v f p) u bound

-- ---- compounds

data_of : {r : Rules} {e : EncodingCodes} {k : Kind} {c : Category} {b : List ℕ} {v : Scalar} → Data r e k c b (scalar v) → ScalarData e c b v
data_of (of_fixed h) = h
data_of (of_variable h) = h

text_shortest : {b : List ℕ} {v : Scalar} → ScalarText b v → (t : List ℕ) → scalar_text v ≡ Some t → IsUsual v → AreBytes b → length t ≤ length b
text_shortest (code_and_data {x = x} {b = b} {v = v} p h) t q u y = omega (arith, text_least v t q, data_least h refl u (bytes_rest x b y))

pub compound_width : (e : EncodingCodes) (w : ℕ) → Compound w ≡ (row e).category → (w ≡ 1) ⊎ (w ≡ 4)
unfolding row
compound_width List8 w h = inl cc
compound_width Map8 w h = inl cc
compound_width List32 w h = inr cc
compound_width Map32 w h = inr cc
compound_width _ w h = absurd cc

headed_length : (w k : ℕ) (u : List ℕ) → length (headed w k u) ≡ w + w + length u
headed_length w k u = omega (arith, length-append (bytes_high_first w (w + length u)) (bytes_high_first w k ++ u), length-append (bytes_high_first w k) u, written_length w (w + length u), written_length w k)

compound_length : (one four k : ℕ) (u t : List ℕ) → compound_text one four k u ≡ Some t → (length t ≤ 9 + length u) × (length u ≤ 254 → length t ≤ 3 + length u)
compound_length one four k u t h =
    ⊎_elim
    (λ q. let l = same_length (one ∷ headed 1 k u) t q.1 in (omega (arith, l, headed_length 1 k u), λ s. omega (arith, l, headed_length 1 k u)))
    (λ q. let p = bind_some (wide_body k u) (λ x. Some (four ∷ x)) t q.1 in
    let s = when_some (leb (length u) limit) (headed 4 k u) p.0 p.1 in
    let l : length t ≡ suc (length (headed 4 k u)) = sym (same_length (four ∷ p.0) t p.2) ∙ ap (λ (x : List ℕ). suc (length x)) (sym s.1) in
    (omega (arith, l, headed_length 4 k u), λ s. absurd (omega (arith, leb-false (length u) 254 q.0))))
    (if_cases (leb (length u) 254) (Some (one ∷ headed 1 k u)) (wide_body k u >>= λ x. Some (four ∷ x)) (Some t) h)

list_length : (k : ℕ) (u t : List ℕ) → list_text k u ≡ Some t → (length t ≤ 9 + length u) × (length u ≤ 254 → length t ≤ 3 + length u) × (length u ≡ 0 → length t ≡ 1)
unfolding list_text
list_length k u t h =
    ⊎_elim
    (λ q. let l = same_length (0x45 ∷ []) t q.1 in (omega arith, λ s. omega arith, λ s. sym l))
    (λ q. let c = compound_length 0xc0 0xd0 k u t q.1 in (c.0, c.1, λ s. absurd (eqb-false (length u) 0 q.0 s)))
    (if_cases (eqb (length u) 0) (Some (0x45 ∷ [])) (compound_text 0xc0 0xd0 k u) (Some t) h)

-- what stands behind a strict header of w bytes each
behind_bound : (w : ℕ) (z k b : List ℕ) → (w ≡ 1) ⊎ (w ≡ 4) → length z ≡ w → length k ≡ w → number z ≡ w + length b → AreBytes (z ++ (k ++ b)) → (u t : List ℕ) → length u ≤ length b
    → (length t ≤ 9 + length u) → (length u ≤ 254 → length t ≤ 3 + length u) → length t ≤ suc (length (z ++ (k ++ b)))
behind_bound w z k b (inl one) lz lk n y u t l far near =
    let s : number z < 256 = one_byte z (lz ∙ one) (bytes_left z (k ++ b) y) in
    omega (arith, near (omega arith), length-append z (k ++ b), length-append k b)
behind_bound w z k b (inr four) lz lk n y u t l far near = omega (arith, far, length-append z (k ++ b), length-append k b)

-- the canonical texts of items are no longer than their parts
abbrev PartsLeast : Items → List ℕ → Type 0
PartsLeast is u = (b : List ℕ) → AreBytes b → Parts strict bare b is → length u ≤ length b

list_least : {e : EncodingCodes} {k : Kind} {c : Category} {b : List ℕ} {is : Items} → Data strict e k c b (list is) → c ≡ (row e).category → AreBytes b → (u t : List ℕ) → PartsLeast is u → list_text (count is) u ≡ Some t → length t ≤ suc (length b)
list_least list0 q y u t f h = let n = f [] (λ k. omega arith) no_part in let l = list_length 0 u t h in omega (arith, l.2 (omega arith))
list_least {e} (of_list {w = w} z k b lz lk nk parts fits) q y u t f h =
    let l = list_length _ u t h in
    behind_bound w z k b (compound_width e w q) lz lk fits y u t (f b (bytes_right k b (bytes_right z (k ++ b) y)) parts) l.0 l.1

map_least : {e : EncodingCodes} {k : Kind} {c : Category} {b : List ℕ} {ps : Pairs} → Data strict e k c b (map ps) → c ≡ (row e).category → AreBytes b → (u t : List ℕ) → PartsLeast (in_turn ps) u → compound_text 0xc1 0xd1 (count (in_turn ps)) u ≡ Some t → length t ≤ suc (length b)
map_least {e} (of_map {w = w} z k b lz lk nk parts fits) q y u t f h =
    let l = compound_length _ _ _ u t h in
    behind_bound w z k b (compound_width e w q) lz lk fits y u t (f b (bytes_right k b (bytes_right z (k ++ b) y)) parts) l.0 l.1

no_parts_least : PartsLeast none []
no_parts_least b y p = omega arith

abbrev ItemLeast : Item → List ℕ → Type 0
ItemLeast i t = (b : List ℕ) → AreBytes b → Wire strict bare b i → length t ≤ length b

more_least : (i : Item) (is : Items) (a u : List ℕ) → ItemLeast i a → PartsLeast is u → PartsLeast (more i is) (a ++ u)
more_least i is a u f g _ y (part b c h p) = omega (arith, f b (bytes_left b c y) h, g c (bytes_right b c y) p, length-append a u, length-append b c)

scalar_wire_least : (v : Scalar) (t : List ℕ) → scalar_text v ≡ Some t → IsUsual v → ItemLeast (scalar v) t
scalar_wire_least v t h u _ y (of_code {x = x} {b = b} p (of_data d)) = omega (arith, text_least v t h, data_least (data_of d) refl u (bytes_rest x b y))

list_wire_least : (is : Items) (u t : List ℕ) → PartsLeast is u → list_text (count is) u ≡ Some t → ItemLeast (list is) t
list_wire_least is u t f h _ y (of_code {x = x} {b = b} p (of_data d)) = list_least d refl (bytes_rest x b y) u t f h

map_wire_least : (ps : Pairs) (u t : List ℕ) → PartsLeast (in_turn ps) u → compound_text 0xc1 0xd1 (count (in_turn ps)) u ≡ Some t → ItemLeast (map ps) t
map_wire_least ps u t f h _ y (of_code {x = x} {b = b} p (of_data d)) = map_least d refl (bytes_rest x b y) u t f h

no_described : {r : Rules} {e : EncodingCodes} {k : Kind} {c : Category} {b : List ℕ} {d : Descriptor} {v : Item} → Data r e k c b (described d v) → ⊥
no_described h = elim h [ ]

described_least : (d : Descriptor) (v : Item) (a u : List ℕ) → IsUsual (descriptor_item d) → scalar_text (descriptor_item d) ≡ Some a → ItemLeast v u → ItemLeast (described d v) (0x00 ∷ a ++ u)
described_least d v a u s h f _ y (of_described b c g k) =
    let z = bytes_rest 0 (b ++ c) y in
    omega (arith, text_shortest g a h s (bytes_left b c z), f c (bytes_right b c z) k, length-append a u, length-append b c)
described_least d v a u s h f _ y (of_code p (of_data k)) = absurd (no_described k)

as_item_least : (i : Item) (s t : List ℕ) → Some s ≡ Some t → ItemLeast i s → ItemLeast i t
as_item_least i s t h f = subst (λ (x : List ℕ). ItemLeast i x) (same_Some s t h) f

as_parts_least : (is : Items) (s t : List ℕ) → Some s ≡ Some t → PartsLeast is s → PartsLeast is t
as_parts_least is s t h f = subst (λ (x : List ℕ). PartsLeast is x) (same_Some s t h) f

mutual
  unfolding canon

  item_least : (i : Item) (t : List ℕ) → Usual i → canon i ≡ Some t → ItemLeast i t
  item_least (scalar v) t u h = scalar_wire_least v t h u
  item_least (list is) t u h =
      let s = bind_some (canons is) (λ x. list_text (count is) x) t h in
      list_wire_least is s.0 t (items_least is s.0 u s.1) s.2
  item_least (map ps) t u h =
      let s = bind_some (pair_canons ps) (λ x. compound_text 0xc1 0xd1 (count (in_turn ps)) x) t h in
      map_wire_least ps s.0 t (pairs_least ps s.0 u s.1) s.2
  item_least (array is) t u h = absurd u
  item_least (described d v) t u h =
      let s = bind_some (descriptor_text d) (λ a. canon v >>= λ x. Some (0x00 ∷ a ++ x)) t h in
      let x = bind_some (canon v) (λ x. Some (0x00 ∷ s.0 ++ x)) t s.2 in
      as_item_least (described d v) (0x00 ∷ s.0 ++ x.0) t x.2 (described_least d v s.0 x.0 u.0 s.1 (item_least v x.0 u.1 x.1))

  items_least : (is : Items) (t : List ℕ) → UsualIn is → canons is ≡ Some t → PartsLeast is t
  items_least none t u h = as_parts_least none [] t h no_parts_least
  items_least (more i is) t u h =
      let s = bind_some (canon i) (λ a. canons is >>= λ x. Some (a ++ x)) t h in
      let x = bind_some (canons is) (λ x. Some (s.0 ++ x)) t s.2 in
      as_parts_least (more i is) (s.0 ++ x.0) t x.2 (more_least i is s.0 x.0 (item_least i s.0 u.0 s.1) (items_least is x.0 u.1 x.1))

  pairs_least : (ps : Pairs) (t : List ℕ) → UsualInPairs ps → pair_canons ps ≡ Some t → PartsLeast (in_turn ps) t
  pairs_least no_pairs t u h = as_parts_least none [] t h no_parts_least
  pairs_least (pair k v ps) t u h =
      let s = bind_some (canon k) (λ a. canon v >>= λ x. pair_canons ps >>= λ y. Some (a ++ (x ++ y))) t h in
      let x = bind_some (canon v) (λ x. pair_canons ps >>= λ y. Some (s.0 ++ (x ++ y))) t s.2 in
      let y = bind_some (pair_canons ps) (λ y. Some (s.0 ++ (x.0 ++ y))) t x.2 in
      as_parts_least (more k (more v (in_turn ps))) (s.0 ++ (x.0 ++ y.0)) t y.2
      (more_least k (more v (in_turn ps)) s.0 (x.0 ++ y.0) (item_least k s.0 u.0 s.1) (more_least v (in_turn ps) x.0 y.0 (item_least v x.0 u.1 x.1) (pairs_least ps y.0 u.2 y.1)))

pub canon_shortest : CanonShortest
canon_shortest i t b u h y w = item_least i t u h b y w
