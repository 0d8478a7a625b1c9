-- No text is empty.
use Rattle.std.proofs.Common.{◌≡◌, ℕ, suc, ◌+◌, ◌≤◌, ◌<◌, List, [], ◌∷◌, ◌++◌, length, refl, ◌∙◌, ap, subst, arith, Option, Some, None, true, false, Bool, if◌then◌else◌, length-append, ◌==◌}
use Rattle.std.proofs.lemmas.Bool.{ne_eqb}
use Rattle.std.specs.Int.{bytes_high_first}
use Rattle.amqp_base.specs.Item.{Scalar, null, boolean, ubyte, ushort, uint, ulong, byte, short, int, long, float, double, decimal32, decimal64, decimal128, char, timestamp, uuid, binary, string, symbol, Item, scalar, list, map, array, described, items_of}
use Rattle.amqp_base.specs.declared.format_code.EncodingCodes.{EncodingCodes}
use Rattle.amqp_base.specs.Codes.{row, widest}
use Rattle.amqp_base.specs.Wire.{Constructor}
use Rattle.amqp_base.specs.Canon.{◌>>=◌, when, or_else, canon, canons, body, bodies, array_body, pair_canons, scalar_body, scalar_text, short_text, wide_text, wide_body, headed, compound_text, list_text, sized, is_under, kind_code, kind_of, descriptor_text, in_two's_complement}
use Rattle.amqp_base.specs.declared.shape.Shape.{Shape}
use Rattle.amqp_write.specs.Wholes.{parts_text}
use Rattle.amqp_write.proofs.PartTexts.{bind_some, if_some, array_parts}

apart : true ≡ false → ⊥
apart e = cc

some_is : (x y : List ℕ) → Some x ≡ Some y → x ≡ y
some_is x y h = cc

when_long : (t : Bool) (x b : List ℕ) → 0 < length x → when t x ≡ Some b → 0 < length b
when_long true x b l h = subst (λ z. 0 < length z) (some_is x b h) l
when_long false x b l h = cc

some_long : (x : ℕ) (xs b : List ℕ) → Some (x ∷ xs) ≡ Some b → 0 < length b
some_long x xs b h = subst (λ z. 0 < length z) (some_is _ b h) (omega arith)

written_long : (w n : ℕ) → 0 < length (bytes_high_first (suc w) n)
written_long w n = omega arith

prefix_long : (x y : List ℕ) → 0 < length x → 0 < length (x ++ y)
prefix_long x y h = omega (arith, h, length-append x y)

headed_long : (k : ℕ) (b : List ℕ) → 0 < length (headed 4 k b)
headed_long k b = prefix_long (bytes_high_first 4 (4 + length b)) (bytes_high_first 4 k ++ b) (written_long 3 (4 + length b))

empty_when : (t : Bool) (b : List ℕ) → t ≡ false → when t [] ≡ Some b → 0 < length b
empty_when true b e h = absurd (let f : true ≡ false = e in apart f)
empty_when false b e h = cc

exact_long : (n : ℕ) (x b : List ℕ) → when (length x == suc n) x ≡ Some b → 0 < length b
exact_long n [] b h = empty_when _ b (ne_eqb 0 (suc n) (λ k. absurd (omega (arith, k)))) h
exact_long n (y ∷ ys) b h = when_long _ (y ∷ ys) b (omega arith) h

sized_long : (x b : List ℕ) → sized x ≡ Some b → 0 < length b
sized_long x b h = when_long _ _ b (prefix_long (bytes_high_first 4 (length x)) x (written_long 3 (length x))) h

if_sized : (t : Bool) (x b : List ℕ) → (if t then sized x else None) ≡ Some b → 0 < length b
if_sized true x b h = sized_long x b h
if_sized false x b h = cc

scalar_body_long : (v : Scalar) (b : List ℕ) → scalar_body v ≡ Some b → 0 < length b
unfolding scalar_body
scalar_body_long null b h = cc
scalar_body_long (boolean true) b h = some_long _ _ b h
scalar_body_long (boolean false) b h = some_long _ _ b h
scalar_body_long (ubyte n) b h = when_long _ _ b (written_long 0 n) h
scalar_body_long (ushort n) b h = when_long _ _ b (written_long 1 n) h
scalar_body_long (uint n) b h = when_long _ _ b (written_long 3 n) h
scalar_body_long (ulong n) b h = when_long _ _ b (written_long 7 n) h
scalar_body_long (byte n) b h = when_long _ _ b (written_long 0 (in_two's_complement 1 n)) h
scalar_body_long (short n) b h = when_long _ _ b (written_long 1 (in_two's_complement 2 n)) h
scalar_body_long (int n) b h = when_long _ _ b (written_long 3 (in_two's_complement 4 n)) h
scalar_body_long (long n) b h = when_long _ _ b (written_long 7 (in_two's_complement 8 n)) h
scalar_body_long (float n) b h = when_long _ _ b (written_long 3 n) h
scalar_body_long (double n) b h = when_long _ _ b (written_long 7 n) h
scalar_body_long (decimal32 x) b h = exact_long 3 x b h
scalar_body_long (decimal64 x) b h = exact_long 7 x b h
scalar_body_long (decimal128 x) b h = exact_long 15 x b h
scalar_body_long (char n) b h = when_long _ _ b (written_long 3 n) h
scalar_body_long (timestamp n) b h = when_long _ _ b (written_long 7 (in_two's_complement 8 n)) h
scalar_body_long (uuid x) b h = exact_long 15 x b h
scalar_body_long (binary x) b h = sized_long x b h
scalar_body_long (string x) b h = if_sized _ x b h
scalar_body_long (symbol x) b h = if_sized _ x b h

coded_long : (k : Option EncodingCodes) (o : Option (List ℕ)) (b : List ℕ) → (k >>= λ e. o >>= λ x. Some ((row e).byte ∷ x)) ≡ Some b → 0 < length b
coded_long None o b h = cc
coded_long (Some e) None b h = cc
coded_long (Some e) (Some x) b h = some_long _ _ b h

wide_long : (v : Scalar) (b : List ℕ) → wide_text v ≡ Some b → 0 < length b
wide_long v b h = coded_long (widest (kind_of v)) (scalar_body v) b h

number_long : (t u : Bool) (z o n : ℕ) (b : List ℕ) → (if t then Some (z ∷ []) else when u (o ∷ n ∷ [])) ≡ Some b → 0 < length b
number_long true u z o n b h = some_long _ _ b h
number_long false true z o n b h = some_long _ _ b h
number_long false false z o n b h = cc

if_short : (t u : Bool) (o : ℕ) (x b : List ℕ) → (if t then when u (o ∷ x) else None) ≡ Some b → 0 < length b
if_short true true o x b h = some_long _ _ b h
if_short true false o x b h = cc
if_short false u o x b h = cc

short_long : (v : Scalar) (b : List ℕ) → short_text v ≡ Some b → 0 < length b
unfolding short_text
short_long null b h = some_long _ _ b h
short_long (boolean true) b h = some_long _ _ b h
short_long (boolean false) b h = some_long _ _ b h
short_long (uint n) b h = number_long _ _ 0x43 0x52 n b h
short_long (ulong n) b h = number_long _ _ 0x44 0x53 n b h
short_long (int z) b h = when_long _ _ b (omega arith) h
short_long (long z) b h = when_long _ _ b (omega arith) h
short_long (binary x) b h = when_long _ (0xa0 ∷ length x ∷ x) b (omega arith) h
short_long (string x) b h = if_short _ _ 0xa1 (length x ∷ x) b h
short_long (symbol x) b h = if_short _ _ 0xa3 (length x ∷ x) b h
short_long (ubyte n) b h = cc
short_long (ushort n) b h = cc
short_long (byte n) b h = cc
short_long (short n) b h = cc
short_long (float n) b h = cc
short_long (double n) b h = cc
short_long (decimal32 n) b h = cc
short_long (decimal64 n) b h = cc
short_long (decimal128 n) b h = cc
short_long (char n) b h = cc
short_long (timestamp n) b h = cc
short_long (uuid n) b h = cc

or_long : (v : Scalar) (o w : Option (List ℕ)) (b : List ℕ) → short_text v ≡ o → wide_text v ≡ w → or_else o w ≡ Some b → 0 < length b
or_long v (Some x) w b e f h = short_long v b (e ∙ h)
or_long v None w b e f h = wide_long v b (f ∙ h)

wide_body_long : (k : ℕ) (x b : List ℕ) → wide_body k x ≡ Some b → 0 < length b
wide_body_long k x b h = when_long _ _ b (headed_long k x) h

forms_long : (t : Bool) (x : List ℕ) (o : Option (List ℕ)) (one four : ℕ) (b : List ℕ) → (if t then Some (one ∷ x) else (o >>= λ y. Some (four ∷ y))) ≡ Some b → 0 < length b
forms_long true x o one four b h = some_long _ _ b h
forms_long false x None one four b h = cc
forms_long false x (Some y) one four b h = some_long _ _ b h

compound_long : (one four k : ℕ) (x b : List ℕ) → compound_text one four k x ≡ Some b → 0 < length b
compound_long one four k x b h = forms_long _ _ (wide_body k x) one four b h

empty_or : (t : Bool) (o : Option (List ℕ)) (b : List ℕ) → (o ≡ Some b → 0 < length b) → (if t then Some (0x45 ∷ []) else o) ≡ Some b → 0 < length b
empty_or true o b f h = some_long _ _ b h
empty_or false o b f h = f h

list_long : (k : ℕ) (x b : List ℕ) → list_text k x ≡ Some b → 0 < length b
unfolding list_text
list_long k x b h = empty_or _ (compound_text 0xc0 0xd0 k x) b (compound_long 0xc0 0xd0 k x b) h

described_long : (o r : Option (List ℕ)) (b : List ℕ) → (o >>= λ a. r >>= λ c. Some (0x00 ∷ a ++ c)) ≡ Some b → 0 < length b
described_long None r b h = cc
described_long (Some a) None b h = cc
described_long (Some a) (Some c) b h = some_long _ _ b h

canon_long : (i : Item) (b : List ℕ) → canon i ≡ Some b → 0 < length b
unfolding canon scalar_text
canon_long (scalar v) b h = or_long v _ _ b refl refl h
canon_long (list is) b h = let p = bind_some (canons is) _ b h in list_long _ p.0 b p.2
canon_long (map ps) b h = let p = bind_some (pair_canons ps) _ b h in compound_long _ _ _ p.0 b p.2
canon_long (array is) b h = let p = bind_some (array_body is) _ b h in compound_long _ _ _ p.0 b p.2
canon_long (described d v) b h = described_long (descriptor_text d) (canon v) b h

body_long : (i : Item) (b : List ℕ) → body i ≡ Some b → 0 < length b
unfolding body
body_long (scalar v) b h = scalar_body_long v b h
body_long (list is) b h = let p = bind_some (canons is) _ b h in wide_body_long _ p.0 b p.2
body_long (map ps) b h = let p = bind_some (pair_canons ps) _ b h in wide_body_long _ p.0 b p.2
body_long (array is) b h = let p = bind_some (array_body is) _ b h in wide_body_long _ p.0 b p.2
body_long (described d v) b h = body_long v b h

list_fit : (xs : List Item) (b : List ℕ) → canons (items_of xs) ≡ Some b → length xs ≤ length b
unfolding canons
list_fit [] b h = omega arith
list_fit (x ∷ xs) b h =
    let p = bind_some (canon x) _ b h in
    let q = bind_some (canons (items_of xs)) _ b p.2 in
    omega (arith, canon_long x p.0 p.1, list_fit xs q.0 q.1, length-append p.0 q.0, ap (λ (z : List ℕ). length z) (some_is _ b q.2))

bodies_fit : (c : Constructor) (xs : List Item) (b : List ℕ) → bodies c (items_of xs) ≡ Some b → length xs ≤ length b
unfolding bodies
bodies_fit c [] b h = omega arith
bodies_fit c (x ∷ xs) b h =
    let t = if_some (is_under c (kind_code x)) _ b h in
    let p = bind_some (body x) _ b t.1 in
    let q = bind_some (bodies c (items_of xs)) _ b p.2 in
    omega (arith, body_long x p.0 p.1, bodies_fit c xs q.0 q.1, length-append p.0 q.0, ap (λ (z : List ℕ). length z) (some_is _ b q.2))

-- each part takes a byte at least
pub parts_fit : (shape : Shape) (xs : List Item) (b : List ℕ) → parts_text shape (items_of xs) ≡ Some b → length xs ≤ length b
unfolding parts_text
parts_fit Shape.List xs b h = list_fit xs b h
parts_fit (Shape.Tuple n) xs b h = list_fit xs b h
parts_fit Shape.Map xs b h = list_fit xs b h
parts_fit Shape.Fields xs b h = list_fit xs b h
parts_fit Shape.Array [] b h = omega arith
parts_fit Shape.Array (x ∷ xs) b h =
    let p = array_parts x xs b h in
    omega (arith, body_long x p.2 p.6, bodies_fit p.0 xs p.3 p.7, length-append p.2 p.3, length-append p.1 (p.2 ++ p.3), ap (λ (z : List ℕ). length z) p.8)
