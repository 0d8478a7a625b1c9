-- What is written for an item without parts is read as that item.
use Rattle.std.proofs.Common.{◌≡◌, ℕ, ◌/◌, ◌^◌, ◌<◌, ℤ, Bool, true, false, cond, ltb, leb, eqb, List, [], ◌∷◌, ◌++◌, length, Option, Some, None, refl, ap, subst, ◌∙◌, arith}
use Rattle.std.proofs.lemmas.Bool.{ltb-true, leb-true, eqb-true, cond-true, and_parts}
use Rattle.std.proofs.lemmas.Option.{same_Some}
use Rattle.std.specs.Int.{bytes_high_first}
use Rattle.std.specs.Str.{is_utf8, all_scalars}
use lib.Utf8.{scalar, scalar_fits}
use Rattle.amqp_base.specs.declared.format_code.EncodingCodes.{EncodingCodes}
use Rattle.amqp_base.specs.declared.format_code.EncodingCodes.TheVariants.{Boolean, Ubyte, Ushort, Uint, Ulong, Byte, Short, Int, Long, Float, Double, Decimal32, Decimal64, Decimal128, Char, Timestamp, Uuid, Vbin32, Str32, Sym32}
use Rattle.amqp_base.specs.declared.format_code.Category.TheVariants.{Fixed, Variable}
use Rattle.amqp_base.specs.Codes.{row, widest}
use Rattle.amqp_base.specs.Item.{Scalar, null, boolean, ubyte, ushort, uint, ulong, byte, short, int, long, float, double, decimal32, decimal64, decimal128, char, timestamp, uuid, binary, string, symbol}
use Rattle.amqp_base.specs.Value.{number, signed, read, payload}
use Rattle.amqp_base.specs.Wire.{ScalarData, fixed, variable}
use Rattle.amqp_base.specs.Canon.{kind_of, when, unsigned, twos, in_two's_complement, magnitude, exactly, sized, limit, scalar_body}
use Rattle.amqp_base.proofs.Numbers.{written_length, again_1, again_2, again_4, again_8, signed_again, in_range}

pub when_some : (t : Bool) (b c : List ℕ) → when t b ≡ Some c → (t ≡ true) × (b ≡ c)
when_some true b c h = (refl, same_Some b c h)
when_some false b c h = absurd cc

pub if_some : {A : Type 0} (t : Bool) (o : Option A) (c : A) → cond t o None ≡ Some c → (t ≡ true) × (o ≡ Some c)
if_some true o c h = (refl, h)
if_some false o c h = absurd cc

abbrev Again : ℕ → Type 0
Again w = (n : ℕ) → n < 256 ^ w → number (bytes_high_first w n) ≡ n

unsigned_data : (e : EncodingCodes) (w : ℕ) (K : ℕ → Scalar) → ((b : List ℕ) → payload e b ≡ Some (K (number b))) → Again w → (n : ℕ) (b : List ℕ) → unsigned w n ≡ Some b → ScalarData e (Fixed w) b (K n)
unsigned_data e w K p again n b h =
    let s = when_some (ltb n (256 ^ w)) (bytes_high_first w n) b h in
    let t : payload e (bytes_high_first w n) ≡ Some (K n) = p (bytes_high_first w n) ∙ ap (λ (m : ℕ). Some (K m)) (again n (ltb-true _ _ s.0)) in
    subst (λ (c : List ℕ). ScalarData e (Fixed w) c (K n)) s.1 (fixed (written_length w n) t)

signed_data : (e : EncodingCodes) (w : ℕ) (K : ℤ → Scalar) → ((b : List ℕ) → payload e b ≡ Some (K (signed b))) → Again w → (z : ℤ) (b : List ℕ) → twos w z ≡ Some b → ScalarData e (Fixed w) b (K z)
signed_data e w K p again z b h =
    let n : ℕ = in_two's_complement w z in
    let s = when_some (ltb (magnitude z) (256 ^ w / 2)) (bytes_high_first w n) b h in
    let small = ltb-true (magnitude z) (256 ^ w / 2) s.0 in
    let back : signed (bytes_high_first w n) ≡ z = signed_again w (bytes_high_first w n) z (written_length w n) (again n (in_range w z small)) small in
    let t : payload e (bytes_high_first w n) ≡ Some (K z) = p (bytes_high_first w n) ∙ ap (λ (m : ℤ). Some (K m)) back in
    subst (λ (c : List ℕ). ScalarData e (Fixed w) c (K z)) s.1 (fixed (written_length w n) t)

exact_data : (e : EncodingCodes) (w : ℕ) (K : List ℕ → Scalar) → ((b : List ℕ) → payload e b ≡ Some (K b)) → (c b : List ℕ) → exactly w c ≡ Some b → ScalarData e (Fixed w) b (K c)
exact_data e w K p c b h =
    let s = when_some (eqb (length c) w) c b h in
    subst (λ (d : List ℕ). ScalarData e (Fixed w) d (K c)) s.1 (fixed (eqb-true _ _ s.0) (p c))

sized_data : (e : EncodingCodes) (v : Scalar) (c b : List ℕ) → payload e c ≡ Some v → sized c ≡ Some b → ScalarData e (Variable 4) b v
sized_data e v c b p h =
    let s = when_some (leb (length c) limit) (bytes_high_first 4 (length c) ++ c) b h in
    let n = again_4 (length c) (omega (arith, leb-true _ _ s.0)) in
    subst (λ (d : List ℕ). ScalarData e (Variable 4) d v) s.1 (variable (bytes_high_first 4 (length c)) c refl n p)

pub text_payload : (t : Bool) (v : Scalar) → t ≡ true → cond t (Some v) None ≡ Some v
text_payload t v h = cond-true t (Some v) None h

char_data : (n : ℕ) (b : List ℕ) → when (all_scalars (n ∷ [])) (bytes_high_first 4 n) ≡ Some b → ScalarData Char (Fixed 4) b (char n)
unfolding payload read row
char_data n b h =
    let s = when_some (all_scalars (n ∷ [])) (bytes_high_first 4 n) b h in
    let fits : n < 2 ^ 32 = scalar_fits n (and_parts (scalar n) true s.0).0 in
    let m : number (bytes_high_first 4 n) ≡ n = again_4 n (omega arith) in
    let t : payload Char (bytes_high_first 4 n) ≡ Some (char n) = rw m (text_payload (all_scalars (n ∷ [])) (char n) s.0) in
    subst (λ (c : List ℕ). ScalarData Char (Fixed 4) c (char n)) s.1 (fixed refl t)

-- the data at the widest code
abbrev At : EncodingCodes → List ℕ → Scalar → Type 0
At e b v = ScalarData e (row e).category b v

at : {d e : EncodingCodes} {b : List ℕ} {v : Scalar} → Some d ≡ Some e → At d b v → At e b v
at {d} {e} {b} {v} h k = subst (λ (c : EncodingCodes). At c b v) (same_Some d e h) k

pub scalar_strict : (v : Scalar) (e : EncodingCodes) (b : List ℕ) → widest (kind_of v) ≡ Some e → scalar_body v ≡ Some b → At e b v
unfolding widest row scalar_body payload read
scalar_strict null e b w h = absurd cc
scalar_strict (boolean false) e b w h = at w (subst (λ (c : List ℕ). At Boolean c (boolean false)) (same_Some _ _ h) (fixed refl refl))
scalar_strict (boolean true) e b w h = at w (subst (λ (c : List ℕ). At Boolean c (boolean true)) (same_Some _ _ h) (fixed refl refl))
scalar_strict (ubyte n) e b w h = at w (unsigned_data Ubyte 1 ubyte (λ b. refl) again_1 n b h)
scalar_strict (ushort n) e b w h = at w (unsigned_data Ushort 2 ushort (λ b. refl) again_2 n b h)
scalar_strict (uint n) e b w h = at w (unsigned_data Uint 4 uint (λ b. refl) again_4 n b h)
scalar_strict (ulong n) e b w h = at w (unsigned_data Ulong 8 ulong (λ b. refl) again_8 n b h)
scalar_strict (byte z) e b w h = at w (signed_data Byte 1 byte (λ b. refl) again_1 z b h)
scalar_strict (short z) e b w h = at w (signed_data Short 2 short (λ b. refl) again_2 z b h)
scalar_strict (int z) e b w h = at w (signed_data Int 4 int (λ b. refl) again_4 z b h)
scalar_strict (long z) e b w h = at w (signed_data Long 8 long (λ b. refl) again_8 z b h)
scalar_strict (float n) e b w h = at w (unsigned_data Float 4 float (λ b. refl) again_4 n b h)
scalar_strict (double n) e b w h = at w (unsigned_data Double 8 double (λ b. refl) again_8 n b h)
scalar_strict (decimal32 c) e b w h = at w (exact_data Decimal32 4 decimal32 (λ b. refl) c b h)
scalar_strict (decimal64 c) e b w h = at w (exact_data Decimal64 8 decimal64 (λ b. refl) c b h)
scalar_strict (decimal128 c) e b w h = at w (exact_data Decimal128 16 decimal128 (λ b. refl) c b h)
scalar_strict (char n) e b w h = at w (char_data n b h)
scalar_strict (timestamp z) e b w h = at w (signed_data Timestamp 8 timestamp (λ b. refl) again_8 z b h)
scalar_strict (uuid c) e b w h = at w (exact_data Uuid 16 uuid (λ b. refl) c b h)
scalar_strict (binary c) e b w h = at w (sized_data Vbin32 (binary c) c b refl h)
scalar_strict (string c) e b w h = let s = if_some (is_utf8 c) (sized c) b h in at w (sized_data Str32 (string c) c b (text_payload (is_utf8 c) (string c) s.0) s.1)
scalar_strict (symbol c) e b w h = let s = if_some (is_utf8 c) (sized c) b h in at w (sized_data Sym32 (symbol c) c b (text_payload (is_utf8 c) (symbol c) s.0) s.1)
