-- Items without parts that are written under the widest code of their kind.
use Rattle.std.proofs.Common.{◌≡◌, ℕ, ℤ, ◌^◌, ◌<◌, ◌≤◌, List, [], ◌∷◌, Bool, true, false, refl, ◌∙◌, ap, Option, Some, None, Result, Err, length}
use Rattle.std.proofs.lemmas.Bool.{eq-eqb}
use Rattle.std.specs.Int.{w8, w16, w32, w64, bytes_high_first, cast_unsigned, from_bool}
use mir.Val.{SFits}
use Rattle.std.specs.Char.{IsScalar}
use Rattle.amqp_base.specs.declared.format_code.EncodingCodes.{EncodingCodes}
use Rattle.amqp_base.specs.declared.format_code.EncodingCodes.TheVariants.{Boolean, Ubyte, Ushort, Uint, Ulong, Byte, Short, Int, Long, Char, Timestamp, Float, Double, Decimal32, Decimal64, Decimal128, Uuid}
use Rattle.amqp_base.specs.declared.error.Error.{Error}
use Rattle.amqp_base.specs.declared.error.Error.TheVariants.{InvalidValue, OutOfMemory}
use Rattle.amqp_base.specs.Codes.{widest}
use Rattle.amqp_base.specs.Wire.{Constructor, under}
use Rattle.amqp_base.specs.Item.{Scalar, scalar, null, boolean, ubyte, ushort, uint, ulong, byte, short, int, long, char, timestamp, float, double, decimal32, decimal64, decimal128, uuid}
use Rattle.amqp_base.specs.Canon.{canon, body, kind_of, kind_code, scalar_body, scalar_text, short_text, exactly}
use Rattle.amqp_base.specs.Sizes.{sizes}
use Rattle.amqp_write.specs.State.{State, Mark, unmarked, first, other}
use Rattle.amqp_write.specs.Texts.{payload_length}
use Rattle.amqp_write.specs.Law.{marked, found_after}
use Rattle.amqp_write.specs.Appending.{Pays, fixed_at}
use Rattle.amqp_write.proofs.Steps.{pays_none}
use Rattle.amqp_write.proofs.TextOf.{pays_text, one_byte}
use Rattle.amqp_write.proofs.ShortNumbers.{short_0, short_1, short_none, signed_1, signed_none, in_a_byte, unsigned_fits, twos_fits}

-- v is written under the widest code of its kind: d is its data
pub record Wide (m : Mark) (v : Scalar) (e : EncodingCodes) (d : List ℕ) : Type 0 where
  pub short : m ≡ unmarked → short_text v ≡ None
  pub code : widest (kind_of v) ≡ Some e
  pub bytes : scalar_body v ≡ Some d
  pub plain : payload_length v ≡ 0

pub wide_marked : (m : Mark) (v : Scalar) (e : EncodingCodes) (d : List ℕ) → Wide m v e d → marked m (scalar v) ≡ fixed_at m e d
unfolding marked fixed_at canon body scalar_text kind_code
wide_marked unmarked v e d w = rw (w.short refl, w.code, w.bytes) refl
wide_marked first v e d w = rw (w.code, w.bytes) refl
wide_marked (other c) v e d w = rw (w.code, w.bytes) refl

pub wide_code : (m : Mark) (v : Scalar) (e : EncodingCodes) (d : List ℕ) → Wide m v e d → kind_code (scalar v) ≡ Some (under e)
unfolding kind_code
wide_code m v e d w = rw w.code refl

pub short_marked : (v : Scalar) (b : List ℕ) → short_text v ≡ Some b → marked unmarked (scalar v) ≡ Some b
unfolding marked canon scalar_text
short_marked v b h = rw h refl

-- from its data where it stands to the item
pub pays_wide : {A : Type 0} (s : State) (v : Scalar) (e : EncodingCodes) (d : List ℕ) (r : Result A Error) (t : State) → Wide s.mark v e d → Pays s (fixed_at s.mark e d) (found_after s.mark (Some (under e)) s.found) [] InvalidValue r t → Pays s (marked s.mark (scalar v)) (found_after s.mark (kind_code (scalar v)) s.found) [] InvalidValue r t
pays_wide s v e d r t w p = pays_text s _ _ _ _ [] InvalidValue r t (wide_marked s.mark v e d w) (ap (λ k. found_after s.mark k s.found) (wide_code s.mark v e d w)) p

pub scalar_sizes : (v : Scalar) → sizes (scalar v) ≡ []
unfolding sizes
scalar_sizes v = refl

-- short texts
pub uint_0 : (n : ℕ) → n ≡ 0 → marked unmarked (scalar (uint n)) ≡ Some (0x43 ∷ [])
unfolding short_text
uint_0 n h = short_marked (uint n) _ (short_0 0x43 0x52 n h)

pub uint_1 : (n : ℕ) → (n ≡ 0 → ⊥) → n < 256 → marked unmarked (scalar (uint n)) ≡ Some (0x52 ∷ n ∷ [])
unfolding short_text
uint_1 n h l = short_marked (uint n) _ (short_1 0x43 0x52 n h l)

pub ulong_0 : (n : ℕ) → n ≡ 0 → marked unmarked (scalar (ulong n)) ≡ Some (0x44 ∷ [])
unfolding short_text
ulong_0 n h = short_marked (ulong n) _ (short_0 0x44 0x53 n h)

pub ulong_1 : (n : ℕ) → (n ≡ 0 → ⊥) → n < 256 → marked unmarked (scalar (ulong n)) ≡ Some (0x53 ∷ n ∷ [])
unfolding short_text
ulong_1 n h l = short_marked (ulong n) _ (short_1 0x44 0x53 n h l)

pub int_1 : (z : ℤ) → SFits w8 z → marked unmarked (scalar (int z)) ≡ Some (0x54 ∷ cast_unsigned w8 z ∷ [])
unfolding short_text
int_1 z h = short_marked (int z) _ (signed_1 0x54 z h)

pub long_1 : (z : ℤ) → SFits w8 z → marked unmarked (scalar (long z)) ≡ Some (0x55 ∷ cast_unsigned w8 z ∷ [])
unfolding short_text
long_1 z h = short_marked (long z) _ (signed_1 0x55 z h)

-- the kinds under their widest codes
pub ubyte_wide : (m : Mark) (n : ℕ) → n < 2 ^ 8 → Wide m (ubyte n) Ubyte (n ∷ [])
unfolding short_text widest scalar_body
ubyte_wide m n h = record { short = λ _. refl; code = refl; bytes = unsigned_fits 1 n h ∙ ap Some (one_byte n h); plain = refl }

pub ushort_wide : (m : Mark) (n : ℕ) → n < 2 ^ 16 → Wide m (ushort n) Ushort (bytes_high_first 2 n)
unfolding short_text widest scalar_body
ushort_wide m n h = record { short = λ _. refl; code = refl; bytes = unsigned_fits 2 n h; plain = refl }

pub uint_wide : (m : Mark) (n : ℕ) → (m ≡ unmarked → 256 ≤ n) → n < 2 ^ 32 → Wide m (uint n) Uint (bytes_high_first 4 n)
unfolding short_text widest scalar_body
uint_wide m n h f = record { short = λ u. short_none 0x43 0x52 n (h u); code = refl; bytes = unsigned_fits 4 n f; plain = refl }

pub ulong_wide : (m : Mark) (n : ℕ) → (m ≡ unmarked → 256 ≤ n) → n < 2 ^ 64 → Wide m (ulong n) Ulong (bytes_high_first 8 n)
unfolding short_text widest scalar_body
ulong_wide m n h f = record { short = λ u. short_none 0x44 0x53 n (h u); code = refl; bytes = unsigned_fits 8 n f; plain = refl }

pub byte_wide : (m : Mark) (z : ℤ) → SFits w8 z → Wide m (byte z) Byte (cast_unsigned w8 z ∷ [])
unfolding short_text widest scalar_body
byte_wide m z f = record { short = λ _. refl; code = refl; bytes = twos_fits w8 1 z refl refl f ∙ ap Some (one_byte (cast_unsigned w8 z) (in_a_byte z f)); plain = refl }

pub short_wide : (m : Mark) (z : ℤ) → SFits w16 z → Wide m (short z) Short (bytes_high_first 2 (cast_unsigned w16 z))
unfolding short_text widest scalar_body
short_wide m z f = record { short = λ _. refl; code = refl; bytes = twos_fits w16 2 z refl refl f; plain = refl }

pub int_wide : (m : Mark) (z : ℤ) → (m ≡ unmarked → SFits w8 z → ⊥) → SFits w32 z → Wide m (int z) Int (bytes_high_first 4 (cast_unsigned w32 z))
unfolding short_text widest scalar_body
int_wide m z h f = record { short = λ u. signed_none 0x54 z (h u); code = refl; bytes = twos_fits w32 4 z refl refl f; plain = refl }

pub long_wide : (m : Mark) (z : ℤ) → (m ≡ unmarked → SFits w8 z → ⊥) → SFits w64 z → Wide m (long z) Long (bytes_high_first 8 (cast_unsigned w64 z))
unfolding short_text widest scalar_body
long_wide m z h f = record { short = λ u. signed_none 0x55 z (h u); code = refl; bytes = twos_fits w64 8 z refl refl f; plain = refl }

pub char_wide : (m : Mark) (n : ℕ) → IsScalar n → Wide m (char n) Char (bytes_high_first 4 n)
unfolding short_text widest scalar_body
char_wide m n h = record { short = λ _. refl; code = refl; bytes = rw h refl; plain = refl }

pub timestamp_wide : (m : Mark) (z : ℤ) → SFits w64 z → Wide m (timestamp z) Timestamp (bytes_high_first 8 (cast_unsigned w64 z))
unfolding short_text widest scalar_body
timestamp_wide m z f = record { short = λ _. refl; code = refl; bytes = twos_fits w64 8 z refl refl f; plain = refl }

pub float_wide : (m : Mark) (n : ℕ) → n < 2 ^ 32 → Wide m (float n) Float (bytes_high_first 4 n)
unfolding short_text widest scalar_body
float_wide m n h = record { short = λ _. refl; code = refl; bytes = unsigned_fits 4 n h; plain = refl }

pub double_wide : (m : Mark) (n : ℕ) → n < 2 ^ 64 → Wide m (double n) Double (bytes_high_first 8 n)
unfolding short_text widest scalar_body
double_wide m n h = record { short = λ _. refl; code = refl; bytes = unsigned_fits 8 n h; plain = refl }

exactly_fits : (k : ℕ) (b : List ℕ) → length b ≡ k → exactly k b ≡ Some b
exactly_fits k b h = rw (eq-eqb (length b) k h) refl

pub decimal32_wide : (m : Mark) (b : List ℕ) → length b ≡ 4 → Wide m (decimal32 b) Decimal32 b
unfolding short_text widest scalar_body
decimal32_wide m b h = record { short = λ _. refl; code = refl; bytes = exactly_fits 4 b h; plain = refl }

pub decimal64_wide : (m : Mark) (b : List ℕ) → length b ≡ 8 → Wide m (decimal64 b) Decimal64 b
unfolding short_text widest scalar_body
decimal64_wide m b h = record { short = λ _. refl; code = refl; bytes = exactly_fits 8 b h; plain = refl }

pub decimal128_wide : (m : Mark) (b : List ℕ) → length b ≡ 16 → Wide m (decimal128 b) Decimal128 b
unfolding short_text widest scalar_body
decimal128_wide m b h = record { short = λ _. refl; code = refl; bytes = exactly_fits 16 b h; plain = refl }

pub uuid_wide : (m : Mark) (b : List ℕ) → length b ≡ 16 → Wide m (uuid b) Uuid b
unfolding short_text widest scalar_body
uuid_wide m b h = record { short = λ _. refl; code = refl; bytes = exactly_fits 16 b h; plain = refl }

-- booleans
pub true_text : (b : Bool) → b ≡ true → marked unmarked (scalar (boolean b)) ≡ Some (0x41 ∷ [])
unfolding short_text
true_text b h = rw h (short_marked (boolean true) _ refl)

pub false_text : (b : Bool) → b ≡ false → marked unmarked (scalar (boolean b)) ≡ Some (0x42 ∷ [])
unfolding short_text
false_text b h = rw h (short_marked (boolean false) _ refl)

pub boolean_wide : (m : Mark) (b : Bool) → (m ≡ unmarked → ⊥) → Wide m (boolean b) Boolean (from_bool b ∷ [])
unfolding widest scalar_body
boolean_wide m true h = record { short = λ u. absurd (h u); code = refl; bytes = refl; plain = refl }
boolean_wide m false h = record { short = λ u. absurd (h u); code = refl; bytes = refl; plain = refl }

-- null
pub null_text : marked unmarked (scalar null) ≡ Some (0x40 ∷ [])
unfolding short_text
null_text = short_marked null _ refl

null_none : (m : Mark) → (m ≡ unmarked → ⊥) → marked m (scalar null) ≡ None
unfolding marked kind_code widest
null_none unmarked h = absurd (h refl)
null_none first h = refl
null_none (other c) h = refl

apart : InvalidValue ≡ OutOfMemory → ⊥
apart e = cc

pub null_pays : {A : Type 0} (s : State) (found : Option Constructor) (r : Result A Error) (t : State) → (s.mark ≡ unmarked → ⊥) → t ≡ record s { ended = true } → r ≡ Err InvalidValue → Pays s (marked s.mark (scalar null)) found [] InvalidValue r t
null_pays s found r t h same is = pays_none s _ _ [] InvalidValue r t same (null_none s.mark h) (λ e. absurd (apart e)) (λ d. d) is
