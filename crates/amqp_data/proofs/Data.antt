-- What the data of an item without parts parse as.
use Rattle.std.proofs.Common.{◌≡◌, ℕ, zero, suc, ◌<◌, false, List, ◌++◌, length, Some, Ok, Err, refl, ◌∙◌, arith, append_assoc, nat_lt}
use Rattle.std.proofs.lemmas.List.{length-append, take_at, drop_at}
use Rattle.std.proofs.lemmas.Bool.{le-ltb, lt-ltb}
use Rattle.std.specs.declared.io.ErrorKind.TheVariants.{UnexpectedEof}
use Rattle.amqp_base.specs.declared.error.Error.TheVariants.{Io}
use Rattle.amqp_base.specs.declared.format_code.EncodingCodes.{EncodingCodes}
use Rattle.amqp_base.specs.declared.format_code.Category.{Category}
use Rattle.amqp_base.specs.Codes.{Kind, row, code_of}
use Rattle.amqp_base.specs.Item.{Scalar, scalar}
use Rattle.amqp_base.specs.Value.{payload}
use Rattle.amqp_base.specs.Canon.{kind_of}
use Rattle.amqp_base.specs.Wire.{under, Wire, lenient, of_data, Data, of_fixed, of_variable, ScalarData, fixed, variable}
use Rattle.amqp_base.proofs.ScalarFront.{payload_kind}
use Rattle.amqp_base.proofs.KindPlaces.{kind_same}
use Rattle.amqp_base.proofs.OneFront.{no_code}
use Rattle.amqp_base.specs.Parse.{Parsed, bytes_at, valued, by_category, data_at, any_code, behind_byte}

-- enough bytes
pub bytes_there : (n : ℕ) (b rest : List ℕ) → length b ≡ n → bytes_at n (b ++ rest) ≡ Ok (b, rest)
bytes_there n b rest l =
    let long : nat_lt (length (b ++ rest)) n ≡ false = le-ltb _ _ (omega (arith, length-append b rest)) in
    rw (long, take_at b rest n l, drop_at b rest n l) refl

-- too few
pub bytes_short : (n : ℕ) (s : List ℕ) → length s < n → bytes_at n s ≡ Err (Io UnexpectedEof)
bytes_short n s l = rw (lt-ltb (length s) n l) refl

pub payload_is : (e : EncodingCodes) (b rest : List ℕ) (v : Scalar) → payload e b ≡ Some v → valued e (b, rest) ≡ Ok (v, rest)
payload_is e b rest v h = rw h refl

-- a payload of a code, by its category
pub by_category_is : {e : EncodingCodes} {c : Category} {t : List ℕ} {v : Scalar} → ScalarData e c t v → (rest : List ℕ) → by_category e c (t ++ rest) ≡ Ok (v, rest)
by_category_is {e} (fixed {n = n} {b = b} {v = v} l p) rest = rw (bytes_there n b rest l) (payload_is e b rest v p)
by_category_is {e} (variable {w = w} l b {v = v} ll n p) rest =
    rw (append_assoc l b rest, bytes_there w l (b ++ rest) ll, n, bytes_there (length b) b rest refl) (payload_is e b rest v p)

pub data_kind : {e : EncodingCodes} {c : Category} {t : List ℕ} {v : Scalar} → ScalarData e c t v → (row e).kind ≡ kind_of v
data_kind {e} (fixed {b = b} {v = v} l p) = payload_kind e b v p
data_kind {e} (variable l b {v = v} ll n p) = payload_kind e b v p

scalar_data : {e : EncodingCodes} {k : Kind} {c : Category} {t : List ℕ} {v : Scalar} → Data lenient e k c t (scalar v) → ScalarData e c t v
scalar_data (of_fixed h) = h
scalar_data (of_variable h) = h

pub scalar_under : {e : EncodingCodes} {t : List ℕ} {v : Scalar} → Wire lenient (under e) t (scalar v) → ScalarData e (row e).category t v
scalar_under (of_data h) = scalar_data h

pub kind_under : {e : EncodingCodes} {t : List ℕ} {v : Scalar} → Wire lenient (under e) t (scalar v) → (row e).kind ≡ kind_of v
kind_under w = data_kind (scalar_under w)

-- data of the kind parse
pub understands : (k : Kind) (e : EncodingCodes) (t rest : List ℕ) (v : Scalar) → kind_of v ≡ k → Wire lenient (under e) t (scalar v) → data_at k e (t ++ rest) ≡ Ok (v, rest)
unfolding data_at
understands k e t rest v h w = rw (kind_same (row e).kind k (kind_under w ∙ h)) (by_category_is (scalar_under w) rest)

pub any_code_is : (b : ℕ) (e : EncodingCodes) → code_of b ≡ Some e → any_code b ≡ Ok e
unfolding any_code
any_code_is zero e h = absurd (no_code h)
any_code_is (suc n) e h = rw h refl

pub behind_code : {A : Type 0} (parse : EncodingCodes → List ℕ → Parsed A) (b : ℕ) (e : EncodingCodes) (s : List ℕ) → code_of b ≡ Some e → behind_byte parse b s ≡ parse e s
behind_code parse b e s h = rw (any_code_is b e h) refl
