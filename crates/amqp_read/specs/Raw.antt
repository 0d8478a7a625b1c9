-- The next value as bytes, measured by its codes and sizes alone, and why there is none.
use Rattle.std.specs.Prelude.{◌≡◌, ◌⊎◌, ℕ, zero, suc, ◌+◌, ◌^◌, ◌<◌, ◌≤◌, Bool, IsTrue, List, [], ◌∷◌, ◌++◌, length, take, drop, Option, None, Some, Result, Ok, Err, ⊤}
use Rattle.std.specs.declared.io.ErrorKind.TheVariants.{UnexpectedEof}
use Rattle.amqp_base.specs.declared.error.Error.{Error}
use Rattle.amqp_base.specs.declared.error.Error.TheVariants.{Io, InvalidFormatCode}
use Rattle.amqp_base.specs.declared.format_code.EncodingCodes.{EncodingCodes}
use Rattle.amqp_base.specs.Codes.{code_of}
use Rattle.amqp_base.specs.Item.{Item}
use Rattle.amqp_base.specs.Laws.{IsTwiceDescribed}
use Rattle.amqp_base.specs.Partial.{◌>>=◌}
use Rattle.amqp_base.specs.Raw.{there, behind_size, scalar_raw, raw}
use Rattle.amqp_base.specs.Value.{number}
use Rattle.amqp_base.specs.Wire.{Wire, strict, bare}
use Rattle.amqp_read.specs.declared.raw.Data.{Data}
use Rattle.amqp_read.specs.declared.raw.Data.TheVariants.{Fixed, Size8, Size32}
use Rattle.amqp_read.specs.Reading.{Reading, Agree, Takes}
use Rattle.amqp_read.specs.Steps.{MayCome, PassesCount}

-- ---- of bytes

-- the data behind a code: so many bytes, or a size of 1 or 4 bytes and as many as it says
abbrev pub data_behind : Data → List ℕ → Option ℕ
data_behind (Fixed n) s = there n s
data_behind Size8 s = behind_size 1 s
data_behind Size32 s = behind_size 4 s

-- no code has more data of its own than a uuid or a decimal of 16 bytes
abbrev pub IsWide : Data → Type 0
IsWide (Fixed n) = n ≤ 16
IsWide Size8 = ⊤
IsWide Size32 = ⊤

-- the code of a byte, and what stands behind it
pub record IsDataOf (x : ℕ) (d : Data) : Type 0 where
  pub code : EncodingCodes
  pub is : code_of x ≡ Some code
  pub measured : (s : List ℕ) → scalar_raw (x ∷ s) ≡ (data_behind d s >>= λ n. Some (suc n))
  pub wide : IsWide d

-- what stands behind the code of a byte, or that the byte is none
abbrev pub DataOf : ℕ → Result Data Error → Type 0
DataOf x (Ok d) = IsDataOf x d
DataOf x (Err e) = (e ≡ InvalidFormatCode) × (code_of x ≡ None)

abbrev pub unless_code : Option EncodingCodes → Error
unless_code None = InvalidFormatCode
unless_code (Some e) = Io UnexpectedEof

-- why a value whose constructor is one code has no length: its first byte is no code, or bytes are missing
abbrev pub why_no_scalar : List ℕ → Error
why_no_scalar [] = Io UnexpectedEof
why_no_scalar (x ∷ s) = unless_code (code_of x)

abbrev pub why_behind : Option ℕ → List ℕ → Error
why_behind None s = why_no_scalar s
why_behind (Some m) s = why_no_scalar (drop m s)

-- why no value stands next: so of the descriptor behind 0x00, then of the value behind it
abbrev pub why_no_value : List ℕ → Error
why_no_value [] = Io UnexpectedEof
why_no_value (zero ∷ s) = why_behind (scalar_raw s) s
why_no_value (suc x ∷ s) = why_no_scalar (suc x ∷ s)

-- no value stands next, and this is why
pub record HasNoValue (s : List ℕ) (e : Error) : Type 0 where
  pub none : raw s ≡ None
  pub named : e ≡ why_no_value s

-- the same of a value whose constructor is one code
pub record HasNoScalar (s : List ℕ) (e : Error) : Type 0 where
  pub none : scalar_raw s ≡ None
  pub named : e ≡ why_no_scalar s

-- ---- of a reader

-- what a value's constructor and size may be refused as
abbrev pub IsUnmeasured : Error → Type 0
IsUnmeasured e = (e ≡ Io UnexpectedEof) ⊎ (e ≡ InvalidFormatCode)

-- these bytes are just one value
abbrev pub IsValue : List ℕ → Type 0
IsValue b = raw b ≡ Some (length b)

-- a value is to come, where that is known
abbrev pub HasValue : Option (List ℕ) → Type 0
HasValue None = ⊤
HasValue (Some s) = (n : ℕ) × (raw s ≡ Some n)

-- no value is to come, for this reason, where the source is honest
pub record NoValue (r : Reading) (e : Error) : Type 0 where
  pub kind : IsUnmeasured e
  pub why : IsTrue r.honest → (s : List ℕ) → r.to_come ≡ Some s → HasNoValue s e

-- behind the next bytes no value is to come whose constructor is one code
pub record NoScalar (from : ℕ) (r : Reading) (e : Error) : Type 0 where
  pub kind : IsUnmeasured e
  pub why : IsTrue r.honest → (s : List ℕ) → r.to_come ≡ Some s → HasNoScalar (drop from s) e

-- a value is there that can't be counted
pub record ValuePassesCount (buffers : Bool) (old : Reading) (e : Error) : Type 0 where
  pub bytes : ℕ
  pub past : PassesCount buffers bytes old e

-- by what is known and received these may be taken next
abbrev pub MayBeTaken : Reading → List ℕ → Type 0
MayBeTaken r b = Agree r.received b × MayCome r b

-- behind the next n bytes these were seen: of the bytes that were known, and of whatever is taken next
pub record Sees (n : ℕ) (b : List ℕ) (old new : Reading) : Type 0 where
  pub known : (s : List ℕ) → old.to_come ≡ Some s → take (length b) (drop n s) ≡ b
  pub next : (t : List ℕ) → MayBeTaken new t → n + length b ≤ length t → take (length b) (drop n t) ≡ b

-- w bytes were seen there, and they spell the number
pub record SeesNumber (from w n : ℕ) (old new : Reading) : Type 0 where
  pub bytes : List ℕ
  pub len : length bytes ≡ w
  pub seen : Sees from bytes old new
  pub is : n ≡ number bytes

-- a code and its size were seen there, by which the value is n bytes long
pub record Measures (from n : ℕ) (old new : Reading) : Type 0 where
  pub head : List ℕ
  pub seen : Sees from head old new
  pub within : length head ≤ n
  pub some : 0 < n
  pub few : n ≤ 5 + 256 ^ 4
  pub there : (b : List ℕ) → n ≤ length (head ++ b) → scalar_raw (head ++ b) ≡ Some n
  pub missing : (b : List ℕ) → length (head ++ b) < n → HasNoScalar (head ++ b) (Io UnexpectedEof)

-- by what was seen of it the next value is n bytes long
pub record MeasuresValue (n : ℕ) (old new : Reading) : Type 0 where
  pub taken : (b : List ℕ) → MayBeTaken new b → length b ≡ n → IsValue b
  pub there : (s : List ℕ) → old.to_come ≡ Some s → n ≤ length s → raw s ≡ Some n
  pub missing : (s : List ℕ) → old.to_come ≡ Some s → length s < n → HasNoValue s (Io UnexpectedEof)

-- just one value was taken, which is the next where the bytes to come are known
pub record TakesValue (old new : Reading) (b : List ℕ) : Type 0 where
  pub value : IsValue b
  pub next : (s : List ℕ) → old.to_come ≡ Some s → raw s ≡ Some (length b)
  pub step : Takes old new b

-- where a strict form of an item stands next, just its bytes are taken, save of one whose described value is described
pub record TakesStrict (old : Reading) (taken : List ℕ) : Type 0 where
  pub just : (b rest : List ℕ) (i : Item) → old.to_come ≡ Some (b ++ rest) → Wire strict bare b i → (IsTwiceDescribed i → ⊥) → taken ≡ b
