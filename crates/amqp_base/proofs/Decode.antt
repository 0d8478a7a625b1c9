-- A simple program that reads a text from left to right. What it reads is spelled so.
use Rattle.std.proofs.Common.{ℕ, zero, suc, ◌+◌, ◌-◌, Bool, true, false, cond, leb, eqb, ◌&&◌, List, [], ◌∷◌, length, take, drop, Option, Some, None}
use Rattle.amqp_base.specs.declared.format_code.EncodingCodes.{EncodingCodes}
use Rattle.amqp_base.specs.declared.format_code.EncodingCodes.TheVariants.{List0}
use Rattle.amqp_base.specs.declared.format_code.Category.{Category}
use Rattle.amqp_base.specs.declared.format_code.Category.TheVariants.{Fixed, Variable, Compound, Array}
use Rattle.amqp_base.specs.Codes.{Kind, row, code_of}
use Rattle.amqp_base.specs.Item.{Scalar, symbol, ulong, Descriptor, name, code, Item, scalar, list, map, array, described, Items, none, more, Pairs, no_pairs, pair}
use Rattle.amqp_base.specs.Value.{number, payload}
use Rattle.amqp_base.specs.Wire.{Rules, lenient, strict, Constructor, bare, under, under_pair}
use Rattle.amqp_base.specs.Canon.{◌>>=◌}

-- what was read, and the bytes after it
abbrev pub Reading : Type 0 → Type 0
Reading A = Option (A × List ℕ)

abbrev pub fits_list : Rules → ℕ → ℕ → ℕ → ℕ → Bool
fits_list lenient w z k n = leb w z && leb k 65536
fits_list strict w z k n = eqb z (w + n)

abbrev pub fits_array : Rules → ℕ → ℕ → ℕ → ℕ → Bool
fits_array lenient w z k n = leb (w + n) z && (leb k 65536 && leb k z)
fits_array strict w z k n = eqb z (w + n)

-- how many bytes stand in an empty array, where its size can be
abbrev pub empty_length : Rules → ℕ → ℕ → Option ℕ
empty_length lenient w z = Some (z - w)
empty_length strict w z = cond (leb w z) (Some (z - w)) None

abbrev pub first : ℕ → List ℕ → Reading (List ℕ)
first n s = cond (leb n (length s)) (Some (take n s, drop n s)) None

abbrev pub scalar_at : EncodingCodes → Category → List ℕ → Reading Scalar
scalar_at e (Fixed n) s = first n s >>= λ p. payload e p.0 >>= λ v. Some (v, p.1)
scalar_at e (Variable w) s = first w s >>= λ l. first (number l.0) l.1 >>= λ p. payload e p.0 >>= λ v. Some (v, p.1)
scalar_at e (Compound w) s = None
scalar_at e (Array w) s = None

abbrev pub code_at : List ℕ → Reading EncodingCodes
code_at [] = None
code_at (x ∷ s) = code_of x >>= λ e. Some (e, s)

unfoldable pub as_descriptor : Scalar → Option Descriptor
as_descriptor (symbol b) = Some (name b)
as_descriptor (ulong n) = Some (code n)
as_descriptor _ = None

abbrev pub descriptor_at : List ℕ → Reading Descriptor
descriptor_at s = code_at s >>= λ c. scalar_at c.0 (row c.0).category c.1 >>= λ p. as_descriptor p.0 >>= λ d. Some (d, p.1)

abbrev pub constructor_at : List ℕ → Reading Constructor
constructor_at [] = None
constructor_at (zero ∷ s) = descriptor_at s >>= λ d. code_at d.1 >>= λ c. Some (under_pair d.0 c.0, c.1)
constructor_at (suc x ∷ s) = code_at (suc x ∷ s) >>= λ c. Some (under c.0, c.1)

abbrev pub parts_at : (List ℕ → Reading Item) → ℕ → List ℕ → Reading Items
parts_at f zero s = Some (none, s)
parts_at f (suc k) s = f s >>= λ i. parts_at f k i.1 >>= λ is. Some (more i.0 is.0, is.1)

abbrev pub pairs_of : Items → Option Pairs
pairs_of none = Some no_pairs
pairs_of (more k none) = None
pairs_of (more k (more v is)) = pairs_of is >>= λ ps. Some (pair k v ps)

-- a size, a count, and what follows them
abbrev pub header_at : ℕ → List ℕ → Reading (ℕ × ℕ)
header_at w s = first w s >>= λ z. first w z.1 >>= λ k. Some ((number z.0, number k.0), k.1)

abbrev pub compound_at : (List ℕ → Reading Item) → Rules → Kind → ℕ → List ℕ → Reading Item
compound_at f r Kind.list w s = header_at w s >>= λ h. parts_at f h.0.1 h.1 >>= λ p.
    cond (fits_list r w h.0.0 h.0.1 (length h.1 - length p.1)) (Some (list p.0, p.1)) None
compound_at f r Kind.map w s = header_at w s >>= λ h. parts_at f h.0.1 h.1 >>= λ p. pairs_of p.0 >>= λ ps.
    cond (fits_list r w h.0.0 h.0.1 (length h.1 - length p.1)) (Some (map ps, p.1)) None
compound_at f r _ w s = None

abbrev pub elements_at : (Constructor → List ℕ → Reading Item) → Rules → ℕ → ℕ → ℕ → List ℕ → Reading Item
elements_at f r w z zero s = empty_length r w z >>= λ n. first n s >>= λ p. Some (array none, p.1)
elements_at f r w z (suc k) s = constructor_at s >>= λ c. parts_at (f c.0) (suc k) c.1 >>= λ p.
    cond (fits_array r w z (suc k) (length s - length p.1)) (Some (array p.0, p.1)) None

abbrev pub array_at : (Constructor → List ℕ → Reading Item) → Rules → Kind → ℕ → List ℕ → Reading Item
array_at f r Kind.array w s = header_at w s >>= λ h. elements_at f r w h.0.0 h.0.1 h.1
array_at f r _ w s = None

unfoldable pub is_list0 : EncodingCodes → Bool
is_list0 List0 = true
is_list0 _ = false

abbrev pub shape_at : (Constructor → List ℕ → Reading Item) → Rules → EncodingCodes → Kind → Category → List ℕ → Reading Item
shape_at f r e k (Fixed n) s = scalar_at e (Fixed n) s >>= λ p. Some (scalar p.0, p.1)
shape_at f r e k (Variable w) s = scalar_at e (Variable w) s >>= λ p. Some (scalar p.0, p.1)
shape_at f r e k (Compound w) s = compound_at (f bare) r k w s
shape_at f r e k (Array w) s = array_at f r k w s

abbrev pub data_at : (Constructor → List ℕ → Reading Item) → Rules → EncodingCodes → List ℕ → Reading Item
data_at f r e s = cond (is_list0 e) (Some (list none, s)) (shape_at f r e (row e).kind (row e).category s)

-- down to a depth
unfoldable pub decode : ℕ → Rules → Constructor → List ℕ → Reading Item
decode zero r c s = None
decode (suc n) r bare [] = None
decode (suc n) r bare (zero ∷ s) = descriptor_at s >>= λ d. decode n r bare d.1 >>= λ v. Some (described d.0 v.0, v.1)
decode (suc n) r bare (suc x ∷ s) = code_at (suc x ∷ s) >>= λ c. data_at (decode n r) r c.0 c.1
decode (suc n) r (under e) s = data_at (decode n r) r e s
decode (suc n) r (under_pair d e) s = data_at (decode n r) r e s >>= λ v. Some (described d v.0, v.1)
