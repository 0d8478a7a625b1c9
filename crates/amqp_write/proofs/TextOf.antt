-- The texts of items, case by case.
use Rattle.std.proofs.Common.{◌≡◌, ℕ, ◌+◌, ◌%◌, ◌<◌, ◌≤◌, List, [], ◌∷◌, ◌++◌, length, refl, sym, ap, subst, arith, Option, Some, None, true, false, Bool, if◌then◌else◌, Result, Err}
use Rattle.std.proofs.lemmas.Bool.{eq-eqb, ne_eqb, lt-ltb, le-ltb, le-leb, lt-leb}
use Rattle.std.specs.Int.{bytes_high_first}
use Rattle.std.specs.Str.{is_utf8}
use Rattle.amqp_base.specs.declared.format_code.EncodingCodes.{EncodingCodes}
use Rattle.amqp_base.specs.declared.format_code.EncodingCodes.TheVariants.{Str32, Sym32}
use Rattle.amqp_base.specs.Codes.{row, widest}
use Rattle.amqp_base.specs.Wire.{Constructor, under}
use Rattle.amqp_base.specs.Item.{scalar, string, symbol}
use Rattle.amqp_base.specs.Canon.{canon, body, kind_code, scalar_body, scalar_text, short_text, is_under, limit, sized}
use Rattle.amqp_base.specs.Sizes.{Size, sizes}
use Rattle.amqp_base.specs.declared.error.Error.{Error}
use Rattle.std.specs.declared.io.ErrorKind.TheVariants.{Other as IoOther}
use Rattle.amqp_base.specs.Typing.{text_item}
use Rattle.amqp_base.specs.declared.shape.Setting.{Setting}
use Rattle.amqp_base.specs.declared.shape.Setting.TheVariants.{Plain, Symbol, DescribedList, DescribedMap, DescribedBasic}
use Rattle.amqp_base.specs.declared.shape.Shape.{Shape}
use Rattle.amqp_write.specs.Wholes.{whole_text, shape_code, narrow_of, empty_list}
use Rattle.amqp_write.proofs.Steps.{pays_appended, pays_none}
use Rattle.amqp_base.specs.declared.error.Error.TheVariants.{InvalidValue, OutOfMemory, Io}
use Rattle.amqp_types.specs.declared.described.Descriptor.{Descriptor}
use Rattle.amqp_write.specs.declared.place.Mark.{Mark as CodeMark}
use Rattle.amqp_write.specs.declared.place.Mark.TheVariants.{Unmarked, First, Other}
use Rattle.amqp_write.specs.Texts.{text_codes}
use Rattle.amqp_write.specs.State.{State, Mark, unmarked, first, other, mark_in}
use Rattle.amqp_write.specs.Law.{marked, placed, found_after, unwritten, why_unwritten}
use Rattle.amqp_write.specs.Appending.{payload_at, Pays, Appended}

pub not_unmarked : (d : Option Descriptor) (m : CodeMark) → (m ≡ Unmarked → ⊥) → mark_in d m ≡ unmarked → ⊥
not_unmarked d Unmarked h e = h refl
not_unmarked d First h e = cc
not_unmarked d (Other c) h e = cc

pub pays_text : {A : Type 0} (s : State) (text text' : Option (List ℕ)) (found found' : Option Constructor) (l : List Size) (why : Error) (r : Result A Error) (t : State) → text ≡ text' → found ≡ found' → Pays s text' found' l why r t → Pays s text found l why r t
pays_text s text text' found found' l why r t e f p = subst (λ x. Pays s x found l why r t) (sym e) (subst (λ x. Pays s text' x l why r t) (sym f) p)

-- texts
if_none : (t : Bool) → (let n : Option (List ℕ) = None in if t then n else n) ≡ None
if_none true = refl
if_none false = refl

pub placed_none : (m : Mark) (e : EncodingCodes) → placed m (Some (under e)) None ≡ None
placed_none unmarked e = refl
placed_none first e = refl
placed_none (other d) e = if_none (is_under d (Some (under e)))

too_long : (b : List ℕ) → 4294967291 < length b → sized b ≡ None
too_long b h = rw (lt-leb (length b) 4294967291 h) refl

pub fits_size : (b : List ℕ) → length b ≤ 4294967291 → sized b ≡ Some (bytes_high_first 4 (length b) ++ b)
fits_size b h = rw (le-leb (length b) 4294967291 h) refl

pub payload_none : (m : Mark) (narrow : ℕ) (e : EncodingCodes) (b : List ℕ) → 4294967291 < length b → payload_at m narrow e b ≡ None
unfolding payload_at
payload_none unmarked narrow e b h = rw (lt-leb (length b) 254 (omega (arith, h)), lt-leb (length b) 4294967291 h) refl
payload_none first narrow e b h = rw (too_long b h) refl
payload_none (other d) narrow e b h = rw (too_long b h) (placed_none (other d) e)

pub payload_narrow : (narrow : ℕ) (e : EncodingCodes) (b : List ℕ) → length b ≤ 254 → payload_at unmarked narrow e b ≡ Some (narrow ∷ length b ∷ b)
unfolding payload_at
payload_narrow narrow e b h = rw (le-leb (length b) 254 (omega (arith, h))) refl

pub payload_wide : (narrow : ℕ) (e : EncodingCodes) (b : List ℕ) → 254 < length b → length b ≤ 4294967291 → payload_at unmarked narrow e b ≡ Some ((row e).byte ∷ (bytes_high_first 4 (length b) ++ b))
unfolding payload_at
payload_wide narrow e b h k = rw (lt-leb (length b) 254 (omega (arith, h)), le-leb (length b) 4294967291 k) refl

pub payload_placed : (m : Mark) (narrow : ℕ) (e : EncodingCodes) (b : List ℕ) → (m ≡ unmarked → ⊥) → length b ≤ 4294967291 → payload_at m narrow e b ≡ placed m (Some (under e)) (Some (bytes_high_first 4 (length b) ++ b))
unfolding payload_at
payload_placed unmarked narrow e b h k = absurd (h refl)
payload_placed first narrow e b h k = rw (fits_size b k) refl
payload_placed (other d) narrow e b h k = rw (fits_size b k) refl

pub string_at : (m : Mark) (b : List ℕ) → is_utf8 b ≡ true → marked m (scalar (string b)) ≡ payload_at m 0xa1 Str32 b
unfolding marked payload_at canon scalar_text short_text scalar_body body kind_code widest row
string_at unmarked b u = rw u refl
string_at first b u = rw u refl
string_at (other d) b u = rw u refl

pub symbol_at : (m : Mark) (b : List ℕ) → is_utf8 b ≡ true → marked m (scalar (symbol b)) ≡ payload_at m 0xa3 Sym32 b
unfolding marked payload_at canon scalar_text short_text scalar_body body kind_code widest row
symbol_at unmarked b u = rw u refl
symbol_at first b u = rw u refl
symbol_at (other d) b u = rw u refl

io_apart : Io IoOther ≡ OutOfMemory → ⊥
io_apart e = cc

invalid_apart : InvalidValue ≡ OutOfMemory → ⊥
invalid_apart e = cc

pub text_at : (m : Mark) (b : List ℕ) (setting : Setting) → is_utf8 b ≡ true → marked m (text_item b setting) ≡ payload_at m (text_codes setting).0 (text_codes setting).1 b
text_at m b Plain u = string_at m b u
text_at m b Symbol u = symbol_at m b u
text_at m b DescribedList u = string_at m b u
text_at m b DescribedMap u = string_at m b u
text_at m b DescribedBasic u = string_at m b u

pub text_code : (b : List ℕ) (setting : Setting) → kind_code (text_item b setting) ≡ Some (under (text_codes setting).1)
unfolding kind_code widest
text_code b Plain = refl
text_code b Symbol = refl
text_code b DescribedList = refl
text_code b DescribedMap = refl
text_code b DescribedBasic = refl

pub text_sizes : (b : List ℕ) (setting : Setting) → sizes (text_item b setting) ≡ []
unfolding sizes
text_sizes b Plain = refl
text_sizes b Symbol = refl
text_sizes b DescribedList = refl
text_sizes b DescribedMap = refl
text_sizes b DescribedBasic = refl

pub text_why : (b : List ℕ) (setting : Setting) → why_unwritten (text_item b setting) ≡ unwritten (length b)
unfolding why_unwritten
text_why b Plain = refl
text_why b Symbol = refl
text_why b DescribedList = refl
text_why b DescribedMap = refl
text_why b DescribedBasic = refl

-- an element's data, by the mark
pub first_pays : {A : Type 0} (s v : State) (code : EncodingCodes) (byte : ℕ) (bytes : List ℕ) (r : Result A Error) (t : State) → s.mark ≡ first → v ≡ record s { found = Some (under code) } → byte ≡ (row code).byte → s.ended ≡ false → Appended v ((byte ∷ []) ++ bytes) r t → Pays s (placed s.mark (Some (under code)) (Some bytes)) (found_after s.mark (Some (under code)) s.found) [] InvalidValue r t
first_pays s v code byte bytes r t m same is answers a = pays_text s _ (Some ((row code).byte ∷ bytes)) _ (Some (under code)) [] InvalidValue r t (rw m refl) (rw m refl) (pays_appended s v _ _ _ _ r t same (rw is refl) answers a)

pub other_pays : {A : Type 0} (s : State) (outer code : EncodingCodes) (bytes : List ℕ) (r : Result A Error) (t : State) → s.mark ≡ other (under outer) → (row outer).byte ≡ (row code).byte → s.ended ≡ false → Appended s bytes r t → Pays s (placed s.mark (Some (under code)) (Some bytes)) (found_after s.mark (Some (under code)) s.found) [] InvalidValue r t
other_pays s outer code bytes r t m same answers a = pays_text s _ (Some bytes) _ s.found [] InvalidValue r t (rw (m, eq-eqb (row outer).byte (row code).byte same) refl) (rw m refl) (pays_appended s s _ _ _ _ r t refl refl answers a)

pub mixed_pays : {A : Type 0} (s : State) (outer code : EncodingCodes) (bytes : List ℕ) (r : Result A Error) (t : State) → s.mark ≡ other (under outer) → ((row outer).byte ≡ (row code).byte → ⊥) → t ≡ record s { ended = true } → r ≡ Err InvalidValue → Pays s (placed s.mark (Some (under code)) (Some bytes)) (found_after s.mark (Some (under code)) s.found) [] InvalidValue r t
mixed_pays s outer code bytes r t m differ same is = pays_none s _ _ [] InvalidValue r t same (rw (m, ne_eqb (row outer).byte (row code).byte differ) refl) (λ e. absurd (invalid_apart e)) (λ d. d) is

-- too long a payload
pub long_pays : {A : Type 0} (s : State) (text : Option (List ℕ)) (found : Option Constructor) (n : ℕ) (r : Result A Error) (t : State) → t ≡ record s { ended = true } → text ≡ None → limit < n → r ≡ Err (Io IoOther) → Pays s text found [] (unwritten n) r t
long_pays s text found n r t same none long is = subst (λ x. Pays s text found [] x r t) (rw (lt-ltb limit n long) refl) (pays_none s text found [] (Io IoOther) r t same none (λ e. absurd (io_apart e)) (λ d. d.1 refl) is)

-- a payload that isn't too long
pub short_pays : {A : Type 0} (s : State) (text : Option (List ℕ)) (found : Option Constructor) (n : ℕ) (r : Result A Error) (t : State) → n ≤ limit → Pays s text found [] InvalidValue r t → Pays s text found [] (unwritten n) r t
short_pays s text found n r t short p = subst (λ x. Pays s text found [] x r t) (rw (le-ltb limit n short) refl) p

pub one_byte : (n : ℕ) → n < 256 → bytes_high_first 1 n ≡ n ∷ []
one_byte n h = ap (λ x. x ∷ []) (omega (arith, h))

-- compounds
pub whole_none : (shape : Shape) (m : Mark) (k : ℕ) (b : List ℕ) → 4294967291 < length b → whole_text shape m k b ≡ None
unfolding whole_text
whole_none Shape.List unmarked k b h = rw (ne_eqb (length b) 0 (λ e. omega (arith, e, h)), lt-leb (length b) 254 (omega (arith, h)), lt-leb (length b) 4294967291 h) refl
whole_none (Shape.Tuple n) unmarked k b h = rw (ne_eqb (length b) 0 (λ e. omega (arith, e, h)), lt-leb (length b) 254 (omega (arith, h)), lt-leb (length b) 4294967291 h) refl
whole_none Shape.Map unmarked k b h = rw (lt-leb (length b) 254 (omega (arith, h)), lt-leb (length b) 4294967291 h) refl
whole_none Shape.Fields unmarked k b h = rw (lt-leb (length b) 254 (omega (arith, h)), lt-leb (length b) 4294967291 h) refl
whole_none Shape.Array unmarked k b h = rw (lt-leb (length b) 254 (omega (arith, h)), lt-leb (length b) 4294967291 h) refl
whole_none shape first k b h = rw (lt-leb (length b) 4294967291 h) refl
whole_none shape (other d) k b h = rw (lt-leb (length b) 4294967291 h) (if_none (is_under d (Some (under (shape_code shape)))))

pub whole_empty : (shape : Shape) (k : ℕ) (b : List ℕ) → empty_list shape (length b) ≡ true → whole_text shape unmarked k b ≡ Some (0x45 ∷ [])
unfolding whole_text
whole_empty shape k b h = rw h refl

pub whole_narrow : (shape : Shape) (k : ℕ) (b : List ℕ) → empty_list shape (length b) ≡ false → length b ≤ 254 → k ≤ length b → whole_text shape unmarked k b ≡ Some ((narrow_of shape ∷ (length b + 1) ∷ (k % 256) ∷ []) ++ b)
unfolding whole_text
whole_narrow shape k b h l f =
    let size : (1 + length b) % 256 ≡ length b + 1 = omega (arith, l) in
    rw (h, le-leb (length b) 254 (omega (arith, l)), size) refl

pub whole_wide : (shape : Shape) (k : ℕ) (b : List ℕ) → empty_list shape (length b) ≡ false → 254 < length b → length b ≤ 4294967291 → k ≤ length b → whole_text shape unmarked k b ≡ Some ((row (shape_code shape)).byte ∷ (bytes_high_first 4 (length b + 4) ++ (bytes_high_first 4 (k % 4294967296) ++ b)))
unfolding whole_text
whole_wide shape k b h l m f =
    let size : 4 + length b ≡ length b + 4 = omega arith in
    let count : k ≡ k % 4294967296 = omega (arith, m, f) in
    rw (h, lt-leb (length b) 254 (omega (arith, l)), le-leb (length b) 4294967291 m, size, sym count) refl

pub whole_placed : (shape : Shape) (mark : Mark) (k : ℕ) (b : List ℕ) → (mark ≡ unmarked → ⊥) → length b ≤ 4294967291 → k ≤ length b → whole_text shape mark k b ≡ placed mark (Some (under (shape_code shape))) (Some ((bytes_high_first 4 (length b + 4) ++ bytes_high_first 4 (k % 4294967296)) ++ b))
unfolding whole_text
whole_placed shape unmarked k b h m f = absurd (h refl)
whole_placed shape first k b h m f =
    let size : 4 + length b ≡ length b + 4 = omega arith in
    let count : k ≡ k % 4294967296 = omega (arith, m, f) in
    rw (le-leb (length b) 4294967291 m, size, sym count) refl
whole_placed shape (other d) k b h m f =
    let size : 4 + length b ≡ length b + 4 = omega arith in
    let count : k ≡ k % 4294967296 = omega (arith, m, f) in
    rw (le-leb (length b) 4294967291 m, size, sym count) refl
