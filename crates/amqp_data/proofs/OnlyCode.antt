-- Kinds that have one code, of a fixed width.
use Rattle.std.proofs.Common.{◌≡◌, ℕ, ◌==◌, ◌&&◌, ◌||◌, not, Bool, true, false, List, [], ◌∷◌, length, Some, refl, ap, ◌∙◌, inl, inr, ◌⊎◌, IsTrue, nat_lt}
use Rattle.std.proofs.lemmas.Bool.{eqb-true}
use Rattle.std.proofs.lemmas.Option.{same_Some}
use Rattle.amqp_base.specs.declared.error.Error.{Error}
use Rattle.amqp_base.specs.declared.error.Error.TheVariants.{InvalidFormatCode}
use Rattle.amqp_base.specs.declared.format_code.EncodingCodes.{EncodingCodes}
use Rattle.amqp_base.specs.declared.format_code.EncodingCodes.TheVariants.{DescribedType}
use Rattle.amqp_base.specs.declared.format_code.Category.{Category}
use Rattle.amqp_base.specs.declared.format_code.Category.TheVariants.{Fixed, Variable, Compound, Array}
use Rattle.amqp_base.specs.Codes.{Kind, row, code_of, among, codes}
use Rattle.amqp_base.specs.SameKind.{same_kind}
use Rattle.amqp_base.proofs.CodeAgain.{code_again}
use Rattle.amqp_base.proofs.KindPlaces.{kind_same}
use Rattle.amqp_read.specs.Reading.{Reading, Takes, Stays}
use Rattle.amqp_read.specs.Steps.{NotTaken}
use Rattle.amqp_base.specs.Parse.{behind_byte, data_at}
use Rattle.amqp_data.specs.Steps.{Rejects}
use Rattle.amqp_data.specs.OneCode.{alone, has_width, is_only, OnlyData}
use Rattle.amqp_data.proofs.FixedWidth.{fixed_is, fixed_refused, other_refused}

both : (a b : Bool) → IsTrue (a && b) → IsTrue a × IsTrue b
both true b h = (refl, h)
both false b h = absurd cc

width_is : (w : ℕ) (c : Category) → IsTrue (has_width w c) → c ≡ Fixed w
width_is w (Fixed n) h = ap Fixed (eqb-true n w h)
width_is w (Variable n) h = absurd cc
width_is w (Compound n) h = absurd cc
width_is w (Array n) h = absurd cc

either : (a b : Bool) → a ≡ true → IsTrue (not a || b) → IsTrue b
either true b p h = h
either false b p h = absurd cc

-- a code of the kind has the one byte
pub alone_byte : (k : Kind) (b x : ℕ) (es : List EncodingCodes) (e : EncodingCodes) → IsTrue (alone k b es) → among x es ≡ Some e → (row e).kind ≡ k → x ≡ b
alone_byte k b x [] e t h q = absurd cc
alone_byte k b x (d ∷ es) e t h q = tell (x == (row d).byte) refl (λ r. alone_byte k b x es e (both _ _ t).1 r q)
  where
    parts : IsTrue (not (same_kind (row d).kind k) || ((row d).byte == b)) × IsTrue (alone k b es)
    parts = both _ _ t

    tell : (y : Bool) → (x == (row d).byte) ≡ y → (among x es ≡ Some e → x ≡ b) → x ≡ b
    tell true p f =
        let m : Some d ≡ Some e = rw p at h in
        let n : (row d).kind ≡ k = ap (λ (z : EncodingCodes). (row z).kind) (same_Some d e m) ∙ q in
        eqb-true x (row d).byte p ∙ eqb-true (row d).byte b (either _ _ (kind_same (row d).kind k n) parts.0)
    tell false p f = f (rw p at h)

-- what the test says
pub record Only (e : EncodingCodes) (w : ℕ) : Type 0 where
  pub width : (row e).category ≡ Fixed w
  pub code : code_of (row e).byte ≡ Some e
  pub plain : (row e).kind ≡ Kind.described → ⊥
  pub one : (x : ℕ) (d : EncodingCodes) → code_of x ≡ Some d → (row d).kind ≡ (row e).kind → x ≡ (row e).byte

byte_of_described : (e : EncodingCodes) → e ≡ DescribedType → IsTrue (nat_lt 0 (row e).byte) → ⊥
unfolding row
byte_of_described e p h = let q : IsTrue (nat_lt 0 (row DescribedType).byte) = rw p at h in absurd cc

plain_code : (e : EncodingCodes) → IsTrue (nat_lt 0 (row e).byte) → code_of (row e).byte ≡ Some e
plain_code e h = tell (code_again e)
  where
    tell : (code_of (row e).byte ≡ Some e) ⊎ (e ≡ DescribedType) → code_of (row e).byte ≡ Some e
    tell (inl p) = p
    tell (inr p) = absurd (byte_of_described e p h)

plain_kind : (e : EncodingCodes) → IsTrue (nat_lt 0 (row e).byte) → (row e).kind ≡ Kind.described → ⊥
unfolding row
plain_kind DescribedType h k = absurd cc
plain_kind _ h k = absurd cc

pub only : (e : EncodingCodes) (w : ℕ) → IsTrue (is_only e w) → Only e w
unfolding is_only code_of
only e w h =
    let p = both _ _ h in
    let q = both _ _ p.1 in
    record { width = width_is w _ q.0; code = plain_code e p.0; plain = plain_kind e p.0; one = λ x d n k. alone_byte (row e).kind (row e).byte x codes d q.1 n k }

-- its data
pub only_data : (x : ℕ) (e : EncodingCodes) (w : ℕ) (b : List ℕ) (old new : Reading) → Only e w → x ≡ (row e).byte → length b ≡ w → Takes old new b → OnlyData x e w b old new
only_data x e w b old new o h l t = record { len = l; code = ap code_of h ∙ o.code; step = t; is = λ v p. fixed_is x e w b v old new (ap code_of h ∙ o.code) o.width l p t }

pub only_short : {grows buffers : Bool} (x : ℕ) (e : EncodingCodes) (w : ℕ) (old new : Reading) (err : Error) → Only e w → x ≡ (row e).byte → Stays old new → NotTaken grows buffers w old new err
    → Rejects grows buffers (behind_byte (data_at (row e).kind) x) old new err
only_short x e w old new err o h s u = fixed_refused (row e).kind x e w old new err (ap code_of h ∙ o.code) refl o.width s u

pub only_other : {grows buffers : Bool} (x : ℕ) (e : EncodingCodes) (w : ℕ) (r : Reading) → Only e w → (x ≡ (row e).byte → ⊥) → Rejects grows buffers (behind_byte (data_at (row e).kind) x) r r InvalidFormatCode
only_other x e w r o n = other_refused (row e).kind x r o.plain (λ d h k. n (o.one x d h k))
