-- The bytes of a kind's codes.
use Rattle.std.proofs.Common.{◌≡◌, ℕ, Bool, true, false, ◌==◌, List, [], ◌∷◌, Some, refl, sym, ap, ◌∙◌}
use Rattle.std.proofs.lemmas.Bool.{eqb-true}
use Rattle.std.proofs.lemmas.Option.{same_Some}
use Rattle.amqp_base.specs.declared.format_code.EncodingCodes.{EncodingCodes}
use Rattle.amqp_base.specs.Codes.{Kind, row, code_of, among, codes}
use Rattle.amqp_base.specs.SameKind.{same_kind}
use Rattle.amqp_base.proofs.KindPlaces.{kind_same}

among_byte : (b : ℕ) (es : List EncodingCodes) (e : EncodingCodes) → among b es ≡ Some e → (row e).byte ≡ b
among_byte b [] e h = absurd cc
among_byte b (d ∷ es) e h = tell (b == (row d).byte) refl (among_byte b es e)
  where
    tell : (t : Bool) → (b == (row d).byte) ≡ t → (among b es ≡ Some e → (row e).byte ≡ b) → (row e).byte ≡ b
    tell true q f = let p : Some d ≡ Some e = rw q at h in ap (λ (z : EncodingCodes). (row z).byte) (sym (same_Some d e p)) ∙ sym (eqb-true b (row d).byte q)
    tell false q f = f (rw q at h)

-- the byte of the code of a byte
pub code_byte : (b : ℕ) (e : EncodingCodes) → code_of b ≡ Some e → (row e).byte ≡ b
unfolding code_of
code_byte b e h = among_byte b codes e h

abbrev if_so : Bool → Type 0 → Type 0 → Type 0
if_so true A B = A
if_so false A B = B

-- a byte is none of those of a kind's codes
abbrev NotOne : ℕ → Kind → List EncodingCodes → Type 0
NotOne b k [] = Unit {0}
NotOne b k (e ∷ es) = if_so (same_kind (row e).kind k) ((b ≡ (row e).byte → ⊥) × NotOne b k es) (NotOne b k es)

not_among : (b : ℕ) (k : Kind) (es : List EncodingCodes) (e : EncodingCodes) → NotOne b k es → among b es ≡ Some e → (row e).kind ≡ k → ⊥
not_among b k [] e n h q = absurd cc
not_among b k (d ∷ es) e n h q = tell (b == (row d).byte) refl (same_kind (row d).kind k) refl (λ m r. not_among b k es e m r q)
  where
    tell : (y : Bool) → (b == (row d).byte) ≡ y → (z : Bool) → same_kind (row d).kind k ≡ z → (NotOne b k es → among b es ≡ Some e → ⊥) → ⊥
    tell true p true s f = let m : (b ≡ (row d).byte → ⊥) × NotOne b k es = rw s at n in m.0 (eqb-true b (row d).byte p)
    tell true p false s f =
        let m : Some d ≡ Some e = rw p at h in
        let same : (row d).kind ≡ k = ap (λ (x : EncodingCodes). (row x).kind) (same_Some d e m) ∙ q in
        absurd cc (kind_same (row d).kind k same, s)
    tell false p true s f = let m : (b ≡ (row d).byte → ⊥) × NotOne b k es = rw s at n in f m.1 (rw p at h)
    tell false p false s f = f (rw s at n) (rw p at h)

-- a byte that is none of them is no code of the kind
pub not_code : (b : ℕ) (k : Kind) → NotOne b k codes → (e : EncodingCodes) → code_of b ≡ Some e → (row e).kind ≡ k → ⊥
unfolding code_of
not_code b k n e h q = not_among b k codes e n h q
