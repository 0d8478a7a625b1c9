-- What stands behind the code of a byte.
use Rattle.std.proofs.Common.{◌≡◌, ◌⊎◌, ℕ, suc, List, [], ◌∷◌, Bool, true, false, IsTrue, Some, None, refl, sym, ap, ◌∙◌, inl, inr, nat_le, ◌||◌, ◌==◌, if◌then◌else◌}
use Rattle.std.proofs.lemmas.Bool.{eqb-true, leb-true}
use Rattle.amqp_base.specs.declared.format_code.EncodingCodes.{EncodingCodes}
use Rattle.amqp_base.specs.declared.format_code.EncodingCodes.TheVariants.{DescribedType}
use Rattle.amqp_base.specs.declared.format_code.Category.{Category}
use Rattle.amqp_base.specs.declared.format_code.Category.TheVariants.{Fixed as FixedWidth, Variable, Compound, Array}
use Rattle.amqp_base.specs.Codes.{row, code_of, among, codes}
use Rattle.amqp_base.specs.Partial.{◌>>=◌}
use Rattle.amqp_base.specs.Raw.{data_length, scalar_raw}
use Rattle.amqp_base.proofs.CodeAgain.{code_again}
use Rattle.amqp_read.specs.declared.raw.Data.{Data}
use Rattle.amqp_read.specs.declared.raw.Data.TheVariants.{Fixed, Size8, Size32}
use Rattle.amqp_read.specs.Raw.{data_behind, IsWide, IsDataOf}

-- the widths that a category has
abbrev is_category : Category → Bool
is_category (FixedWidth n) = nat_le n 16
is_category (Variable w) = w == 1 || w == 4
is_category (Compound w) = w == 1 || w == 4
is_category (Array w) = w == 1 || w == 4

categories : (e : EncodingCodes) → IsTrue (is_category (row e).category)
unfolding row
categories DescribedType = refl
categories _ = refl

abbrev pub sized_by : ℕ → Data
sized_by w = if w == 1 then Size8 else Size32

code_is : (x : ℕ) (e : EncodingCodes) → (row e).byte ≡ x → (e ≡ DescribedType → ⊥) → code_of x ≡ Some e
code_is x e at primitive = elim (code_again e) [ inl h ↦ ap code_of (sym at) ∙ h | inr d ↦ absurd (primitive d) ]

measured_by : (x : ℕ) (e : EncodingCodes) (s : List ℕ) → code_of x ≡ Some e → scalar_raw (x ∷ s) ≡ (data_length (row e).category s >>= λ n. Some (suc n))
measured_by x e s h = rw h refl

pub fixed_data : (x n : ℕ) (e : EncodingCodes) → (row e).byte ≡ x → ((row e).category ≡ FixedWidth n) × (e ≡ DescribedType → ⊥) → IsDataOf x (Fixed n)
fixed_data x n e at c =
    let is = code_is x e at c.1 in
    let width : IsTrue (is_category (FixedWidth n)) = rw (c.0) at (categories e) in
    record { code = e; is = is; measured = λ s. measured_by x e s is ∙ rw c.0 refl; wide = leb-true n 16 width }

width_is : (w : ℕ) → IsTrue (w == 1 || w == 4) → (w ≡ 1) ⊎ (w ≡ 4)
width_is w h = tell (w == 1) refl (w == 4) refl h
  where
    tell : (a : Bool) → (w == 1) ≡ a → (b : Bool) → (w == 4) ≡ b → IsTrue (a || b) → (w ≡ 1) ⊎ (w ≡ 4)
    tell true p b q h = inl (eqb-true w 1 p)
    tell false p true q h = inr (eqb-true w 4 q)
    tell false p false q h = absurd cc

sized_wide : (w : ℕ) → IsWide (sized_by w)
sized_wide w = tell (w == 1)
  where
    tell : (b : Bool) → IsWide (if b then Size8 else Size32)
    tell true = tt
    tell false = tt

data_sized : (w : ℕ) (s : List ℕ) → (w ≡ 1) ⊎ (w ≡ 4) → data_length (Variable w) s ≡ data_behind (sized_by w) s
data_sized w s (inl h) = rw h refl
data_sized w s (inr h) = rw h refl

sized_data : (x w : ℕ) (e : EncodingCodes) (c : Category) → (row e).byte ≡ x → (row e).category ≡ c → (e ≡ DescribedType → ⊥) → IsTrue (w == 1 || w == 4) → ((s : List ℕ) → data_length c s ≡ data_length (Variable w) s) → IsDataOf x (sized_by w)
sized_data x w e c at is primitive width same =
    let code = code_is x e at primitive in
    record { code = e; is = code; measured = λ s. measured_by x e s code ∙ rw (is, same s, data_sized w s (width_is w width)) refl; wide = sized_wide w }

pub variable_data : (x w : ℕ) (e : EncodingCodes) → (row e).byte ≡ x → ((row e).category ≡ Variable w) × (e ≡ DescribedType → ⊥) → IsDataOf x (sized_by w)
variable_data x w e at c = let width : IsTrue (is_category (Variable w)) = rw (c.0) at (categories e) in sized_data x w e (Variable w) at c.0 c.1 width (λ s. refl)

pub compound_data : (x w : ℕ) (e : EncodingCodes) → (row e).byte ≡ x → ((row e).category ≡ Compound w) × (e ≡ DescribedType → ⊥) → IsDataOf x (sized_by w)
compound_data x w e at c = let width : IsTrue (is_category (Compound w)) = rw (c.0) at (categories e) in sized_data x w e (Compound w) at c.0 c.1 width (λ s. refl)

pub array_data : (x w : ℕ) (e : EncodingCodes) → (row e).byte ≡ x → ((row e).category ≡ Array w) × (e ≡ DescribedType → ⊥) → IsDataOf x (sized_by w)
array_data x w e at c = let width : IsTrue (is_category (Array w)) = rw (c.0) at (categories e) in sized_data x w e (Array w) at c.0 c.1 width (λ s. refl)

described_none : code_of 0 ≡ None
unfolding code_of row
described_none = refl

described_byte : (row DescribedType).byte ≡ 0
unfolding row
described_byte = refl

pub no_described : (x : ℕ) (e : EncodingCodes) → (row e).byte ≡ x → e ≡ DescribedType → code_of x ≡ None
no_described x e at is = let zero : x ≡ 0 = sym at ∙ (ap (λ (z : EncodingCodes). (row z).byte) is ∙ described_byte) in rw zero described_none

none_among : (x : ℕ) (es : List EncodingCodes) → ((e : EncodingCodes) → (row e).byte ≡ x → ⊥) → among x es ≡ None
none_among x [] h = refl
none_among x (e ∷ es) h = tell (x == (row e).byte) refl (none_among x es h)
  where
    tell : (b : Bool) → (x == (row e).byte) ≡ b → among x es ≡ None → among x (e ∷ es) ≡ None
    tell true p rest = absurd (h e (sym (eqb-true x (row e).byte p)))
    tell false p rest = rw p rest

pub no_code_has : (x : ℕ) → ((e : EncodingCodes) → (row e).byte ≡ x → ⊥) → code_of x ≡ None
unfolding code_of
no_code_has x h = none_among x codes h
