use Rattle.std.proofs.Common.{◌≡◌, ℕ, Bool, true, false, List, [], ◌∷◌, length, Some, None, refl, ◌∙◌, arith, w32}
use Rattle.std.specs.Int.{from_be_bytes}
use Rattle.std.specs.Str.{all_scalars}
use Rattle.std.specs.Char.{IsScalar}
use Rattle.amqp_base.specs.Codes.{Kind, row}
use Rattle.amqp_base.specs.Item.{char}
use Rattle.amqp_base.specs.Value.{number, payload, read}
use Rattle.amqp_base.specs.declared.format_code.EncodingCodes.TheVariants.{Char}
use Rattle.amqp_data.proofs.FixedWidth.{fixed_bad}
use Rattle.amqp_data.proofs.ByteNumbers.{be_number}
use Rattle.amqp_data.proofs.scalars.AsCharLeaf.read.Goals as goal

is_char : (b : List ℕ) (n c : ℕ) → length b ≡ 4 → n ≡ from_be_bytes w32 b → IsScalar n → c ≡ n → payload Char b ≡ Some (char c)
unfolding row payload read
is_char b n c l h s p =
    let m : n ≡ number b = h ∙ be_number w32 b l in
    let t : IsScalar (number b) = rw m at s in
    rw (p, m, t) refl

no_char_of : (t : Bool) (n : ℕ) → all_scalars (n ∷ []) ≡ t → (IsScalar n → ⊥) → all_scalars (n ∷ []) ≡ false
no_char_of true n h f = absurd (f (grind (arith, h)))
no_char_of false n h f = h

no_char : (b : List ℕ) (n : ℕ) → length b ≡ 4 → n ≡ from_be_bytes w32 b → (IsScalar n → ⊥) → payload Char b ≡ None
unfolding row payload read
no_char b n l h f =
    let m : n ≡ number b = h ∙ be_number w32 b l in
    rw (no_char_of (all_scalars (number b ∷ [])) (number b) refl (rw m at f)) refl

pub returns-in-Some-clause-ok : goal.returns-in-Some-clause-ok
returns-in-Some-clause-ok g c =
    let o = c.in-Ok.ensures.ok in
    let v = c.in-Some.ensures.value in
    o.is (char c.in-Some.character) (is_char c.in-Ok.bytes c.from_be_bytes.result c.in-Some.character o.len c.from_be_bytes.ensures v.0 v.1)

pub returns-in-None-clause-err : goal.returns-in-None-clause-err
unfolding row
returns-in-None-clause-err g c =
    let o = c.in-Ok.ensures.ok in
    fixed_bad Kind.char c.args.code Char 4 c.in-Ok.bytes _ _ o.code refl refl o.len (no_char c.in-Ok.bytes c.from_be_bytes.result o.len c.from_be_bytes.ensures c.in-None.ensures.value) (λ d. d) o.step
