use Rattle.std.proofs.Common.{◌≡◌, ℕ, zero, suc, true, false, [], ◌∷◌, None, refl, arith}
use Rattle.amqp_base.specs.Codes.{Kind, row, code_of}
use Rattle.amqp_base.specs.SameKind.{same_kind, place}
use Rattle.amqp_base.specs.Item.{boolean}
use Rattle.amqp_base.specs.Value.{payload, read, boolean_of}
use Rattle.amqp_base.specs.declared.format_code.EncodingCodes.TheVariants.{Boolean, BooleanTrue, BooleanFalse}
use Rattle.amqp_data.proofs.Readings.{takes_nothing}
use Rattle.amqp_data.proofs.FixedWidth.{fixed_is, fixed_refused, fixed_bad, other_refused}
use Rattle.amqp_data.proofs.ByteNumbers.{number_1}
use Rattle.amqp_data.proofs.KindCodes.{not_code}
use Rattle.amqp_data.proofs.scalars.AsBooleanLeaf.read.Goals as goal

no_boolean_of : (n : ℕ) → (n ≡ 0 → ⊥) → (n ≡ 1 → ⊥) → boolean_of n ≡ None
no_boolean_of zero p q = absurd (p refl)
no_boolean_of (suc zero) p q = absurd (q refl)
no_boolean_of (suc (suc n)) p q = refl

no_boolean : (n : ℕ) → (n ≡ 0 → ⊥) → (n ≡ 1 → ⊥) → payload Boolean (n ∷ []) ≡ None
unfolding row payload read
no_boolean n p q = rw (number_1 n) (no_boolean_of n p q)

pub returns-in-0-clause-ok : goal.returns-in-0-clause-ok
unfolding row code_of payload read
returns-in-0-clause-ok g c = fixed_is c.args.code Boolean 1 _ (boolean false) _ _ (rw c.in-86.is refl) refl refl (rw (number_1 c.in-Ok.byte, c.in-0.is) refl) c.in-Ok.ensures.ok

pub returns-in-1-clause-ok : goal.returns-in-1-clause-ok
unfolding row code_of payload read
returns-in-1-clause-ok g c = fixed_is c.args.code Boolean 1 _ (boolean true) _ _ (rw c.in-86.is refl) refl refl (rw (number_1 c.in-Ok.byte, c.in-1.is) refl) c.in-Ok.ensures.ok

pub returns-in_default-byte-clause-err : goal.returns-in_default-byte-clause-err
unfolding row code_of
returns-in_default-byte-clause-err g c = fixed_bad Kind.boolean c.args.code Boolean 1 (c.in-Ok.byte ∷ []) _ _ (rw c.in-86.is refl) refl refl refl (no_boolean c.in-Ok.byte (λ h. omega arith) (λ h. omega arith)) (λ d. d) c.in-Ok.ensures.ok

pub returns-in-Err-clause-err : goal.returns-in-Err-clause-err
unfolding row code_of
returns-in-Err-clause-err g c = fixed_refused Kind.boolean c.args.code Boolean 1 _ _ _ (rw c.in-86.is refl) refl refl c.in-Err.ensures.err.stays c.in-Err.ensures.err.why

pub returns-in-65-clause-ok : goal.returns-in-65-clause-ok
unfolding row code_of payload
returns-in-65-clause-ok g c = fixed_is c.args.code BooleanTrue 0 _ (boolean true) _ _ (rw c.in-65.is refl) refl refl refl (takes_nothing _)

pub returns-in-66-clause-ok : goal.returns-in-66-clause-ok
unfolding row code_of payload
returns-in-66-clause-ok g c = fixed_is c.args.code BooleanFalse 0 _ (boolean false) _ _ (rw c.in-66.is refl) refl refl refl (takes_nothing _)

pub returns-in_default-clause-err : goal.returns-in_default-clause-err
unfolding row same_kind place
returns-in_default-clause-err g c = other_refused Kind.boolean c.args.code _ (λ h. absurd cc) (not_code c.args.code Kind.boolean (λ h. omega arith, (λ h. omega arith, (λ h. omega arith, tt))))
