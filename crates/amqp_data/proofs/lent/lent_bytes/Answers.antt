use Rattle.std.proofs.Common.{false, refl, arith}
use Rattle.amqp_base.specs.Codes.{Kind, row, code_of}
use Rattle.amqp_base.specs.SameKind.{same_kind, place}
use Rattle.amqp_base.specs.Item.{binary}
use Rattle.amqp_base.specs.Value.{payload, read}
use Rattle.amqp_base.specs.declared.format_code.EncodingCodes.TheVariants.{Vbin8, Vbin32}
use Rattle.amqp_data.proofs.FixedWidth.{other_refused}
use Rattle.amqp_data.proofs.KindCodes.{not_code}
use Rattle.amqp_data.proofs.Sized.{sized_ok, sized_err}
use Rattle.amqp_data.proofs.lent.lent_bytes.Goals as goal

pub returns-in-160-clause-ok : goal.returns-in-160-clause-ok
unfolding row code_of payload read
returns-in-160-clause-ok c = sized_ok (λ b. b.now) binary c.args.code Vbin8 1 c.payload.result _ _ (rw c.in-160.is refl) refl (λ b. refl) c.payload.ensures.ok

pub returns-in-160-clause-err : goal.returns-in-160-clause-err
unfolding row code_of
returns-in-160-clause-err c = sized_err Kind.binary false false c.args.code Vbin8 1 c.payload.result _ _ (rw c.in-160.is refl) refl refl c.payload.ensures.err

pub returns-in-176-clause-ok : goal.returns-in-176-clause-ok
unfolding row code_of payload read
returns-in-176-clause-ok c = sized_ok (λ b. b.now) binary c.args.code Vbin32 4 c.payload-in-176.result _ _ (rw c.in-176.is refl) refl (λ b. refl) c.payload-in-176.ensures.ok

pub returns-in-176-clause-err : goal.returns-in-176-clause-err
unfolding row code_of
returns-in-176-clause-err c = sized_err Kind.binary false false c.args.code Vbin32 4 c.payload-in-176.result _ _ (rw c.in-176.is refl) refl refl c.payload-in-176.ensures.err

pub returns-in_default-clause-err : goal.returns-in_default-clause-err
unfolding row same_kind place
returns-in_default-clause-err c = other_refused Kind.binary c.args.code _ (λ h. absurd cc) (not_code c.args.code Kind.binary (λ h. omega arith, (λ h. omega arith, tt)))
