use Rattle.std.proofs.Common.{ℕ, true, refl, arith, Ok, Err, Vec, Global}
use Rattle.amqp_base.specs.Codes.{Kind, row, code_of}
use Rattle.amqp_base.specs.SameKind.{same_kind, place}
use Rattle.amqp_base.specs.Item.{binary}
use Rattle.amqp_base.specs.Value.{payload, read}
use Rattle.amqp_base.specs.declared.format_code.EncodingCodes.TheVariants.{Vbin8, Vbin32}
use Rattle.amqp_data.proofs.FixedWidth.{other_refused}
use Rattle.amqp_data.proofs.KindCodes.{not_code}
use Rattle.amqp_data.proofs.Sized.{sized_ok, sized_err, data_first, other_first}
use Rattle.amqp_data.proofs.payloads.AsBinaryLeaf.read.Goals as goal

pub returns-in-Ok-clause-ok : goal.returns-in-Ok-clause-ok
unfolding row code_of payload read
returns-in-Ok-clause-ok g c = sized_ok (λ v. v.items) binary c.args.code Vbin8 1 (Ok c.in-Ok.bytes) _ _ (rw c.in-160.is refl) refl (λ b. refl) c.in-Ok.ensures.ok

pub returns-in-Err-clause-err : goal.returns-in-Err-clause-err
unfolding row code_of
returns-in-Err-clause-err g c = sized_err {V = Vec ℕ Global} Kind.binary true g.R.Read.buffers c.args.code Vbin8 1 (Err c.in-Err.e) _ _ (rw c.in-160.is refl) refl refl c.in-Err.ensures.err

pub returns-in-Ok-payload-clause-ok : goal.returns-in-Ok-payload-clause-ok
unfolding row code_of payload read
returns-in-Ok-payload-clause-ok g c = sized_ok (λ v. v.items) binary c.args.code Vbin32 4 (Ok c.in-Ok-payload.bytes) _ _ (rw c.in-176.is refl) refl (λ b. refl) c.in-Ok-payload.ensures.ok

pub returns-in-Err-payload-clause-err : goal.returns-in-Err-payload-clause-err
unfolding row code_of
returns-in-Err-payload-clause-err g c = sized_err {V = Vec ℕ Global} Kind.binary true g.R.Read.buffers c.args.code Vbin32 4 (Err c.in-Err-payload.e) _ _ (rw c.in-176.is refl) refl refl c.in-Err-payload.ensures.err

pub returns-in_default-clause-err : goal.returns-in_default-clause-err
unfolding row same_kind place
returns-in_default-clause-err g c = other_refused Kind.binary c.args.code _ (λ h. absurd cc) (not_code c.args.code Kind.binary (λ h. omega arith, (λ h. omega arith, tt)))

-- memory is asked for last
pub returns-in-Err-clause-bytes_first : goal.returns-in-Err-clause-bytes_first
unfolding row code_of
returns-in-Err-clause-bytes_first g c = λ _. data_first {V = Vec ℕ Global} Kind.binary g.R.Read.buffers c.args.code Vbin8 1 (Err c.in-Err.e) _ (rw c.in-160.is refl) refl refl (λ e. absurd cc e) c.in-Err.ensures.bytes_first

pub returns-in-Err-payload-clause-bytes_first : goal.returns-in-Err-payload-clause-bytes_first
unfolding row code_of
returns-in-Err-payload-clause-bytes_first g c = λ _. data_first {V = Vec ℕ Global} Kind.binary g.R.Read.buffers c.args.code Vbin32 4 (Err c.in-Err-payload.e) _ (rw c.in-176.is refl) refl refl (λ e. absurd cc e) c.in-Err-payload.ensures.bytes_first

pub returns-in_default-clause-bytes_first : goal.returns-in_default-clause-bytes_first
returns-in_default-clause-bytes_first g c = λ _. other_first g.R.Read.buffers _ _ _ (λ m. absurd cc m)
