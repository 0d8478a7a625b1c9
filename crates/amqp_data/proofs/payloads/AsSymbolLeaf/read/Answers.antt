use Rattle.std.proofs.Common.{refl, arith, Ok, Err, String, Global, string_bytes}
use Rattle.amqp_base.specs.Codes.{Kind, row, code_of}
use Rattle.amqp_base.specs.SameKind.{same_kind, place}
use Rattle.amqp_base.specs.Item.{symbol}
use Rattle.amqp_base.specs.Value.{payload, read}
use Rattle.amqp_base.specs.declared.format_code.EncodingCodes.TheVariants.{Sym8, Sym32}
use Rattle.amqp_data.proofs.FixedWidth.{other_refused}
use Rattle.amqp_data.proofs.KindCodes.{not_code}
use Rattle.amqp_data.proofs.Sized.{text_ok, text_err, data_first, other_first}
use Rattle.amqp_data.proofs.payloads.AsSymbolLeaf.read.Goals as goal

pub returns-in-Ok-clause-ok : goal.returns-in-Ok-clause-ok
unfolding row code_of payload read
returns-in-Ok-clause-ok g c = text_ok string_bytes symbol c.args.code Sym8 1 (Ok c.in-Ok.text) _ _ (rw c.in-163.is refl) refl (λ b. refl) c.in-Ok.ensures.ok

pub returns-in-Err-clause-err : goal.returns-in-Err-clause-err
unfolding row code_of payload read
returns-in-Err-clause-err g c = text_err {V = String Global} Kind.symbol symbol g.R.Read.buffers c.args.code Sym8 1 (Err c.in-Err.e) _ _ (rw c.in-163.is refl) refl refl refl (λ b. refl) c.in-Err.ensures.err

pub returns-in-Ok-text-clause-ok : goal.returns-in-Ok-text-clause-ok
unfolding row code_of payload read
returns-in-Ok-text-clause-ok g c = text_ok string_bytes symbol c.args.code Sym32 4 (Ok c.in-Ok-text.text) _ _ (rw c.in-179.is refl) refl (λ b. refl) c.in-Ok-text.ensures.ok

pub returns-in-Err-text-clause-err : goal.returns-in-Err-text-clause-err
unfolding row code_of payload read
returns-in-Err-text-clause-err g c = text_err {V = String Global} Kind.symbol symbol g.R.Read.buffers c.args.code Sym32 4 (Err c.in-Err-text.e) _ _ (rw c.in-179.is refl) refl refl refl (λ b. refl) c.in-Err-text.ensures.err

pub returns-in_default-clause-err : goal.returns-in_default-clause-err
unfolding row same_kind place
returns-in_default-clause-err g c = other_refused Kind.symbol c.args.code _ (λ h. absurd cc) (not_code c.args.code Kind.symbol (λ h. omega arith, (λ h. omega arith, tt)))

-- memory is asked for last
pub returns-in-Err-clause-bytes_first : goal.returns-in-Err-clause-bytes_first
unfolding row code_of
returns-in-Err-clause-bytes_first g c = λ _. data_first {V = String Global} Kind.symbol g.R.Read.buffers c.args.code Sym8 1 (Err c.in-Err.e) _ (rw c.in-163.is refl) refl refl (λ e. absurd cc e) c.in-Err.ensures.bytes_first

pub returns-in-Err-text-clause-bytes_first : goal.returns-in-Err-text-clause-bytes_first
unfolding row code_of
returns-in-Err-text-clause-bytes_first g c = λ _. data_first {V = String Global} Kind.symbol g.R.Read.buffers c.args.code Sym32 4 (Err c.in-Err-text.e) _ (rw c.in-179.is refl) refl refl (λ e. absurd cc e) c.in-Err-text.ensures.bytes_first

pub returns-in_default-clause-bytes_first : goal.returns-in_default-clause-bytes_first
returns-in_default-clause-bytes_first g c = λ _. other_first g.R.Read.buffers _ _ _ (λ m. absurd cc m)
