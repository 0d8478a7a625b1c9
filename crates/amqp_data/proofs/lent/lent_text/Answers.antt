use Rattle.std.proofs.Common.{refl, arith}
use Rattle.amqp_base.specs.Codes.{Kind, row, code_of}
use Rattle.amqp_base.specs.SameKind.{same_kind, place}
use Rattle.amqp_base.specs.Item.{string, symbol}
use Rattle.amqp_base.specs.Value.{payload, read}
use Rattle.amqp_base.specs.declared.format_code.EncodingCodes.TheVariants.{Str8, Str32, Sym8, Sym32}
use Rattle.amqp_data.proofs.KindCodes.{not_code}
use Rattle.amqp_data.proofs.LentData.{is_text_ok, text_data_err, no_text}
use Rattle.amqp_data.proofs.lent.lent_text.Goals as goal

pub returns-in-161-clause-ok : goal.returns-in-161-clause-ok
unfolding row code_of payload read
returns-in-161-clause-ok c = is_text_ok (λ t. t.now) string c.args.code Str8 1 c.text.result _ _ (rw c.in-161.is refl) refl (λ b. refl) (λ b. refl) c.text.ensures.ok

pub returns-in-161-clause-err : goal.returns-in-161-clause-err
unfolding row code_of payload read same_kind place
returns-in-161-clause-err c = text_data_err Kind.string string c.args.code Str8 1 c.text.result _ _ (rw c.in-161.is refl) refl refl refl refl (λ b. refl) c.text.ensures.err

pub returns-in-177-clause-ok : goal.returns-in-177-clause-ok
unfolding row code_of payload read
returns-in-177-clause-ok c = is_text_ok (λ t. t.now) string c.args.code Str32 4 c.text-in-177.result _ _ (rw c.in-177.is refl) refl (λ b. refl) (λ b. refl) c.text-in-177.ensures.ok

pub returns-in-177-clause-err : goal.returns-in-177-clause-err
unfolding row code_of payload read same_kind place
returns-in-177-clause-err c = text_data_err Kind.string string c.args.code Str32 4 c.text-in-177.result _ _ (rw c.in-177.is refl) refl refl refl refl (λ b. refl) c.text-in-177.ensures.err

pub returns-in-163-clause-ok : goal.returns-in-163-clause-ok
unfolding row code_of payload read
returns-in-163-clause-ok c = is_text_ok (λ t. t.now) symbol c.args.code Sym8 1 c.text-in-163.result _ _ (rw c.in-163.is refl) refl (λ b. refl) (λ b. refl) c.text-in-163.ensures.ok

pub returns-in-163-clause-err : goal.returns-in-163-clause-err
unfolding row code_of payload read same_kind place
returns-in-163-clause-err c = text_data_err Kind.symbol symbol c.args.code Sym8 1 c.text-in-163.result _ _ (rw c.in-163.is refl) refl refl refl refl (λ b. refl) c.text-in-163.ensures.err

pub returns-in-179-clause-ok : goal.returns-in-179-clause-ok
unfolding row code_of payload read
returns-in-179-clause-ok c = is_text_ok (λ t. t.now) symbol c.args.code Sym32 4 c.text-in-179.result _ _ (rw c.in-179.is refl) refl (λ b. refl) (λ b. refl) c.text-in-179.ensures.ok

pub returns-in-179-clause-err : goal.returns-in-179-clause-err
unfolding row code_of payload read same_kind place
returns-in-179-clause-err c = text_data_err Kind.symbol symbol c.args.code Sym32 4 c.text-in-179.result _ _ (rw c.in-179.is refl) refl refl refl refl (λ b. refl) c.text-in-179.ensures.err

pub returns-in_default-clause-err : goal.returns-in_default-clause-err
unfolding row same_kind place
returns-in_default-clause-err c =
    no_text c.args.code _ (not_code c.args.code Kind.string (λ h. omega arith, (λ h. omega arith, tt))) (not_code c.args.code Kind.symbol (λ h. omega arith, (λ h. omega arith, tt)))
