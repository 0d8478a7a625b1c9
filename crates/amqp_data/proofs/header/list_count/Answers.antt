use Rattle.std.proofs.Common.{refl, arith}
use Rattle.amqp_base.specs.Codes.{row, code_of}
use Rattle.amqp_base.specs.declared.format_code.EncodingCodes.TheVariants.{List8, List32}
use Rattle.amqp_base.specs.Parse.{list_data}
use Rattle.amqp_data.proofs.Headers.{list_opens, list0_opens, list_refused, not_a_list, list_exact, list0_exact}
use Rattle.amqp_data.proofs.header.list_count.Goals as goal

pub returns-in-69-clause-ok : goal.returns-in-69-clause-ok
returns-in-69-clause-ok g c = rw c.in-69.is (list0_opens _)

pub returns-in-69-clause-exact : goal.returns-in-69-clause-exact
returns-in-69-clause-exact g c = rw c.in-69.is (list0_exact _)

pub returns-in-Ok-clause-ok : goal.returns-in-Ok-clause-ok
unfolding row code_of
returns-in-Ok-clause-ok g c = list_opens c.args.code List8 1 c.in-Ok.field-0-0 c.in-Ok.count _ _ (rw c.in-192.is refl) refl refl (omega arith) c.in-Ok.ensures.ok

pub returns-in-Ok-clause-exact : goal.returns-in-Ok-clause-exact
unfolding row code_of list_data
returns-in-Ok-clause-exact g c = list_exact c.args.code List8 1 c.in-Ok.field-0-0 c.in-Ok.count _ _ (rw c.in-192.is refl) (λ s. refl) c.in-Ok.ensures.ok

pub returns-in-Err-clause-err : goal.returns-in-Err-clause-err
unfolding row code_of list_data
returns-in-Err-clause-err g c = list_refused c.args.code List8 1 g.R.Read.buffers _ _ _ (rw c.in-192.is refl) (λ s. refl) c.in-Err.ensures.err

pub returns-in-Ok-header-clause-ok : goal.returns-in-Ok-header-clause-ok
unfolding row code_of
returns-in-Ok-header-clause-ok g c = list_opens c.args.code List32 4 c.in-Ok-header.field-0-0 c.in-Ok-header.count _ _ (rw c.in-208.is refl) refl refl (omega arith) c.in-Ok-header.ensures.ok

pub returns-in-Ok-header-clause-exact : goal.returns-in-Ok-header-clause-exact
unfolding row code_of list_data
returns-in-Ok-header-clause-exact g c = list_exact c.args.code List32 4 c.in-Ok-header.field-0-0 c.in-Ok-header.count _ _ (rw c.in-208.is refl) (λ s. refl) c.in-Ok-header.ensures.ok

pub returns-in-Err-header-clause-err : goal.returns-in-Err-header-clause-err
unfolding row code_of list_data
returns-in-Err-header-clause-err g c = list_refused c.args.code List32 4 g.R.Read.buffers _ _ _ (rw c.in-208.is refl) (λ s. refl) c.in-Err-header.ensures.err

pub returns-in_default-clause-err : goal.returns-in_default-clause-err
returns-in_default-clause-err g c = not_a_list c.args.code g.R.Read.buffers _ (λ h. omega arith) (λ h. omega arith) (λ h. omega arith)
