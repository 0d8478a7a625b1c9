use Rattle.std.proofs.Common.{refl, arith}
use Rattle.amqp_base.specs.Codes.{row, code_of}
use Rattle.amqp_base.specs.declared.format_code.EncodingCodes.TheVariants.{Map8, Map32}
use Rattle.amqp_base.specs.Parse.{map_data}
use Rattle.amqp_data.proofs.MapHeaders.{map_opens, map_refused, not_a_map, map_exact}
use Rattle.amqp_data.proofs.header.map_count.Goals as goal

pub returns-in-Ok-clause-ok : goal.returns-in-Ok-clause-ok
unfolding row code_of
returns-in-Ok-clause-ok g c = map_opens c.args.code Map8 1 c.in-Ok.field-0-0 c.in-Ok.count _ _ (rw c.in-193.is refl) refl refl (omega arith) c.in-Ok.ensures.even c.in-Ok.ensures.ok

pub returns-in-Ok-clause-exact : goal.returns-in-Ok-clause-exact
unfolding row code_of map_data
returns-in-Ok-clause-exact g c = map_exact c.args.code Map8 1 c.in-Ok.field-0-0 c.in-Ok.count _ _ (rw c.in-193.is refl) (λ s. refl) c.in-Ok.ensures.even c.in-Ok.ensures.ok

pub returns-in-Err-clause-err : goal.returns-in-Err-clause-err
unfolding row code_of map_data
returns-in-Err-clause-err g c = map_refused c.args.code Map8 1 g.R.Read.buffers _ _ _ (rw c.in-193.is refl) (λ s. refl) c.in-Err.ensures.err

pub returns-in-Ok-map_header-clause-ok : goal.returns-in-Ok-map_header-clause-ok
unfolding row code_of
returns-in-Ok-map_header-clause-ok g c = map_opens c.args.code Map32 4 c.in-Ok-map_header.field-0-0 c.in-Ok-map_header.count _ _ (rw c.in-209.is refl) refl refl (omega arith) c.in-Ok-map_header.ensures.even c.in-Ok-map_header.ensures.ok

pub returns-in-Ok-map_header-clause-exact : goal.returns-in-Ok-map_header-clause-exact
unfolding row code_of map_data
returns-in-Ok-map_header-clause-exact g c = map_exact c.args.code Map32 4 c.in-Ok-map_header.field-0-0 c.in-Ok-map_header.count _ _ (rw c.in-209.is refl) (λ s. refl) c.in-Ok-map_header.ensures.even c.in-Ok-map_header.ensures.ok

pub returns-in-Err-map_header-clause-err : goal.returns-in-Err-map_header-clause-err
unfolding row code_of map_data
returns-in-Err-map_header-clause-err g c = map_refused c.args.code Map32 4 g.R.Read.buffers _ _ _ (rw c.in-209.is refl) (λ s. refl) c.in-Err-map_header.ensures.err

pub returns-in_default-clause-err : goal.returns-in_default-clause-err
returns-in_default-clause-err g c = not_a_map c.args.code g.R.Read.buffers _ (λ h. omega arith) (λ h. omega arith)
