use Rattle.std.proofs.Common.{arith, refl}
use Rattle.amqp_data.proofs.ArrayData.{list_heads, list_as_refused, is_array8, is_array32}
use Rattle.amqp_data.proofs.heading.seq_heading.Goals as goal

pub array_heading-requires : goal.array_heading-requires
array_heading-requires g c = is_array8 c.args.code c.in-224.is

pub array_heading-requires-in-240 : goal.array_heading-requires-in-240
array_heading-requires-in-240 g c = is_array32 c.args.code c.in-240.is

pub returns-in-Ok-clause-ok : goal.returns-in-Ok-clause-ok
returns-in-Ok-clause-ok g c = list_heads c.args.code c.in-Ok.left _ _ _ (λ h. omega arith) (λ h. omega arith) c.in-Ok.ensures.ok c.in-Ok.ensures.exact refl refl refl refl refl

pub returns-in-Err-clause-err : goal.returns-in-Err-clause-err
returns-in-Err-clause-err g c = λ custom s. list_as_refused g.R.Read.buffers custom c.args.code _ _ _ (λ h. omega arith) (λ h. omega arith) c.in-Err.ensures.err
