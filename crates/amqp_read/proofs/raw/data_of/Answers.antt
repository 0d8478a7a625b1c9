use Rattle.std.proofs.Common.{refl}
use Rattle.amqp_read.proofs.RawData.{fixed_data, variable_data, compound_data, array_data, no_described, no_code_has}
use Rattle.amqp_read.proofs.raw.data_of.Goals as goal

pub returns-in-Ok-Fixed : goal.returns-in-Ok-Fixed
returns-in-Ok-Fixed c = fixed_data c.args.code _ c.in-Ok.code c.in-Ok.ensures (rw c.in-Ok-Fixed.field-0-is at c.in-Ok-Fixed.ensures)

pub returns-in-Ok-Variable : goal.returns-in-Ok-Variable
returns-in-Ok-Variable c = rw c.sized.ensures (variable_data c.args.code _ c.in-Ok.code c.in-Ok.ensures (rw c.in-Ok-Variable.field-0-is at c.in-Ok-Variable.ensures))

pub returns-in-Ok-Compound : goal.returns-in-Ok-Compound
returns-in-Ok-Compound c = rw c.sized-in-Ok-Compound.ensures (compound_data c.args.code _ c.in-Ok.code c.in-Ok.ensures (rw c.in-Ok-Compound.field-0-is at c.in-Ok-Compound.ensures))

pub returns-in-Ok-Array : goal.returns-in-Ok-Array
returns-in-Ok-Array c = rw c.sized-in-Ok-Array.ensures (array_data c.args.code _ c.in-Ok.code c.in-Ok.ensures (rw c.in-Ok-Array.field-0-is at c.in-Ok-Array.ensures))

pub returns-in-Err : goal.returns-in-Err
returns-in-Err c = let h = c.in-Err.ensures in (h.0, no_code_has c.args.code h.1)

pub returns-in-Err-try_from : goal.returns-in-Err-try_from
returns-in-Err-try_from c = (refl, no_described c.args.code c.in-Ok.code c.in-Ok.ensures c.in-Err-try_from.ensures)
