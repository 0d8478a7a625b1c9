use Rattle.std.proofs.Common.{false, refl, IsTrue}
use Rattle.amqp_base.specs.Item.{scalar}
use Rattle.amqp_types.specs.declared.decimal.Decimal.{Decimal}
use Rattle.amqp_types.specs.declared.decimal.Decimal.TheVariants.{Dec32, Dec64, Dec128}
use Rattle.amqp_base.specs.SameKind.{same_kind, place}
use Rattle.amqp_de.specs.Decimals.{is_decimal}
use Rattle.amqp_data.specs.Decimals.{decimal, decimal_at}
use Rattle.amqp_de.proofs.Answered.{found, missed_byte, missed_data, exact_data}
use Rattle.amqp_de.proofs.DecimalRead.{reads_decimal}
use Rattle.amqp_de.proofs.deserializer.Deserializer.deserialize_decimal.Goals as goal

a_decimal : (d : Decimal) → IsTrue (is_decimal (scalar (decimal d)))
unfolding same_kind place
a_decimal (Dec32 b) = refl
a_decimal (Dec64 b) = refl
a_decimal (Dec128 b) = refl

pub returns-in-Ok-decimal_data-clause-ok : goal.returns-in-Ok-decimal_data-clause-ok
returns-in-Ok-decimal_data-clause-ok g c =
    let b = rw (← c.self-2.view_is) at c.in-Ok.ensures.ok in
    found is_decimal (decimal c.in-Ok-decimal_data.value) c.args.self.now _ (g.R.Read.reading c.decimal_data.new.reader) c.in-Ok.code (a_decimal c.in-Ok-decimal_data.value) b c.in-Ok-decimal_data.ensures.ok

pub returns-in-Ok-decimal_data-clause-exact : goal.returns-in-Ok-decimal_data-clause-exact
returns-in-Ok-decimal_data-clause-exact g c = λ a.
    let b = rw (← c.self-2.view_is) at c.in-Ok.ensures.ok in
    exact_data decimal decimal_at g.R.Read.buffers g.R.Read.buffers c.in-Ok-decimal_data.value c.args.self.now _ (g.R.Read.reading c.decimal_data.new.reader) c.in-Ok.code reads_decimal (a_decimal c.in-Ok-decimal_data.value) b c.in-Ok-decimal_data.ensures.ok

pub returns-in-Err-decimal_data-clause-err : goal.returns-in-Err-decimal_data-clause-err
returns-in-Err-decimal_data-clause-err g c =
    let b = rw (← c.self-2.view_is) at c.in-Ok.ensures.ok in
    missed_data decimal_at g.R.Read.buffers g.R.Read.buffers c.args.self.now _ (g.R.Read.reading c.decimal_data.new.reader) c.in-Ok.code c.in-Err-decimal_data.e reads_decimal b c.in-Err-decimal_data.ensures.err

pub returns-in-Err-clause-err : goal.returns-in-Err-clause-err
returns-in-Err-clause-err g c = missed_byte false g.R.Read.buffers _ _ _ reads_decimal c.in-Err.ensures.err
