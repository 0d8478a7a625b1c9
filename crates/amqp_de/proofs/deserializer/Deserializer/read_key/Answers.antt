use Rattle.std.proofs.Common.{true, refl, IsTrue}
use Rattle.amqp_base.specs.Identifiers.{is_key, key_data}
use Rattle.amqp_base.specs.Item.{scalar}
use Rattle.amqp_base.specs.SameKind.{same_kind, place}
use Rattle.amqp_data.specs.declared.keys.Key.{Key}
use Rattle.amqp_data.specs.declared.keys.Key.TheVariants.{Uint, Ulong, String, Symbol}
use Rattle.amqp_data.specs.Keys.{key_scalar}
use Rattle.amqp_de.proofs.Answered.{found, missed_byte, missed_data, exact_data}
use Rattle.amqp_de.proofs.Identified.{reads_key}
use Rattle.amqp_de.proofs.deserializer.Deserializer.read_key.Goals as goal

a_key : (k : Key) → IsTrue (is_key (scalar (key_scalar k)))
unfolding same_kind place
a_key (Uint n) = refl
a_key (Ulong n) = refl
a_key (String s) = refl
a_key (Symbol s) = refl

pub returns-in-Ok-key_data-clause-ok : goal.returns-in-Ok-key_data-clause-ok
returns-in-Ok-key_data-clause-ok g c =
    let b = rw (← c.self-2.view_is) at c.in-Ok.ensures.ok in
    found is_key (key_scalar c.in-Ok-key_data.key) c.args.self.now _ (g.R.Read.reading c.key_data.new.reader) c.in-Ok.code (a_key c.in-Ok-key_data.key) b c.in-Ok-key_data.ensures.ok

pub returns-in-Ok-key_data-clause-exact : goal.returns-in-Ok-key_data-clause-exact
returns-in-Ok-key_data-clause-exact g c = λ a.
    let b = rw (← c.self-2.view_is) at c.in-Ok.ensures.ok in
    exact_data key_scalar key_data true g.R.Read.buffers c.in-Ok-key_data.key c.args.self.now _ (g.R.Read.reading c.key_data.new.reader) c.in-Ok.code reads_key (a_key c.in-Ok-key_data.key) b c.in-Ok-key_data.ensures.ok

pub returns-in-Err-key_data-clause-err : goal.returns-in-Err-key_data-clause-err
returns-in-Err-key_data-clause-err g c =
    let b = rw (← c.self-2.view_is) at c.in-Ok.ensures.ok in
    missed_data key_data true g.R.Read.buffers c.args.self.now _ (g.R.Read.reading c.key_data.new.reader) c.in-Ok.code c.in-Err-key_data.e reads_key b c.in-Err-key_data.ensures.err

pub returns-in-Err-clause-err : goal.returns-in-Err-clause-err
returns-in-Err-clause-err g c = missed_byte true g.R.Read.buffers _ _ _ reads_key c.in-Err.ensures.err
