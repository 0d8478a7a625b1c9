use Rattle.amqp_data.specs.Keys.{key_scalar}
use Rattle.amqp_de.specs.Identifies.{identifier_of}
use Rattle.amqp_de.proofs.Identified.{key_behind, exact_key, exact_no_key, missed_key, identifies_behind, exact_other, exact_no_other, missed_other, identified_unlooked, missed_unlooked}
use Rattle.amqp_de.proofs.deserializer.Deserializer.deserialize_identifier.Goals as goal

pub returns-in-Ok-read_key-clause-ok : goal.returns-in-Ok-read_key-clause-ok
returns-in-Ok-read_key-clause-ok g c = key_behind (identifier_of c.named_by.result) (key_scalar c.in-Ok-read_key.key) _ _ _ c.in-Ok.code c.named_by.ensures c.in-Ok.ensures.ok c.in-Ok-read_key.ensures.ok

pub returns-in-Ok-read_key-clause-exact : goal.returns-in-Ok-read_key-clause-exact
returns-in-Ok-read_key-clause-exact g c = λ a. exact_key c.named_by.result c.in-Ok-read_key.key g.R.Read.buffers _ _ _ c.in-Ok.code (c.is_key.ensures.yes c.if-is_key.true) c.named_by.ensures c.in-Ok.ensures.ok c.in-Ok-read_key.ensures.exact

pub returns-in-Err-read_key-clause-err : goal.returns-in-Err-read_key-clause-err
returns-in-Err-read_key-clause-err g c = missed_key g.R.Read.buffers _ _ _ c.in-Ok.code c.in-Err-read_key.e (c.is_key.ensures.yes c.if-is_key.true) c.in-Ok.ensures.ok c.in-Err-read_key.ensures.err

pub returns-in-Err-read_key-clause-exact : goal.returns-in-Err-read_key-clause-exact
returns-in-Err-read_key-clause-exact g c = λ a. exact_no_key g.R.Read.buffers _ _ _ c.in-Ok.code c.in-Err-read_key.e (c.is_key.ensures.yes c.if-is_key.true) c.in-Ok.ensures.ok c.in-Err-read_key.ensures.exact

pub returns-in-Ok-deserialize_ignored_any-clause-ok : goal.returns-in-Ok-deserialize_ignored_any-clause-ok
returns-in-Ok-deserialize_ignored_any-clause-ok g c = identifies_behind (identifier_of c.in-Ok-deserialize_ignored_any.identifier) _ _ _ c.in-Ok.code c.in-Ok.ensures.ok c.in-Ok-deserialize_ignored_any.ensures.ok

pub returns-in-Ok-deserialize_ignored_any-clause-exact : goal.returns-in-Ok-deserialize_ignored_any-clause-exact
returns-in-Ok-deserialize_ignored_any-clause-exact g c = λ a. exact_other c.in-Ok-deserialize_ignored_any.identifier g.R.Read.buffers _ _ _ c.in-Ok.code (c.is_key.ensures.no c.if-is_key.false) c.in-Ok.ensures.ok c.in-Ok-deserialize_ignored_any.ensures.exact

pub returns-in-Err-deserialize_ignored_any-clause-err : goal.returns-in-Err-deserialize_ignored_any-clause-err
returns-in-Err-deserialize_ignored_any-clause-err g c = missed_other g.R.Read.buffers _ _ _ c.in-Ok.code c.in-Err-deserialize_ignored_any.e c.in-Ok.ensures.ok c.in-Err-deserialize_ignored_any.ensures.err

pub returns-in-Err-deserialize_ignored_any-clause-exact : goal.returns-in-Err-deserialize_ignored_any-clause-exact
returns-in-Err-deserialize_ignored_any-clause-exact g c = λ a. exact_no_other g.R.Read.buffers _ _ _ c.in-Ok.code c.in-Err-deserialize_ignored_any.e (c.is_key.ensures.no c.if-is_key.false) c.in-Ok.ensures.ok c.in-Err-deserialize_ignored_any.ensures.exact

pub returns-in-Err-clause-err : goal.returns-in-Err-clause-err
returns-in-Err-clause-err g c = missed_unlooked g.R.Read.buffers _ _ c.in-Err.e c.in-Err.ensures.err

pub returns-in-Err-clause-exact : goal.returns-in-Err-clause-exact
returns-in-Err-clause-exact g c = λ a. identified_unlooked identifier_of g.R.Read.buffers _ _ c.in-Err.e a c.in-Err.ensures.err
