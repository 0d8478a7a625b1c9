use Rattle.std.proofs.Common.{◌||◌}
use Rattle.amqp_de.proofs.NullApart.{value_found, value_missed, null_missed, unseen_missed, value_named, null_named, unseen_named}
use Rattle.amqp_de.proofs.not_null.NotNullDeserialize.deserialize.Goals as goal

-- null
pub returns-in-Null-clause-err : goal.returns-in-Null-clause-err
returns-in-Null-clause-err g c = null_missed g.T.Typed.meaning.takes (g.T.Typed.meaning.grows || g.R.Read.buffers) g.R.Read.buffers _ _ c.in-Ok.code c.in-Null.is c.in-Ok.ensures.ok

pub returns-in-Null-clause-named : goal.returns-in-Null-clause-named
returns-in-Null-clause-named g c = null_named g.T.Typed.meaning.refuses (g.T.Typed.meaning.grows || g.R.Read.buffers) g.R.Read.buffers _ _ c.in-Ok.code c.in-Null.is c.in-Ok.ensures.ok

-- another item
pub returns-in-Ok-deserialize-clause-ok : goal.returns-in-Ok-deserialize-clause-ok
returns-in-Ok-deserialize-clause-ok g c = value_found g.T.Typed.meaning.takes _ _ _ _ c.in-Ok.code c.in_default.not-Null c.in-Ok.ensures.ok c.in-Ok-deserialize.ensures.ok

pub returns-in-Err-deserialize-clause-err : goal.returns-in-Err-deserialize-clause-err
returns-in-Err-deserialize-clause-err g c = value_missed g.T.Typed.meaning.takes _ g.R.Read.buffers _ _ _ c.in-Ok.code _ c.in-Ok.ensures.ok c.in-Err-deserialize.ensures.err

pub returns-in-Err-deserialize-clause-named : goal.returns-in-Err-deserialize-clause-named
returns-in-Err-deserialize-clause-named g c = value_named g.T.Typed.meaning.refuses _ g.R.Read.buffers _ _ _ c.in-Ok.code _ c.in-Ok.ensures.ok c.in-Err-deserialize.ensures.named

-- no code
pub returns-in-Err-clause-err : goal.returns-in-Err-clause-err
returns-in-Err-clause-err g c = unseen_missed g.T.Typed.meaning.takes g.T.Typed.meaning.grows g.R.Read.buffers _ _ _ c.in-Err.ensures.err

pub returns-in-Err-clause-named : goal.returns-in-Err-clause-named
returns-in-Err-clause-named g c = unseen_named g.T.Typed.meaning.refuses g.T.Typed.meaning.grows g.R.Read.buffers _ _ _ c.in-Err.ensures.err
