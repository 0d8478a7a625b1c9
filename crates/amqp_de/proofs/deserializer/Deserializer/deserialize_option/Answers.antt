use Rattle.std.proofs.Common.{rules, ◌||◌}
use Rattle.amqp_de.proofs.Naming.{option_unseen, option_null, option_value}
use Rattle.amqp_de.proofs.Nulls.{some_found, none_missed, some_missed, unseen_missed}
use Rattle.amqp_de.proofs.deserializer.Deserializer.deserialize_option.Goals as goal

pub returns-in-Err-deserialize_unit-clause-err : goal.returns-in-Err-deserialize_unit-clause-err
returns-in-Err-deserialize_unit-clause-err g c = none_missed g.T.Typed.meaning.takes g.T.Typed.meaning.grows g.R.Read.buffers _ _ _ c.in-Ok.code _ c.in-Null.is c.in-Ok.ensures.ok c.in-Err-deserialize_unit.ensures.err

pub returns-in-Ok-deserialize_newtype_struct : goal.returns-in-Ok-deserialize_newtype_struct
returns-in-Ok-deserialize_newtype_struct g c =
    let f = some_found g.T.Typed.meaning.takes g.T.Typed.meaning.means c.in-Ok-deserialize_newtype_struct.value _ _ _ c.in-Ok.code c.in_default.not-Null c.in-Ok.ensures.ok c.in-Ok-deserialize_newtype_struct.ensures.ok in
    record { ok = f; err = tt; named = tt; stops = search rules }

pub returns-in-Err-deserialize_newtype_struct : goal.returns-in-Err-deserialize_newtype_struct
returns-in-Err-deserialize_newtype_struct g c =
    let m = some_missed g.T.Typed.meaning.takes (g.T.Typed.meaning.grows || g.R.Read.buffers) g.R.Read.buffers _ _ _ c.in-Ok.code _ c.in_default.not-Null c.in-Ok.ensures.ok c.in-Err-deserialize_newtype_struct.ensures.err in
    let n = option_value g.T.Typed.meaning.refuses (g.T.Typed.meaning.grows || g.R.Read.buffers) g.R.Read.buffers _ _ _ c.in-Ok.code _ c.in-Ok.ensures.ok c.in-Err-deserialize_newtype_struct.ensures.named in
    record { ok = tt; err = m; named = n; stops = search rules }

pub returns-in-Err-clause-err : goal.returns-in-Err-clause-err
returns-in-Err-clause-err g c = unseen_missed g.T.Typed.meaning.takes g.T.Typed.meaning.grows g.R.Read.buffers _ _ _ c.in-Err.ensures.err

-- refusals by name
pub returns-in-Err-deserialize_unit-clause-named : goal.returns-in-Err-deserialize_unit-clause-named
returns-in-Err-deserialize_unit-clause-named g c = option_null g.T.Typed.meaning.refuses g.T.Typed.meaning.grows g.R.Read.buffers _ _ _ c.in-Ok.code _ c.in-Null.is c.in-Ok.ensures.ok c.in-Err-deserialize_unit.ensures.named

pub returns-in-Err-clause-named : goal.returns-in-Err-clause-named
returns-in-Err-clause-named g c = option_unseen g.T.Typed.meaning.refuses g.T.Typed.meaning.grows g.R.Read.buffers _ _ _ c.in-Err.ensures.err
