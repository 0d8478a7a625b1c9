use Rattle.std.proofs.Common.{◌||◌}
use Rattle.amqp_de.proofs.OneElement.{array_found, one_found, array_missed, one_missed, no_room, unseen, unseen_as, array_as, one_as}
use Rattle.amqp_de.proofs.array.ArrayDeserialize.deserialize.Goals as goal

pub returns-in-Ok-deserialize-clause-ok : goal.returns-in-Ok-deserialize-clause-ok
returns-in-Ok-deserialize-clause-ok g c = array_found g.T.Typed.meaning.takes g.T.Typed.meaning.means c.in-Ok-deserialize.items.items _ _ _ c.in-Ok.code (c.is_array.ensures.yes c.if-is_array.true) c.in-Ok.ensures.ok c.in-Ok-deserialize.ensures.ok

pub returns-in-Err-deserialize-clause-err : goal.returns-in-Err-deserialize-clause-err
returns-in-Err-deserialize-clause-err g c = array_missed g.T.Typed.meaning.takes g.R.Read.buffers _ _ _ c.in-Ok.code _ (c.is_array.ensures.yes c.if-is_array.true) c.in-Ok.ensures.ok c.in-Err-deserialize.ensures.err

pub returns-in-Ok-one-clause-ok : goal.returns-in-Ok-one-clause-ok
returns-in-Ok-one-clause-ok g c = one_found g.T.Typed.meaning.takes g.T.Typed.meaning.means c.in-Ok-deserialize-2.value c.in-Ok-one.items.items _ _ _ c.in-Ok.code (c.is_array.ensures.no c.if-is_array.false) c.in-Ok-one.ensures.ok c.in-Ok.ensures.ok c.in-Ok-deserialize-2.ensures.ok

-- no memory was there for the one element
pub returns-in-Err-one-clause-err : goal.returns-in-Err-one-clause-err
returns-in-Err-one-clause-err g c = no_room g.T.Typed.meaning.takes (λ i. g.T.Typed.meaning.means i c.in-Ok-deserialize-2.value) g.R.Read.buffers _ _ _ c.in-Ok.code _ c.in-Err-one.ensures.err c.in-Ok.ensures.ok c.in-Ok-deserialize-2.ensures.ok

pub returns-in-Err-deserialize-2-clause-err : goal.returns-in-Err-deserialize-2-clause-err
returns-in-Err-deserialize-2-clause-err g c = one_missed g.T.Typed.meaning.takes (g.T.Typed.meaning.grows || g.R.Read.buffers) g.R.Read.buffers _ _ _ c.in-Ok.code _ (c.is_array.ensures.no c.if-is_array.false) c.in-Ok.ensures.ok c.in-Err-deserialize-2.ensures.err

pub returns-in-Err-clause-err : goal.returns-in-Err-clause-err
returns-in-Err-clause-err g c = unseen g.T.Typed.meaning.takes g.R.Read.buffers _ _ _ c.in-Err.ensures.err

-- refusals by name
pub returns-in-Err-deserialize-clause-named : goal.returns-in-Err-deserialize-clause-named
returns-in-Err-deserialize-clause-named g c = array_as g.T.Typed.meaning.takes g.T.Typed.meaning.refuses g.R.Read.buffers _ _ _ c.in-Ok.code _ (c.is_array.ensures.yes c.if-is_array.true) c.in-Ok.ensures.ok c.in-Err-deserialize.ensures.named

pub returns-in-Err-deserialize-2-clause-named : goal.returns-in-Err-deserialize-2-clause-named
returns-in-Err-deserialize-2-clause-named g c = one_as g.T.Typed.meaning.takes g.T.Typed.meaning.refuses g.R.Read.buffers _ _ _ c.in-Ok.code _ (c.is_array.ensures.no c.if-is_array.false) c.in-Ok.ensures.ok c.in-Err-deserialize-2.ensures.named

pub returns-in-Err-clause-named : goal.returns-in-Err-clause-named
returns-in-Err-clause-named g c = unseen_as g.T.Typed.meaning.takes g.T.Typed.meaning.refuses g.R.Read.buffers _ _ _ c.in-Err.ensures.err
