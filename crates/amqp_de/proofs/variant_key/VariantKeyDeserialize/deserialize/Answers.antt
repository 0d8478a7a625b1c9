use Rattle.amqp_base.specs.Codes.{Kind}
use Rattle.amqp_de.proofs.KeysRead.{key_missed, key_named, other_named, unseen_missed}
use Rattle.amqp_de.proofs.variant_key.VariantKeyDeserialize.deserialize.Goals as goal

pub returns-in-Err-deserialize_u32-clause-err : goal.returns-in-Err-deserialize_u32-clause-err
returns-in-Err-deserialize_u32-clause-err g c = key_missed Kind.uint _ g.R.Read.buffers _ _ _ c.in-Ok.code _ c.in-Uint.ensures c.in-Ok.ensures.ok c.in-Err-deserialize_u32.ensures.err

pub returns-in-Err-deserialize_u32-clause-named : goal.returns-in-Err-deserialize_u32-clause-named
returns-in-Err-deserialize_u32-clause-named g c = key_named Kind.uint _ g.R.Read.buffers _ _ _ c.in-Ok.code _ c.in-Uint.ensures c.in-Ok.ensures.ok c.in-Err-deserialize_u32.ensures.named

pub returns-in-Err-deserialize_u64-clause-err : goal.returns-in-Err-deserialize_u64-clause-err
returns-in-Err-deserialize_u64-clause-err g c = key_missed Kind.ulong _ g.R.Read.buffers _ _ _ c.in-Ok.code _ c.in-Ulong.ensures c.in-Ok.ensures.ok c.in-Err-deserialize_u64.ensures.err

pub returns-in-Err-deserialize_u64-clause-named : goal.returns-in-Err-deserialize_u64-clause-named
returns-in-Err-deserialize_u64-clause-named g c = key_named Kind.ulong _ g.R.Read.buffers _ _ _ c.in-Ok.code _ c.in-Ulong.ensures c.in-Ok.ensures.ok c.in-Err-deserialize_u64.ensures.named

pub returns-in-Err-deserialize_string-clause-err : goal.returns-in-Err-deserialize_string-clause-err
returns-in-Err-deserialize_string-clause-err g c = key_missed Kind.string _ g.R.Read.buffers _ _ _ c.in-Ok.code _ c.in-String.ensures c.in-Ok.ensures.ok c.in-Err-deserialize_string.ensures.reads.err

pub returns-in-Err-deserialize_string-clause-named : goal.returns-in-Err-deserialize_string-clause-named
returns-in-Err-deserialize_string-clause-named g c = key_named Kind.string _ g.R.Read.buffers _ _ _ c.in-Ok.code _ c.in-String.ensures c.in-Ok.ensures.ok c.in-Err-deserialize_string.ensures.reads.named

pub returns-in-Err-deserialize_symbol-clause-err : goal.returns-in-Err-deserialize_symbol-clause-err
returns-in-Err-deserialize_symbol-clause-err g c = key_missed Kind.symbol _ g.R.Read.buffers _ _ _ c.in-Ok.code _ c.in-Symbol.ensures c.in-Ok.ensures.ok c.in-Err-deserialize_symbol.ensures.reads.err

pub returns-in-Err-deserialize_symbol-clause-named : goal.returns-in-Err-deserialize_symbol-clause-named
returns-in-Err-deserialize_symbol-clause-named g c = key_named Kind.symbol _ g.R.Read.buffers _ _ _ c.in-Ok.code _ c.in-Symbol.ensures c.in-Ok.ensures.ok c.in-Err-deserialize_symbol.ensures.reads.named

pub returns-in-Other-clause-named : goal.returns-in-Other-clause-named
returns-in-Other-clause-named g c = other_named g.R.Read.buffers _ _ c.in-Ok.code c.in-Other.ensures c.in-Ok.ensures.ok

pub returns-in-Err-clause-err : goal.returns-in-Err-clause-err
returns-in-Err-clause-err g c = unseen_missed g.R.Read.buffers _ _ _ c.in-Err.ensures.err
