use Rattle.std.proofs.Common.{sym, ◌∙◌}
use Rattle.amqp_de.proofs.VariantsTold.{code_here, code_not, code_unlooked, zero_untold}
use Rattle.amqp_de.proofs.deserializer.Deserializer.open_descriptor_code.Goals as goal

pub returns-then-not-is_descriptor-clause-err : goal.returns-then-not-is_descriptor-clause-err
returns-then-not-is_descriptor-clause-err g c = rw c.stop.ensures (code_not g.R.Read.buffers c.in-Ok-deserialize_any.code _ _ _ _ _ c.in-Ok.ensures.ok c.in-Ok-deserialize_any.ensures.ok (sym c.is_descriptor.ensures ∙ c.if-not-is_descriptor.true) c.custom.ensures)

pub returns-else-not-is_descriptor-clause-ok : goal.returns-else-not-is_descriptor-clause-ok
returns-else-not-is_descriptor-clause-ok g c =
    rw (c.itself.ensures.identifier, c.itself.ensures.payload) (code_here c.in-Ok-deserialize_any.code _ _ _ c.in-Ok.ensures.ok c.in-Ok-deserialize_any.ensures.ok (sym c.is_descriptor.ensures ∙ c.if-not-is_descriptor.false))

pub returns-in-Err-deserialize_any-clause-err : goal.returns-in-Err-deserialize_any-clause-err
returns-in-Err-deserialize_any-clause-err g c = code_unlooked g.R.Read.buffers _ _ _ c.in-Err-deserialize_any.e c.in-Ok.ensures.ok c.in-Err-deserialize_any.ensures.stops.err c.in-Err-deserialize_any.ensures.err

pub returns-in-Err-clause-err : goal.returns-in-Err-clause-err
returns-in-Err-clause-err g c = zero_untold g.R.Read.buffers _ _ c.in-Err.e c.in-Err.ensures.err
