use Rattle.amqp_de.proofs.deserializer.Deserializer.deserialize_described_enum_as.Goals as goal

pub returns-in-Ok-clause-ok : goal.returns-in-Ok-clause-ok
returns-in-Ok-clause-ok g c = rw c.from_variant.ensures c.in-Ok.ensures.ok
