use Rattle.amqp_de.proofs.deserializer.Deserializer.deserialize_described_fields.Goals as goal

pub returns-in-Some-clause-ok : goal.returns-in-Some-clause-ok
returns-in-Some-clause-ok g c = c.in-Ok.ensures.ok.values _ (c.take_values.ensures.some _ c.in-Some.is).holds
