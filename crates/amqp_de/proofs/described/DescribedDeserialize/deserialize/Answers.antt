use Rattle.amqp_types.specs.Descriptors.{descriptor_of}
use Rattle.amqp_de.proofs.DescribedRead.{described_found, described_missed, undescribed, described_named, undescribed_named}
use Rattle.amqp_de.proofs.described.DescribedDeserialize.deserialize.Goals as goal

pub returns-in-Ok-deserialize-clause-ok : goal.returns-in-Ok-deserialize-clause-ok
returns-in-Ok-deserialize-clause-ok g c = described_found _ _ (descriptor_of c.in-Ok.descriptor) _ _ _ c.in-Ok.ensures.ok c.in-Ok-deserialize.ensures.ok

pub returns-in-Err-deserialize-clause-err : goal.returns-in-Err-deserialize-clause-err
returns-in-Err-deserialize-clause-err g c = described_missed _ _ g.R.Read.buffers (descriptor_of c.in-Ok.descriptor) _ _ _ _ c.in-Ok.ensures.ok c.in-Err-deserialize.ensures.err

pub returns-in-Err-deserialize-clause-named : goal.returns-in-Err-deserialize-clause-named
returns-in-Err-deserialize-clause-named g c = described_named _ _ g.R.Read.buffers (descriptor_of c.in-Ok.descriptor) _ _ _ _ c.in-Ok.ensures.ok c.in-Err-deserialize.ensures.named

pub returns-in-Err-clause-err : goal.returns-in-Err-clause-err
returns-in-Err-clause-err g c = undescribed _ g.R.Read.buffers _ _ _ c.in-Err.ensures.err

pub returns-in-Err-clause-named : goal.returns-in-Err-clause-named
returns-in-Err-clause-named g c = undescribed_named _ g.R.Read.buffers _ _ _ c.in-Err.ensures.err
