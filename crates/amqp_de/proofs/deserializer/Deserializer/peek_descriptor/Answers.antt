use Rattle.amqp_types.specs.Descriptors.{descriptor_of}
use Rattle.amqp_de.proofs.DescribedEnumsRead.{unseen_missed, unseen_named, other_missed, other_named, unlooked_missed, unlooked_named}
use Rattle.amqp_de.proofs.Identified.{shows_described}
use Rattle.amqp_de.proofs.deserializer.Deserializer.peek_descriptor.Goals as goal

pub returns-in-Ok-look_descriptor-clause-ok : goal.returns-in-Ok-look_descriptor-clause-ok
returns-in-Ok-look_descriptor-clause-ok g c = shows_described (descriptor_of c.in-Ok-look_descriptor.descriptor) _ _ _ (rw c.in-DescribedType.is at c.in-Ok.ensures.ok) c.in-Ok-look_descriptor.ensures.ok

pub returns-in-Err-look_descriptor-clause-err : goal.returns-in-Err-look_descriptor-clause-err
returns-in-Err-look_descriptor-clause-err g c = unseen_missed g.R.Read.buffers _ _ _ c.in-Err-look_descriptor.e (rw c.in-DescribedType.is at c.in-Ok.ensures.ok) c.in-Err-look_descriptor.ensures.err

pub returns-in-Err-look_descriptor-clause-named : goal.returns-in-Err-look_descriptor-clause-named
returns-in-Err-look_descriptor-clause-named g c = unseen_named g.R.Read.buffers _ _ _ c.in-Err-look_descriptor.e (rw c.in-DescribedType.is at c.in-Ok.ensures.ok) c.in-Err-look_descriptor.ensures.err

pub returns-in_default-clause-err : goal.returns-in_default-clause-err
returns-in_default-clause-err g c = rw c.stop.ensures (other_missed g.R.Read.buffers _ _ c.in-Ok.code c.in_default.not-DescribedType c.in-Ok.ensures.ok)

pub returns-in_default-clause-named : goal.returns-in_default-clause-named
returns-in_default-clause-named g c = rw c.stop.ensures (other_named g.R.Read.buffers _ _ c.in-Ok.code c.in_default.not-DescribedType c.in-Ok.ensures.ok)

pub returns-in-Err-clause-err : goal.returns-in-Err-clause-err
returns-in-Err-clause-err g c = unlooked_missed g.R.Read.buffers _ _ c.in-Err.e c.in-Err.ensures.err

pub returns-in-Err-clause-named : goal.returns-in-Err-clause-named
returns-in-Err-clause-named g c = unlooked_named g.R.Read.buffers _ _ c.in-Err.e c.in-Err.ensures.err
