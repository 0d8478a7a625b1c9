use Rattle.amqp_types.specs.Descriptors.{descriptor_of}
use Rattle.amqp_de.proofs.DescribedEnumsRead.{described_read, described_refused, described_named, undescribed_refused, undescribed_named}
use Rattle.amqp_de.proofs.Naming.{named_dropped}
use Rattle.amqp_de.proofs.ReadParts.{missed_dropped}
use Rattle.amqp_de.proofs.deserializer.Deserializer.deserialize_described_enum.Goals as goal

pub returns-in-Ok-behind-clause-ok : goal.returns-in-Ok-behind-clause-ok
returns-in-Ok-behind-clause-ok g c = described_read (g.S.DescribedVariants.variants c.args.variants) (descriptor_of c.in-Ok.descriptor) _ _ _ c.in-Ok.ensures.ok _ c.in-Ok-behind.ensures.ok

pub returns-in-Ok-clause-err : goal.returns-in-Ok-clause-err
returns-in-Ok-clause-err g c =
    rw c.stop.ensures (missed_dropped (described_refused (g.S.DescribedVariants.variants c.args.variants) (descriptor_of c.in-Ok.descriptor) _ _ _ c.in-Ok.ensures.ok g.R.Read.buffers _ c.in-Err-behind.ensures.err))

pub returns-in-Ok-clause-named : goal.returns-in-Ok-clause-named
returns-in-Ok-clause-named g c =
    rw c.stop.ensures (named_dropped (described_named (g.S.DescribedVariants.variants c.args.variants) (descriptor_of c.in-Ok.descriptor) _ _ _ c.in-Ok.ensures.ok g.R.Read.buffers _ c.in-Err-behind.ensures.named))

pub returns-clause-err : goal.returns-clause-err
returns-clause-err g c = undescribed_refused (g.S.DescribedVariants.variants c.args.variants) g.R.Read.buffers _ _ _ c.in-Err.ensures.err

pub returns-clause-named : goal.returns-clause-named
returns-clause-named g c = undescribed_named (g.S.DescribedVariants.variants c.args.variants) g.R.Read.buffers _ _ _ c.in-Err.ensures.named
