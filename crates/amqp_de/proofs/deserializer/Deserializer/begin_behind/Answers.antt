use Rattle.std.proofs.Common.{refl}
use Rattle.amqp_base.specs.Item.{code}
use Rattle.amqp_types.specs.Descriptors.{descriptor_of}
use Rattle.amqp_de.proofs.WantedDescriptor.{no_descriptor, none_behind}
use Rattle.amqp_de.proofs.deserializer.Deserializer.begin_behind.Goals as goal

pub returns-in-Some-clause-err : goal.returns-in-Some-clause-err
returns-in-Some-clause-err g c = none_behind (g.D.DescriptorSet.among c.args.wanted.now) g.R.Read.buffers _ c.go_behind.result (code c.in-Some.code) _ _ _ c.in-Some.ensures.taken c.go_behind.ensures.err

pub returns-in-Ok-clause-err : goal.returns-in-Ok-clause-err
returns-in-Ok-clause-err g c = rw (← c.in-None.ensures.else_kept refl) (none_behind (g.D.DescriptorSet.among c.args.wanted.now) g.R.Read.buffers _ c.go_behind-in-Ok.result (descriptor_of c.in-Ok.found) _ _ _ c.in-Ok.ensures.ok c.go_behind-in-Ok.ensures.err)

pub returns-in-Err-clause-err : goal.returns-in-Err-clause-err
returns-in-Err-clause-err g c = rw (← c.in-None.ensures.else_kept refl) (no_descriptor (g.D.DescriptorSet.among c.args.wanted.now) g.R.Read.buffers _ _ _ c.in-Err.ensures.err)
