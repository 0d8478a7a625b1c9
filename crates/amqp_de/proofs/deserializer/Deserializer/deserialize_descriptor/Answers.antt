use Rattle.std.proofs.Common.{refl}
use Rattle.amqp_types.specs.Descriptors.{descriptor_of}
use Rattle.amqp_de.proofs.BehindDescriptor.{describes_front, describes_shared, none_at_front, none_under}
use Rattle.amqp_de.proofs.deserializer.Deserializer.deserialize_descriptor.Goals as goal

pub returns-then-self-2-clause-err : goal.returns-then-self-2-clause-err
returns-then-self-2-clause-err g c = rw (← c.self.view_is) (none_under g.R.Read.buffers c.in-UnderPair.field-1 _ _ (rw (c.in-UnderPair.is, c.if-self-2.true) refl) refl c.tick.ensures)

pub returns-in-Ok-clause-ok : goal.returns-in-Ok-clause-ok
returns-in-Ok-clause-ok g c = rw (c.tick-in-Ok.ensures, c.tick.ensures, ← c.self.view_is) (describes_front (descriptor_of c.in-Ok.descriptor) _ _ c.if-self.false (rw c.in-Bare.is refl) c.in-Ok.ensures.ok)

pub returns-in-Err-clause-err : goal.returns-in-Err-clause-err
returns-in-Err-clause-err g c = rw (← c.self.view_is) (none_at_front g.R.Read.buffers _ _ c.in-Err.e (rw c.in-Bare.is refl) c.tick.ensures c.in-Err.ensures.err)

pub returns-in-Under-clause-err : goal.returns-in-Under-clause-err
returns-in-Under-clause-err g c = rw (← c.self.view_is) (none_under g.R.Read.buffers c.in-Under.field-0 _ _ (rw c.in-Under.is refl) refl c.tick.ensures)

pub returns-in-Ok-clone-clause-ok : goal.returns-in-Ok-clone-clause-ok
returns-in-Ok-clone-clause-ok g c =
    rw (c.tick.ensures, c.in-Ok-clone.ensures.ok, ← c.self.view_is) (describes_shared (descriptor_of c.in-UnderPair.inherited) c.in-UnderPair.field-1 _ c.if-self.false (rw c.in-UnderPair.is refl) c.if-self-2.false)
