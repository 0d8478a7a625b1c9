use Rattle.std.proofs.Common.{refl}
use Rattle.amqp_types.specs.Descriptors.{descriptor_of}
use Rattle.amqp_de.proofs.Begun.{begins_under, begins_pair, front_ok}
use Rattle.amqp_de.proofs.deserializer.Deserializer.begin.Goals as goal

pub returns-in-Bare-clause-ok : goal.returns-in-Bare-clause-ok
returns-in-Bare-clause-ok g c = rw (c.tick.ensures, ← c.self.view_is) (front_ok _ _ c.byte.result (rw c.in-Bare.is refl) c.byte.ensures.ok)

pub returns-in-Under-clause-ok : goal.returns-in-Under-clause-ok
returns-in-Under-clause-ok g c = rw (c.tick.ensures, ← c.self.view_is, c.byte-in-Under.ensures) (begins_under _ c.in-Under.code (rw c.in-Under.is refl))

pub returns-then-described-clause-ok : goal.returns-then-described-clause-ok
returns-then-described-clause-ok g c = rw (c.tick.ensures, ← c.self.view_is, c.byte-then-described.ensures) (begins_under _ c.in-UnderPair.code (rw (c.in-UnderPair.is, c.if-described.true) refl))

pub returns-else-described-clause-ok : goal.returns-else-described-clause-ok
returns-else-described-clause-ok g c = rw (c.tick.ensures, ← c.self.view_is) (begins_pair _ (descriptor_of c.in-UnderPair.field-0) c.in-UnderPair.code (rw (c.in-UnderPair.is, c.if-described.false) refl))
