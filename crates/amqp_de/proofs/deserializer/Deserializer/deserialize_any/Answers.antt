use Rattle.std.proofs.Common.{refl, rules, ◌≡◌, false}
use Rattle.amqp_types.specs.Descriptors.{descriptor_of}
use Rattle.amqp_de.proofs.Looking.{looks_ahead, looks_under, looks_pair}
use Rattle.amqp_de.proofs.deserializer.Deserializer.deserialize_any.Goals as goal

pub returns-then-self-2-clause-ok : goal.returns-then-self-2-clause-ok
returns-then-self-2-clause-ok g c =
    let a : c.args.self.now.ended ≡ false = search rules in
    looks_under c.args.self.now c.in-UnderPair.code a (rw (← c.self.view_is, c.in-UnderPair.is, c.if-self-2.true) refl)

pub returns-in-Ok-clause-ok : goal.returns-in-Ok-clause-ok
returns-in-Ok-clause-ok g c =
    let a : c.args.self.now.ended ≡ false = search rules in
    rw (← c.self.view_is) (looks_ahead _ _ c.in-Ok.code (rw (← c.self.view_is) at a) (rw c.in-Bare.is refl) c.in-Ok.ensures.ok)

pub returns-in-Under-clause-ok : goal.returns-in-Under-clause-ok
returns-in-Under-clause-ok g c =
    let a : c.args.self.now.ended ≡ false = search rules in
    looks_under c.args.self.now c.in-Under.code a (rw (← c.self.view_is, c.in-Under.is) refl)

pub returns-else-self-2-clause-ok : goal.returns-else-self-2-clause-ok
returns-else-self-2-clause-ok g c =
    let a : c.args.self.now.ended ≡ false = search rules in
    looks_pair c.args.self.now (descriptor_of c.in-UnderPair.field-0) c.in-UnderPair.code a (rw (← c.self.view_is, c.in-UnderPair.is, c.if-self-2.false) refl)
