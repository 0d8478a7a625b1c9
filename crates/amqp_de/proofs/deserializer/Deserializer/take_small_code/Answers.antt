-- The three bytes that were shown, and then passed, are 0x00 and a descriptor.
use Rattle.std.proofs.Common.{rules}
use Rattle.amqp_base.specs.Item.{code}
use Rattle.amqp_de.proofs.BehindDescriptor.{describes_front, small_ulong}
use Rattle.amqp_de.proofs.deserializer.Deserializer.take_small_code.Goals as goal

pub returns-else-not-pass_at_hand-clause-taken : goal.returns-else-not-pass_at_hand-clause-taken
returns-else-not-pass_at_hand-clause-taken g c =
    let passes = c.pass_at_hand.ensures.passed c.if-not-pass_at_hand.false in
    let taken = small_ulong c.in-Some.code _ (g.R.Read.reading c.pass_at_hand.new.self) c.bytes_at_hand.result.now c.bytes_at_hand.ensures.shown passes c.in-Some.ensures in
    rw (c.tick-in-Some.ensures, c.tick.ensures, c.if-self.false, ← c.self.view_is) (describes_front (code c.in-Some.code) _ (g.R.Read.reading c.pass_at_hand.new.self) c.if-self.false (search rules) taken)
