use Rattle.std.proofs.Common.{refl, w32}
use Rattle.amqp_base.specs.Codes.{row}
use Rattle.amqp_base.specs.Item.{float}
use Rattle.amqp_base.specs.Value.{payload, read}
use Rattle.amqp_data.proofs.ByteNumbers.{be_number}
use Rattle.amqp_data.proofs.floats.AsFloatLeaf.read.Goals as goal

pub returns-in-Ok-clause-ok : goal.returns-in-Ok-clause-ok
unfolding row payload read
returns-in-Ok-clause-ok g c =
    let o = c.in-Ok.ensures.ok in
    o.is (float c.from_bits.result) (rw (c.from_bits.ensures, c.from_be_bytes.ensures, be_number w32 c.in-Ok.bytes o.len) refl)
