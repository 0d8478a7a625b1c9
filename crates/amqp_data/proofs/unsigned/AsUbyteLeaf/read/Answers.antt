use Rattle.std.proofs.Common.{refl, w8}
use Rattle.amqp_base.specs.Codes.{row}
use Rattle.amqp_base.specs.Item.{ubyte}
use Rattle.amqp_base.specs.Value.{payload, read}
use Rattle.amqp_data.proofs.ByteNumbers.{be_number}
use Rattle.amqp_data.proofs.unsigned.AsUbyteLeaf.read.Goals as goal

pub returns-in-Ok-clause-ok : goal.returns-in-Ok-clause-ok
unfolding row payload read
returns-in-Ok-clause-ok g c =
    let o = c.in-Ok.ensures.ok in
    o.is (ubyte c.from_be_bytes.result) (rw (c.from_be_bytes.ensures, be_number w8 c.in-Ok.bytes o.len) refl)
