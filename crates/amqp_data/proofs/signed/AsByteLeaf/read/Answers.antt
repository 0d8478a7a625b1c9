use Rattle.std.proofs.Common.{refl, rules, to_z, of_z, w8}
use mir.Val.{SFits}
use Rattle.amqp_base.specs.Codes.{row}
use Rattle.amqp_base.specs.Item.{byte}
use Rattle.amqp_base.specs.Value.{payload, read}
use Rattle.amqp_data.proofs.ByteNumbers.{be_signed}
use Rattle.amqp_data.proofs.signed.AsByteLeaf.read.Goals as goal

pub returns-in-Ok-clause-ok : goal.returns-in-Ok-clause-ok
unfolding row payload read
returns-in-Ok-clause-ok g c =
    let o = c.in-Ok.ensures.ok in
    let f : SFits w8 c.from_be_bytes.result = search rules in
    o.is (byte (to_z w8 (of_z w8 c.from_be_bytes.result))) (rw (be_signed w8 c.in-Ok.bytes c.from_be_bytes.result o.len c.from_be_bytes.ensures f) refl)
