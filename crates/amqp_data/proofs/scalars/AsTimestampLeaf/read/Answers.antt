use Rattle.std.proofs.Common.{refl, rules, w64}
use mir.Val.{SFits}
use Rattle.amqp_base.specs.Codes.{row}
use Rattle.amqp_base.specs.Item.{timestamp}
use Rattle.amqp_base.specs.Value.{payload, read}
use Rattle.amqp_data.proofs.ByteNumbers.{be_signed}
use Rattle.amqp_data.proofs.scalars.AsTimestampLeaf.read.Goals as goal

pub returns-in-Ok-clause-ok : goal.returns-in-Ok-clause-ok
unfolding row payload read
returns-in-Ok-clause-ok g c =
    let o = c.in-Ok.ensures.ok in
    let z = c.from_be_bytes.result in
    let f : SFits w64 z = search rules in
    o.is (timestamp c.from_milliseconds.result) (rw (c.from_milliseconds.ensures, be_signed w64 c.in-Ok.bytes z o.len c.from_be_bytes.ensures f) refl)
