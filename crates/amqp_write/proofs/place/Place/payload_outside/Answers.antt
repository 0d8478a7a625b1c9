-- Bytes behind one byte of length, or four.
use Rattle.amqp_write.specs.State.{stand}
use Rattle.amqp_write.proofs.TextOf.{payload_narrow, payload_wide}
use Rattle.amqp_write.proofs.place.Place.payload_outside.Goals as goal

pub returns-then-len-le-NARROW : goal.returns-then-len-le-NARROW
unfolding stand
returns-then-len-le-NARROW g c = record { law = record { bytes = _; is = payload_narrow c.args.narrow c.args.code c.args.bytes.now c.if-len-le-NARROW.true; appended = c.append_two.ensures } }

pub returns : goal.returns
unfolding stand
returns g c = record { law = record { bytes = _; is = payload_wide c.args.narrow c.args.code c.args.bytes.now c.if-len-le-NARROW.false c.requires.short; appended = rw (c.byte.ensures, c.to_be_bytes-size.ensures) at c.append_two-2.ensures } }
