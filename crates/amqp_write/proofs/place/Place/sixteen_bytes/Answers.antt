use Rattle.std.proofs.Common.{ap₂, ◌∷◌, arith}
use Rattle.amqp_write.proofs.FixedTexts.{sixteen_listed}
use Rattle.amqp_write.proofs.place.Place.sixteen_bytes.Goals as goal

pub fixed-requires-clause-whole : goal.fixed-requires-clause-whole
fixed-requires-clause-whole g c = ap₂ ◌∷◌ c.byte.ensures (sixteen_listed c.args.bytes (omega arith))
