use Rattle.std.proofs.Common.{arith}
use Rattle.std.proofs.lemmas.Grind.{common_steps}
use Rattle.std.proofs.lemmas.List.{map-append, length-map}
use Rattle.amqp_write.proofs.sizes.Sizes.open_more.Goals as goal

pub returns-in-Ok : goal.returns-in-Ok
returns-in-Ok c = (record { length = 0; count = 0 }, grind (arith, common_steps, length-map), grind (arith, common_steps, map-append))
