use Rattle.std.proofs.Common.{arith, get_or}
use Rattle.std.proofs.lemmas.Grind.{common_steps}
use Rattle.std.proofs.lemmas.List.{append-nil, length-map, map-append, map_push, nil_from_length}
use Rattle.amqp_write.specs.State.{size_in}
use Rattle.amqp_write.proofs.sizes.Sizes.open.Goals as goal

pub returns-then-is_empty : goal.returns-then-is_empty
returns-then-is_empty c =
    let z = c.args.self.now in
    (size_in (get_or z.few z.count (record { length = 0; count = 0 })), grind (arith, common_steps), grind (arith, common_steps, append-nil, map_push, nil_from_length z.more.items))

pub returns-then-len-capacity : goal.returns-then-len-capacity
returns-then-len-capacity c = (record { length = 0; count = 0 }, grind (arith, common_steps, length-map), grind (arith, common_steps, map-append))
