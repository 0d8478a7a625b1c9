use Rattle.std.proofs.Common.{arith, ◌++◌, map, take}
use Rattle.std.proofs.lemmas.Grind.{common_steps}
use Rattle.std.proofs.lemmas.List.{get_or-map, get_or-append_right, drop_more, length-map}
use Rattle.amqp_write.specs.State.{size_in}
use Rattle.amqp_write.proofs.sizes.Sizes.get.Goals as goal

pub returns-then-at-len-clause-first : goal.returns-then-at-len-clause-first
returns-then-at-len-clause-first c =
    let xs = take c.args.self.now.count c.args.self.now.few ++ c.args.self.now.more.items in
    let z = c.index.result.now in
    grind (arith, common_steps, get_or-append_right, length-map, drop_more (map size_in xs) c.args.at (size_in z), get_or-map size_in xs c.args.at z (size_in z))
