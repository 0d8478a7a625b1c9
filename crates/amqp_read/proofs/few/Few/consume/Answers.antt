use Rattle.std.proofs.Common.{◌-◌, drop, arith}
use Rattle.std.proofs.lemmas.List.{drop-take, drop-drop, length-drop, length-take}
use Rattle.std.proofs.lemmas.Grind.{common_steps}
use Rattle.amqp_read.proofs.few.Few.consume.Goals as goal

pub returns-else-self : goal.returns-else-self
returns-else-self c = grind (arith, common_steps, length-take, length-drop, drop-drop, drop-take c.args.n (c.self.inside.end - c.self.inside.start - c.args.n) (drop c.self.inside.start c.self.inside.bytes))
