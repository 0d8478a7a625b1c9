-- At the four bytes of five.
use Rattle.std.proofs.Common.{arith}
use Rattle.amqp_base.specs.Item.{scalar, uint}
use Rattle.amqp_base.specs.Wire.{bare}
use Rattle.law_callers.proofs.cut.Goals as goal

pub returns : goal.returns
returns c = λ j k f g. c.cut_short.ensures.wire bare c.args._bytes.now (scalar (uint 5)) j 5 4 k f (omega arith) g
