use Rattle.std.proofs.Common.{sym, ◌∙◌}
use Rattle.amqp_ser.proofs.Stages.{starts_plain}
use Rattle.amqp_ser.proofs.serializer.Serializer.start_struct.Goals as goal

pub returns-in-None-clause-err : goal.returns-in-None-clause-err
returns-in-None-clause-err g c = starts_plain _ _ _ _ _ (sym c.encoding_of.ensures ∙ c.in-None.is) (rw c.setting-setting.ensures at c.start_plain.ensures.err)
