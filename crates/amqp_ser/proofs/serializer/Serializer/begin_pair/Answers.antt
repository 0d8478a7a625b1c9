use Rattle.std.proofs.Common.{sym, ◌∙◌}
use Rattle.amqp_write.proofs.PartTexts.{true_false}
use Rattle.amqp_ser.proofs.serializer.Serializer.begin_pair.Goals as goal

pub returns-in-Err-begin_fields-clause-err : goal.returns-in-Err-begin_fields-clause-err
returns-in-Err-begin_fields-clause-err g c = record {
  law = λ xs. c.in-Err-begin_fields.ensures.err _ xs c.in-Ok.ensures.ok;
  stops = record {
    err = c.in-Err-begin_fields.ensures.kept.held c.in-Ok.ensures.held;
    ended = λ e. absurd (true_false (sym e ∙ c.in-Ok.ensures.ok.answered));
  };
}
