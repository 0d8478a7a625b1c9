use Rattle.std.proofs.Common.{false}
use Rattle.amqp_data.proofs.Sized.{text_took, text_not_taken}
use Rattle.amqp_data.proofs.Readings.{stays_same}
use Rattle.amqp_data.proofs.lent.text.Goals as goal

pub returns-in-Ok-get_text_slice-clause-ok : goal.returns-in-Ok-get_text_slice-clause-ok
returns-in-Ok-get_text_slice-clause-ok c = text_took c.args.width c.in-Ok.len _ _ _ c.in-Ok-get_text_slice.text.now c.in-Ok.ensures.ok c.in-Ok-get_text_slice.ensures.ok c.in-Ok-get_text_slice.ensures.utf8

pub returns-in-Err-get_text_slice-clause-err : goal.returns-in-Err-get_text_slice-clause-err
returns-in-Err-get_text_slice-clause-err c =
    let kept = c.in-Err-get_text_slice.ensures.err in
    text_not_taken false c.args.width c.in-Ok.len _ _ _ c.in-Err-get_text_slice.e c.in-Ok.ensures.ok (rw kept (stays_same c.number.new.reader)) c.in-Err-get_text_slice.ensures.why
