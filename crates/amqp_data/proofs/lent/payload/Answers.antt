use Rattle.amqp_data.proofs.Sized.{payload_ok}
use Rattle.amqp_data.proofs.LentData.{lent_err}
use Rattle.amqp_data.proofs.lent.payload.Goals as goal

pub returns-in-Ok-clause-ok : goal.returns-in-Ok-clause-ok
returns-in-Ok-clause-ok c = payload_ok (λ b. b.now) c.args.width c.in-Ok.len _ _ _ c.get_byte_slice.result c.in-Ok.ensures.ok c.get_byte_slice.ensures.ok

pub returns-in-Ok-clause-err : goal.returns-in-Ok-clause-err
returns-in-Ok-clause-err c = lent_err c.args.width c.in-Ok.len _ _ _ c.get_byte_slice.result c.in-Ok.ensures.ok c.get_byte_slice.ensures.err
