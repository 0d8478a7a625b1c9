use Rattle.std.proofs.Common.{refl, []}
use Rattle.amqp_ser.proofs.serializer.Serializer.begin_value.Goals as goal

pub returns-in-Err-clause-err : goal.returns-in-Err-clause-err
returns-in-Err-clause-err g c = rw c.set_ended.ensures (λ xs. (c.begin.new.self.state, (rw c.stand_outside.ensures at c.in-Err.ensures.err.law) xs, refl))

pub returns-in-Err-clause-kept : goal.returns-in-Err-clause-kept
returns-in-Err-clause-kept g c = let k = ((rw c.stand_outside.ensures at c.in-Err.ensures.err.law) []).kept in rw c.set_ended.ensures (record { bytes = k.bytes; faults = k.faults; grows = k.grows })
