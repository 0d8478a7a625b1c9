use Rattle.std.proofs.Common.{refl}
use Rattle.amqp_write.specs.State.{stand}
use Rattle.amqp_ser.specs.Passes.{listed}
use Rattle.amqp_ser.proofs.Finish.{measured_ok, measure_err}
use Rattle.amqp_ser.proofs.measured.measure.Goals as goal

pub returns-clause-ok : goal.returns-clause-ok
unfolding stand
returns-clause-ok g c =
    let m = c.ser-2.inside.writer in
    let n = rw (← c.ser.view_is) at c.new-ser.ensures in
    measured_ok _ (g.T.Typed.meaning.item c.args.value.now) _ c.ser-2.inside.place.direct (record { length = m.length; sizes = listed m.sizes }) _ n.setting n.mark n.answers (rw (n.writer, c.new.ensures) refl) refl c.min.ensures (rw (← c.ser-2.view_is) at c.in-Ok.ensures.ok)

pub returns-in-Err-clause-err : goal.returns-in-Err-clause-err
unfolding stand
returns-in-Err-clause-err g c =
    let n = rw (← c.ser.view_is) at c.new-ser.ensures in
    measure_err _ (g.T.Typed.meaning.item c.args.value.now) _ _ n.setting n.mark refl n.answers refl (rw (← c.ser-2.view_is) at c.in-Err.ensures.err)
