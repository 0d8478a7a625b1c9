use Rattle.std.proofs.Common.{refl, drop}
use Rattle.amqp_write.specs.State.{stand}
use Rattle.amqp_ser.specs.Passes.{listed}
use Rattle.amqp_ser.proofs.Finish.{written_ok, vec_err}
use Rattle.amqp_ser.proofs.measured.write_measured.Goals as goal

pub returns-clause-ok : goal.returns-clause-ok
unfolding stand
returns-clause-ok g c =
    let p = c.ser-2.inside.writer in
    let n = rw (← c.ser.view_is) at c.new-ser.ensures in
    written_ok _ (g.T.Typed.meaning.item c.args.value.now) _ c.ser-2.inside.place.direct (record { bytes = p.out.bytes.items; sizes = drop p.next (listed p.sizes) }) (listed c.args.measure.sizes) n.setting n.mark n.answers (rw (n.writer, c.in-Ok.ensures.empty) refl) refl (rw (← c.ser-2.view_is) at c.in-Ok-serialize.ensures.ok)

pub returns-in-Err-serialize-clause-err : goal.returns-in-Err-serialize-clause-err
unfolding stand
returns-in-Err-serialize-clause-err g c = λ measured.
    let n = rw (← c.ser.view_is) at c.new-ser.ensures in
    vec_err _ (g.T.Typed.meaning.item c.args.value.now) _ _ (listed c.args.measure.sizes) _ n.setting n.mark (rw (n.writer, c.in-Ok.ensures.empty) refl) measured.listed measured.text n.answers refl (rw (← c.ser-2.view_is) at c.in-Err-serialize.ensures.err)
