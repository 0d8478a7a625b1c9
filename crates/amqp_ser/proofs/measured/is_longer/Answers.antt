use Rattle.std.proofs.Common.{rules}
use Rattle.amqp_write.specs.State.{stand}
use Rattle.amqp_ser.proofs.Finish.{longer}
use Rattle.amqp_ser.proofs.measured.is_longer.Goals as goal

pub returns-in-Ok : goal.returns-in-Ok
unfolding stand
returns-in-Ok g c = λ more m size.
    let n = c.new-ser.ensures in
    let v = c.into_inner.result in
    longer _ (g.T.Typed.meaning.item c.args.value.now) c.serialize.new.ser.state v.items c.into_inner.ensures.state.0.direct c.args.length m.length _ n.setting n.mark n.answers (search rules) (search rules) c.in-Ok.ensures.ok (search rules) (search rules) size
