use Rattle.std.proofs.Common.{ap}
use Rattle.amqp_ser.specs.State.{State}
use Rattle.amqp_write.specs.State.{stand}
use Rattle.serde_amqp.proofs.IntoSink.{Begins, LeftIn, puts, fails, stays}
use Rattle.serde_amqp.proofs.streams.write_one.Goals as goal

pub returns : goal.returns
unfolding stand
returns g c =
    let w = g.W.Write in
    let x = g.W.FaultCount in
    let before : State = c.new-ser.result.state in
    let after : State = c.serialize-result.new.ser.state in
    let left = c.into_inner.result in
    let f = g.T.Typed.meaning.item c.args.value.now in
    let r = c.serialize-result in
    let n = c.new-ser.ensures in
    let begins : Begins before (w.contents c.args.sink) (x.faults c.args.sink) = record { contents = n.contents; faults = n.faults; setting = n.setting; mark = n.mark; plan = n.plan; answers = n.answers } in
    let told = c.into_inner.ensures.state in
    let leaves : LeftIn after (w.contents left) (x.last_fault left) (x.faults left) = record { passes = told.0.direct; contents = ap (λ (s : State). s.contents) told.1; last_fault = ap (λ (s : State). s.last_fault) told.1; faults = ap (λ (s : State). s.faults) told.1 } in
    record {
      ok = puts before f after r.result (w.contents c.args.sink) (w.contents left) (x.last_fault left) (x.faults c.args.sink) (x.faults left) begins leaves r.ensures.ok;
      err = fails before f after r.result (w.contents c.args.sink) (w.contents left) (x.last_fault left) (x.faults c.args.sink) (x.faults left) begins leaves r.ensures.err;
      kept = stays before f after r.result (w.contents c.args.sink) (w.contents left) (x.last_fault left) (x.faults c.args.sink) (x.faults left) begins leaves r.ensures.ok r.ensures.err;
    }
