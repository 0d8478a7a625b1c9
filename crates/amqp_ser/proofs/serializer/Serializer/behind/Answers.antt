use Rattle.std.proofs.Common.{ap, subst}
use Rattle.amqp_ser.specs.State.{State}
use Rattle.amqp_ser.specs.Law.{Wrote, Refused}
use Rattle.amqp_base.specs.declared.shape.Setting.TheVariants.{DescribedBasic}
use Rattle.amqp_ser.proofs.Describing.{behind_ok, behind_refused}
use Rattle.amqp_ser.proofs.serializer.Serializer.behind.Goals as goal

pub returns-in-Err-clause-err : goal.returns-in-Err-clause-err
returns-in-Err-clause-err g c = c.in-Err.ensures.err (g.T.Typed.meaning.item c.args.value.now DescribedBasic)

pub returns-in-Ok-serialize-clause-ok : goal.returns-in-Ok-serialize-clause-ok
returns-in-Ok-serialize-clause-ok g c =
    let p = c.in-Ok.ensures.ok in
    let u = c.put_descriptor.new.self.state in
    rw (c.set_setting.ensures, c.setting-setting.ensures) (behind_ok _ p.behind u _ _ _ _ tt c.requires.answers p.pays p.is (subst (λ z. Wrote u (g.T.Typed.meaning.item c.args.value.now z) c.serialize.new.ser.state) (ap (λ (x : State). x.setting) p.is) c.in-Ok-serialize.ensures.ok))

pub returns-in-Err-serialize-clause-err : goal.returns-in-Err-serialize-clause-err
returns-in-Err-serialize-clause-err g c =
    let p = c.in-Ok.ensures.ok in
    let u = c.put_descriptor.new.self.state in
    rw c.set_ended.ensures (behind_refused _ p.behind u _ _ _ _ _ tt c.requires.answers c.requires.own p.pays p.is (subst (λ z. Refused u (g.T.Typed.meaning.item c.args.value.now z) c.in-Err-serialize.e c.serialize.new.ser.state) (ap (λ (x : State). x.setting) p.is) c.in-Err-serialize.ensures.err))
