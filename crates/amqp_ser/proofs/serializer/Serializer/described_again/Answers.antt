use Rattle.std.proofs.Common.{refl, ap, subst}
use Rattle.amqp_ser.specs.State.{State}
use Rattle.amqp_ser.specs.Law.{Wrote, Refused}
use Rattle.amqp_ser.proofs.Describing.{again_ok, again_refused}
use Rattle.amqp_ser.proofs.serializer.Serializer.described_again.Goals as goal

pub returns-in-Ok-clause-ok : goal.returns-in-Ok-clause-ok
returns-in-Ok-clause-ok g c =
    let a = c.set_aside-outer.ensures in
    again_ok _ _ _ _ _ c.requires.stands.0 c.args.code _ c.requires.stands.1 c.requires.stands.2 a.state (subst (λ z. Wrote c.set_aside-outer.new.self.state (g.T.Typed.meaning.item c.args.value.now z) c.serialize.new.ser.state) (ap (λ (x : State). x.setting) a.state) c.in-Ok.ensures.ok) (rw (a.setting, a.mark, a.found) at c.restore.ensures)

pub returns-in-Err-clause-err : goal.returns-in-Err-clause-err
returns-in-Err-clause-err g c =
    let a = c.set_aside-outer.ensures in
    rw (c.named.ensures.value, c.set_ended.ensures) (again_refused _ _ _ _ _ c.requires.stands.0 c.args.code _ _ c.requires.answers c.requires.stands.1 c.requires.stands.2 a.state c.named.ensures.long (subst (λ z. Refused c.set_aside-outer.new.self.state (g.T.Typed.meaning.item c.args.value.now z) c.in-Err.e c.serialize.new.ser.state) (ap (λ (x : State). x.setting) a.state) c.in-Err.ensures.err) refl)
