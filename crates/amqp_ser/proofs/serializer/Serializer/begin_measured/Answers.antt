use Rattle.std.proofs.Common.{◌≡◌, [], arith, length, refl, sym, subst, ap, ◌∙◌}
use Rattle.amqp_ser.specs.Law.{measure_after}
use Rattle.amqp_ser.specs.State.{State}
use Rattle.amqp_write.specs.State.{stand}
use Rattle.amqp_write.specs.declared.pass.Opened.{Opened}
use Rattle.amqp_ser.specs.Compound.{outer_in}
use Rattle.amqp_write.proofs.Bytes.{measure_start}
use Rattle.amqp_ser.proofs.Compounds.{inner_lives, outer_lives, lives_measured}
use Rattle.amqp_ser.proofs.Lending.{holds_measured, room_of, counted_of, plan_none, told_none}
use Rattle.amqp_ser.proofs.serializer.Serializer.begin_measured.Goals as goal

pub returns-in-Some-open_measured-clause-ok : goal.returns-in-Some-open_measured-clause-ok
unfolding stand
returns-in-Some-open_measured-clause-ok g c =
    let d = c.if-not-self.false in
    let s = stand g.W.Write g.W.FaultCount c.self.inside.writer c.self.inside.place in
    let o = c.lend.new.self.state in
    let e = c.lend.ensures.state in
    let r = room_of _ _ _ _ d c.in-Some-open_measured.ensures.room in
    let before = counted_of _ _ r.0 c.in-Some.before r.2 c.in-Some.ensures.counted (omega (arith, c.if-before-ge18446744073709551615.false)) in
    let opened = c.lend.ensures.opened ∙ (ap (λ k. Opened.Measured k c.in-Some.before) r.3 ∙ ap (λ k. Opened.Measured (length r.0.sizes) k) before) in
    let live = lives_measured _ _ _ opened in
    rw (← c.self.view_is) (holds_measured s o c.args.shape _ (outer_in c.lend.result.outer) r.0 r.1 (rw (← c.self.view_is) at c.requires.answers) (told_none _ _ d) (plan_none _ _ c.in-Some-open_measured.ensures.alone) r.2
    (ap (λ (x : State). x.plan) e ∙ plan_none _ _ (c.in-Some-open_measured.ensures.plan ∙ c.in-Some-open_measured.ensures.alone)) (ap (λ (x : State). x.measure) e ∙ r.4) (ap (λ (x : State). x.faults) e ∙ c.in-Some-open_measured.ensures.faults) (ap (λ (x : State). x.grows) e ∙ c.in-Some-open_measured.ensures.grows) (ap (λ (x : State). x.setting) e) (ap (λ (x : State). x.mark) e) (subst (λ m. m ≡ measure_after m [] 0) (sym (ap (λ (x : State). x.measure) e)) (measure_start _ _))
    c.lend.ensures.setting c.lend.ensures.mark c.lend.ensures.found refl c.lend.ensures.shape c.lend.ensures.count opened (inner_lives _ o _ live ∙ ap (λ z. record o { ended = z }) c.lend.ensures.answers) (outer_lives _ o _ live))
