use Rattle.std.proofs.Common.{refl, ap, ◌∙◌}
use Rattle.amqp_ser.specs.State.{size_in}
use Rattle.amqp_write.specs.State.{stand}
use Rattle.amqp_ser.specs.Compound.{outer_in}
use Rattle.amqp_ser.proofs.Compounds.{inner_lives, outer_lives, lives_written}
use Rattle.amqp_ser.proofs.Passes.{refuses_headless}
use Rattle.amqp_ser.proofs.Lending.{holds_written, next_of, written_of, measure_none, told_none}
use Rattle.amqp_ser.proofs.serializer.Serializer.begin_written.Goals as goal

pub returns-in-Err-clause-err : goal.returns-in-Err-clause-err
unfolding stand
returns-in-Err-clause-err g c =
    let d = c.if-not-self.false in
    let n = next_of _ _ _ (size_in c.in-Some.size) d c.in-Some.ensures.next in
    rw (c.refused.ensures, ← c.self.view_is) (refuses_headless _ _ c.args.shape c.in-Some.size n.0 n.1 _ _ _ _ (rw (← c.self.view_is) at c.requires.answers) (told_none _ _ d) n.2 n.3 refl c.in-Some.ensures.faults c.in-Some.ensures.grows c.in-Err.ensures.law)

pub returns-in-Some-so_far-clause-ok : goal.returns-in-Some-so_far-clause-ok
unfolding stand
returns-in-Some-so_far-clause-ok g c =
    let d = c.if-not-self.false in
    let s = stand g.W.Write g.W.FaultCount c.self.inside.writer c.self.inside.place in
    let t = stand g.W.Write g.W.FaultCount c.head.new.writer c.head.new.self in
    let o = c.lend.new.self.state in
    let n = next_of _ _ _ (size_in c.in-Some.size) d c.in-Some.ensures.next in
    let live = lives_written _ _ _ c.lend.ensures.opened in
    rw (← c.self.view_is) (holds_written s _ t o c.args.shape _ (outer_in c.lend.result.outer) n.0 c.in-Some.size n.1 c.in-Some-so_far.from _ (rw (← c.self.view_is) at c.requires.answers) (told_none _ _ d) (measure_none _ _ c.in-Some.ensures.alone) n.2 n.3
    (measure_none _ _ (c.in-Some.ensures.measure ∙ c.in-Some.ensures.alone)) n.4 c.in-Some.ensures.faults c.in-Some.ensures.grows refl refl refl c.in-Ok.ensures.law
    (λ x h. written_of _ _ x _ h c.in-Some-so_far.ensures.written) c.lend.ensures.state
    c.lend.ensures.setting c.lend.ensures.mark c.lend.ensures.found refl c.lend.ensures.shape c.lend.ensures.count c.lend.ensures.opened (inner_lives _ o _ live ∙ ap (λ z. record o { ended = z }) c.lend.ensures.answers) (outer_lives _ o _ live))
