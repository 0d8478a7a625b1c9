use Rattle.std.proofs.Common.{refl, ap, ◌∙◌}
use Rattle.amqp_ser.specs.Compound.{outer_in}
use Rattle.amqp_write.proofs.Steps.{kept_two}
use Rattle.amqp_ser.proofs.Compounds.{direct_more, direct_refused, inner_lives, keeps_lives, kept_open, full_refuses}
use Rattle.amqp_ser.proofs.compound.write_direct.Goals as goal

pub returns-in-Some-clause-ok : goal.returns-in-Some-clause-ok
returns-in-Some-clause-ok g c = λ pairs s shape xs h.
    let live = c.requires.direct in
    let o = c.args.ser.now.state in
    let t = c.write_on.new.ser.state in
    let k = c.in-Ok.ensures.ok in
    direct_more s shape xs (g.T.Typed.meaning.item c.args.value.now) _ _ (outer_in c.args.parts.now.outer) o k.0 t live (inner_lives _ o _ live ∙ ap (λ z. record o { ended = z }) c.requires.answers) refl k.1 k.2 (inner_lives _ t _ live ∙ ap (λ z. record t { ended = z }) c.requires.answers) refl refl refl refl c.in-Some.ensures.1 h

pub returns-in-Some-clause-kept : goal.returns-in-Some-clause-kept
returns-in-Some-clause-kept g c = λ pairs. keeps_lives _ _ c.args.parts.now.opened (outer_in c.args.parts.now.outer) _ _ refl refl c.in-Ok.ensures.kept c.in-Ok.ensures.held

pub returns-in-None-clause-err : goal.returns-in-None-clause-err
returns-in-None-clause-err g c = λ pairs s shape xs all h split complete.
    let o = c.args.ser.now.state in
    full_refuses s _ _ _ (kept_two s o _ (kept_open s shape xs _ (outer_in c.args.parts.now.outer) o refl h) c.in-Ok.ensures.kept) c.no_memory.ensures

pub returns-in-None-clause-kept : goal.returns-in-None-clause-kept
returns-in-None-clause-kept g c = λ pairs. keeps_lives _ _ c.args.parts.now.opened (outer_in c.args.parts.now.outer) _ _ refl refl c.in-Ok.ensures.kept c.in-Ok.ensures.held

pub returns-in-Err-clause-err : goal.returns-in-Err-clause-err
returns-in-Err-clause-err g c = λ pairs s shape xs all h split complete.
    let live = c.requires.direct in
    let o = c.args.ser.now.state in
    let k = c.in-Err.ensures.err in
    rw c.handed_on.ensures (direct_refused s shape xs all (g.T.Typed.meaning.item c.args.value.now) _ _ (outer_in c.args.parts.now.outer) o k.0 _ (inner_lives _ o _ live ∙ ap (λ z. record o { ended = z }) c.requires.answers) refl k.1 k.2 h split complete)

pub returns-in-Err-clause-kept : goal.returns-in-Err-clause-kept
returns-in-Err-clause-kept g c = λ pairs. keeps_lives _ _ c.args.parts.now.opened (outer_in c.args.parts.now.outer) _ _ refl refl c.in-Err.ensures.kept c.in-Err.ensures.held
