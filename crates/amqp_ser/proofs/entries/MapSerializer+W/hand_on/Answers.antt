-- What is gathered is written, and counted behind the parts.
use Rattle.std.proofs.Common.{refl, inl, sym, ap, ◌∙◌, subst, arith, true, Ok, Err}
use Rattle.amqp_base.specs.Shapes.{whole}
use Rattle.amqp_base.specs.declared.shape.Shape.{Shape}
use Rattle.amqp_write.proofs.StringTexts.{writes_one}
use Rattle.amqp_ser.specs.State.{State, unmarked}
use Rattle.amqp_ser.specs.Law.{Refused}
use Rattle.amqp_ser.specs.Compound.{open_as, open_parts, map_state, outer_in, Holds}
use Rattle.amqp_ser.proofs.Compounds.{inner_lives}
use Rattle.amqp_ser.proofs.NumberParts.{numbers_more, numbers_refused}
use Rattle.amqp_ser.proofs.Gathered.{holds_all_of, up_to}
use Rattle.amqp_ser.proofs.entries.MapSerializer+W.hand_on.Goals as goal

pub returns-then-gathered-eq0-clause-ok : goal.returns-then-gathered-eq0-clause-ok
returns-then-gathered-eq0-clause-ok g c = λ s xs h. holds_all_of s xs (map_state c.args.self.now) c.args.gathered c.args.block.now c.if-gathered-eq0.true h

pub returns-in-Err-clause-err : goal.returns-in-Err-clause-err
unfolding open_as
returns-in-Err-clause-err g c = λ s xs all h.
    let q = c.args.self.now in
    let o = q.ser.now.state in
    let t = c.append.new.self.state in
    let appended = rw c.set_ended.ensures at c.in-Err.ensures in
    let texts = up_to c.args.gathered.end c.min-end.result c.args.block.now c.min-end.ensures in
    let wrote = writes_one unmarked h.last _ _ (Err _) t h.texts (rw texts at appended) in
    subst (λ e. Refused s (whole Shape.Map all) e t) (sym c.refused-in-Err.ensures) (numbers_refused s Shape.Map h.done h.last all unmarked _ (map_state q) (outer_in q.parts.outer) o t refl wrote h.holds)

pub returns-clause-ok : goal.returns-clause-ok
unfolding open_as
returns-clause-ok g c = λ s xs h.
    let q = c.args.self.now in
    let o = q.ser.now.state in
    let w = c.append.new.self.state in
    let t : State = record w { ended = true } in
    let live = c.if-not-stands_outside.ensures.direct refl in
    let outside = c.if-not-stands_outside.ensures.outside refl in
    let answers = sym c.if-has_ended.ensures in
    let appended = rw c.set_ended.ensures at c.in-Ok.ensures in
    let texts = up_to c.args.gathered.end c.min-end.result c.args.block.now c.min-end.ensures in
    let wrote = writes_one unmarked h.last _ _ (Ok _) w h.texts (rw texts at appended) in
    let p = open_parts true t (record q.parts { count = c.in-Some.count }) in
    let more = numbers_more s Shape.Map h.done h.last unmarked (map_state q) p (outer_in q.parts.outer) o w t _ live (inl (outside, refl)) (inner_lives _ o _ live ∙ ap (λ z. record o { ended = z }) answers) refl wrote refl (inner_lives _ t _ live ∙ ap (λ z. record t { ended = z }) answers) refl refl refl refl (omega (arith, c.in-Some.ensures.1, h.count)) h.holds in
    rw c.set_ended-2.ensures (subst (λ l. Holds s Shape.Map l p) (sym h.all) more)
