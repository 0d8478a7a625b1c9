-- Values that are written many at a time, and counted behind the last.
use Rattle.std.proofs.Common.{◌≡◌, [], refl, map, take, length, length-take-le, sym, ap, ◌∙◌, subst, arith, true}
use Rattle.std.proofs.lemmas.List.{length-map, take-map}
use Rattle.amqp_base.specs.declared.shape.Setting.TheVariants.{Plain}
use Rattle.amqp_base.specs.Shapes.{whole}
use Rattle.amqp_ser.specs.State.{State}
use Rattle.amqp_ser.specs.Law.{Refused}
use Rattle.amqp_ser.specs.Compound.{open_as, open_state, outer_in}
use Rattle.amqp_write.proofs.PartTexts.{true_false}
use Rattle.amqp_write.proofs.Steps.{kept_two}
use Rattle.amqp_ser.proofs.Compounds.{keeps_lives, kept_open, full_refuses, inner_lives, inner_answers, broken_lives}
use Rattle.amqp_ser.proofs.NumberParts.{kept_numbers, kept_refused, numbers_more, numbers_refused}
use Rattle.amqp_ser.proofs.at_once.SeqSerializer+W.each_at_once.Goals as goal

pub returns-in-Err-clause-law : goal.returns-in-Err-clause-law
unfolding open_as
returns-in-Err-clause-law g c =
    let live = c.requires.direct in
    let q = c.args.self.now in
    let o = q.ser.now.state in
    let t = c.append_many.new.self.state in
    let law = rw c.set_ended.ensures at c.in-Err.ensures.law in
    record {
      ok = tt;
      err = λ s shape xs all h begins. subst (λ e. Refused s (whole shape all) e t) (sym c.refused.ensures) (numbers_refused s shape xs [] all g.P.Many.mark _ (open_state q) (outer_in q.parts.outer) o t refl law h);
      kept = keeps_lives _ _ q.parts.opened (outer_in q.parts.outer) o t refl refl (kept_refused g.P.Many.mark [] o t _ law) law.appended.err;
      stops = record {
        err = broken_lives _ t _ live (rw c.set_ended-in-Err.ensures refl);
        ended = λ h. absurd (true_false (sym h ∙ (inner_answers _ _ _ ∙ c.requires.answers)));
      };
    }

pub returns-in-Some-clause-law : goal.returns-in-Some-clause-law
unfolding open_as
returns-in-Some-clause-law g c =
    let item = λ (x : g.row.T.Denot). g.T.Typed.meaning.item x Plain in
    let n = c.in-Ok.written in
    let vs = take n c.args.values.now in
    let live = c.requires.direct in
    let q = c.args.self.now in
    let o = q.ser.now.state in
    let w = c.append_many.new.self.state in
    let t : State = record w { ended = true } in
    let law = rw c.set_ended.ensures at c.in-Ok.ensures.law in
    let len : length (map item vs) ≡ n = length-map vs item ∙ length-take-le n c.args.values.now c.in-Ok.ensures.few in
    rw (take-map item n c.args.values.now, c.set_ended-2.ensures) (record {
      ok = λ s shape xs h. numbers_more s shape xs (map item vs) g.P.Many.mark (open_state q) _ (outer_in q.parts.outer) o w t _ live c.requires.stand (inner_lives _ o _ live ∙ ap (λ z. record o { ended = z }) c.requires.answers) refl law refl (inner_lives _ t _ live ∙ ap (λ z. record t { ended = z }) c.requires.answers) refl refl refl refl (omega (arith, c.in-Some.ensures.1, len)) h;
      err = tt;
      kept = keeps_lives _ _ q.parts.opened (outer_in q.parts.outer) o t refl refl (kept_numbers g.P.Many.mark (map item vs) o w t _ law refl) refl;
      stops = record {
        err = tt;
        ended = λ h. absurd (true_false (sym h ∙ (inner_answers _ _ _ ∙ c.requires.answers)));
      };
    })

pub returns-in-None-clause-law : goal.returns-in-None-clause-law
unfolding open_as
returns-in-None-clause-law g c =
    let item = λ (x : g.row.T.Denot). g.T.Typed.meaning.item x Plain in
    let is = map item (take c.in-Ok.written c.args.values.now) in
    let live = c.requires.direct in
    let q = c.args.self.now in
    let o = q.ser.now.state in
    let w = c.append_many.new.self.state in
    let t : State = record w { ended = true } in
    let kept = kept_numbers g.P.Many.mark is o w t _ (rw c.set_ended.ensures at c.in-Ok.ensures.law) refl in
    rw c.set_ended-2.ensures (record {
      ok = tt;
      err = λ s shape xs all h begins. full_refuses s t (whole shape all) _ (kept_two s o t (kept_open s shape xs (open_state q) (outer_in q.parts.outer) o refl h) kept) c.no_memory.ensures;
      kept = keeps_lives _ _ q.parts.opened (outer_in q.parts.outer) o t refl refl kept refl;
      stops = record {
        err = broken_lives _ t _ live (rw c.set_ended-in-None.ensures refl);
        ended = λ h. absurd (true_false (sym h ∙ (inner_answers _ _ _ ∙ c.requires.answers)));
      };
    })
