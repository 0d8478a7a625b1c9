use Rattle.std.proofs.Common.{refl, sym, ◌∙◌}
use Rattle.std.proofs.lemmas.Result.{IfErr-weaker, on_ok_weaker}
use Rattle.amqp_write.proofs.PartTexts.{true_false}
use Rattle.amqp_ser.proofs.Stages.{plain_more, plain_refused, behind_more, behind_refused, apart_more, apart_refused, apart_else}
use Rattle.amqp_ser.proofs.staged.write_named_field.Goals as goal

pub returns-in-Ok-clause-ok : goal.returns-in-Ok-clause-ok
returns-in-Ok-clause-ok g c = λ s b fs h. plain_more s _ _ b fs _ c.args.of.now (record c.args.of.now { parts = c.write_field.new.parts }) c.in-Plain.is c.in-Plain.is (λ k held. c.in-Ok.ensures.ok s k fs held) h

pub returns-in-Err-clause-err : goal.returns-in-Err-clause-err
returns-in-Err-clause-err g c = λ free s b fs all h begins. plain_refused s _ _ b fs all _ c.args.of.now c.in-Plain.is (λ k held. c.in-Err.ensures.err free s k fs all held begins) h

pub returns-in-Ok-write_field-clause-ok : goal.returns-in-Ok-write_field-clause-ok
returns-in-Ok-write_field-clause-ok g c = λ s b fs h. behind_more s _ _ b fs _ c.args.of.now (record c.args.of.now { parts = c.write_field-in-Behind.new.parts }) c.in-Behind.is c.in-Behind.is refl (λ m k held. c.in-Ok-write_field.ensures.ok m k fs held) h

pub returns-in-Err-write_field-clause-err : goal.returns-in-Err-write_field-clause-err
returns-in-Err-write_field-clause-err g c = λ free s b fs all h begins. rw (c.renamed.ensures, c.set_ended.ensures) (behind_refused s _ _ b fs all _ c.args.of.now c.in-Behind.is (λ m k held. c.in-Err-write_field.ensures.err free m k fs all held begins) h)

pub returns-in_default : goal.returns-in_default
returns-in_default g c =
    let w = c.write_value.ensures in
    let a = apart_else c.args.of.now c.in_default.not-Plain c.in_default.not-Behind in
    record {
      ok = on_ok_weaker c.write_value.result (λ k s b fs h. apart_more s _ _ b fs _ (g.T.Typed.meaning.item c.args.value.now) c.args.of.now c.write_value.new.of a (λ xs. k s b xs) h) w.ok;
      err = IfErr-weaker c.write_value.result _ _ (λ e k free s b fs all h begins. apart_refused s _ _ b fs all _ (g.T.Typed.meaning.item c.args.value.now) e c.args.of.now a (λ xs ys. k s b xs ys) h begins) w.err;
      descriptor = λ is. absurd (true_false (sym is ∙ sym c.if-is_name.ensures));
      early = w.early;
      kept = w.kept;
      stops = w.stops;
    }
