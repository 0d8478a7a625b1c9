use Rattle.std.proofs.Common.{subst}
use Rattle.std.proofs.lemmas.Result.{IfErr-weaker, on_ok_weaker}
use Rattle.amqp_base.specs.Structs.{fields_parts}
use Rattle.amqp_ser.specs.Law.{Wrote}
use Rattle.amqp_ser.specs.Staged.{shape_under, HasFields, AwaitsDescriptor}
use Rattle.amqp_ser.proofs.Stages.{struct_there, struct_is, ends_refused}
use Rattle.amqp_ser.proofs.compound.StagedCompound+W+F.end.Goals as goal

pub returns : goal.returns
unfolding HasFields AwaitsDescriptor
returns g c =
    let w = c.end_staged.ensures in
    record {
      ok = on_ok_weaker c.end_staged.result (λ k s b fs h. subst (λ i. Wrote s i c.end_staged.new.ser.state) (struct_is b fs) (k s b (fields_parts (shape_under b) fs) h (struct_there b fs))) w.ok;
      err = IfErr-weaker c.end_staged.result _ _ (λ e k s b fs h. ends_refused s _ b fs e (λ lack. k s b (fields_parts (shape_under b) fs) h (struct_there b fs) lack)) w.err;
      lacking = λ s b fs h lack. w.lacking s b (fields_parts (shape_under b) fs) h lack;
      early = w.early;
      kept = w.kept;
      ended = w.ended;
    }
