use Rattle.std.proofs.Common.{[], ◌∷◌, ◌++◌, true, false, sym, subst, append_assoc}
use Rattle.std.proofs.lemmas.Result.{IfErr-weaker, on_ok_weaker}
use Rattle.amqp_base.specs.Item.{scalar, string}
use Rattle.amqp_base.specs.declared.shape.Shape.{Shape}
use Rattle.amqp_base.specs.declared.shape.Setting.TheVariants.{DescribedMap}
use Rattle.amqp_ser.specs.Compound.{BeginsWith}
use Rattle.amqp_ser.proofs.Compounds.{begins_less, keeps_two}
use Rattle.amqp_ser.proofs.FieldParts.{pair_more}
use Rattle.amqp_ser.proofs.structs.write_pair.Goals as goal

pub returns-in-Ok-clause-ok : goal.returns-in-Ok-clause-ok
returns-in-Ok-clause-ok g c = on_ok_weaker c.write_part-in-Ok.result (λ k s xs h. pair_more s Shape.Fields xs _ _ _ (k s Shape.Fields _ (c.in-Ok.ensures.ok true s Shape.Fields xs h))) (c.write_part-in-Ok.ensures.ok true)

pub returns-in-Ok-clause-err : goal.returns-in-Ok-clause-err
returns-in-Ok-clause-err g c =
    let key = scalar (string c.args.name.now) in
    let value = g.T.Typed.meaning.item c.args.value.now DescribedMap in
    IfErr-weaker c.write_part-in-Ok.result _ _ (λ e k s xs all h begins complete. k s Shape.Fields (xs ++ key ∷ []) all (c.in-Ok.ensures.ok true s Shape.Fields xs h) (subst (λ ys. BeginsWith all ys) (sym (append_assoc xs (key ∷ []) (value ∷ []))) begins) complete) (c.write_part-in-Ok.ensures.err true)

pub returns-in-Ok-clause-kept : goal.returns-in-Ok-clause-kept
returns-in-Ok-clause-kept g c = keeps_two _ _ _ (c.in-Ok.ensures.kept false) (c.write_part-in-Ok.ensures.kept false)

pub returns-in-Ok-clause-stops : goal.returns-in-Ok-clause-stops
returns-in-Ok-clause-stops g c = record {
  err = (c.write_part-in-Ok.ensures.stops false).err;
  ended = λ b. let e = ((c.in-Ok.ensures.stops false).ended b).0 in cc;
}

pub returns-in-Err-clause-err : goal.returns-in-Err-clause-err
returns-in-Err-clause-err g c = λ s xs all h begins complete. c.in-Err.ensures.err true s Shape.Fields xs all h (begins_less xs all _ _ begins) complete

pub returns-in-Err-clause-kept : goal.returns-in-Err-clause-kept
returns-in-Err-clause-kept g c = c.in-Err.ensures.kept false

pub returns-in-Err-clause-stops : goal.returns-in-Err-clause-stops
returns-in-Err-clause-stops g c = c.in-Err.ensures.stops false
