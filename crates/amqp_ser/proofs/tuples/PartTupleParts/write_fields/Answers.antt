use Rattle.std.proofs.Common.{[], ◌∷◌, ◌++◌, subst, append_assoc}
use Rattle.amqp_base.specs.declared.shape.Setting.TheVariants.{Plain}
use Rattle.amqp_ser.specs.Variants.{HasVariant}
use Rattle.amqp_ser.proofs.WholeFields.{begins_first, begins_later}
use Rattle.amqp_ser.proofs.tuples.PartTupleParts.write_fields.Goals as goal

pub returns-in-Ok-write_fields-clause-ok : goal.returns-in-Ok-write_fields-clause-ok
returns-in-Ok-write_fields-clause-ok g c = λ s index len xs h.
    let x = g.T.Typed.meaning.item c.args.self.now.value.now Plain in
    let rest = g.Rest.TupleParts.items c.args.self.now.rest in
    subst (λ ys. HasVariant s index len ys c.write_fields.new.out) (append_assoc xs (x ∷ []) rest) (c.in-Ok-write_fields.ensures.ok s index len (xs ++ x ∷ []) (c.in-Ok.ensures.law.ok s index len xs h))

pub returns-in-Err-write_fields-clause-err : goal.returns-in-Err-write_fields-clause-err
returns-in-Err-write_fields-clause-err g c = λ s index len xs all h begins.
    let x = g.T.Typed.meaning.item c.args.self.now.value.now Plain in
    let rest = g.Rest.TupleParts.items c.args.self.now.rest in
    c.in-Err-write_fields.ensures.err s index len (xs ++ x ∷ []) all (c.in-Ok.ensures.law.ok s index len xs h) (begins_later all xs rest x begins)

pub returns-in-Err-clause-err : goal.returns-in-Err-clause-err
returns-in-Err-clause-err g c = λ s index len xs all h begins.
    let x = g.T.Typed.meaning.item c.args.self.now.value.now Plain in
    let rest = g.Rest.TupleParts.items c.args.self.now.rest in
    c.in-Err.ensures.law.err s index len xs all h (begins_first all xs rest x begins)
