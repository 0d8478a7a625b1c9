use Rattle.std.proofs.Common.{[], ◌∷◌, ◌++◌, subst, append_assoc}
use Rattle.amqp_base.specs.declared.shape.Setting.TheVariants.{Plain}
use Rattle.amqp_ser.specs.Compound.{open_state, Holds}
use Rattle.amqp_ser.proofs.WholeFields.{begins_first, begins_later, failed_as}
use Rattle.amqp_ser.proofs.tuples.PartTupleParts.write.Goals as goal

pub returns-in-Ok-clause-ok : goal.returns-in-Ok-clause-ok
returns-in-Ok-clause-ok g c = λ yes s shape xs h.
    let x = g.T.Typed.meaning.item c.args.self.now.value.now Plain in
    let rest = g.Rest.TupleParts.items c.args.self.now.rest in
    subst (λ ys. Holds s shape ys (open_state c.write.new.out)) (append_assoc xs (x ∷ []) rest) (c.write.ensures.ok yes s shape (xs ++ x ∷ []) (c.in-Ok.ensures.law.ok s shape xs h))

pub returns-in-Ok-clause-err : goal.returns-in-Ok-clause-err
returns-in-Ok-clause-err g c = λ no.
    let x = g.T.Typed.meaning.item c.args.self.now.value.now Plain in
    let rest = g.Rest.TupleParts.items c.args.self.now.rest in
    failed_as c.write.new.failed _ _ (λ e refused s shape xs all h begins. refused s shape (xs ++ x ∷ []) all (c.in-Ok.ensures.law.ok s shape xs h) (begins_later all xs rest x begins)) (c.write.ensures.err no)

pub returns-in-Err-clause-err : goal.returns-in-Err-clause-err
returns-in-Err-clause-err g c = λ no s shape xs all h begins.
    let x = g.T.Typed.meaning.item c.args.self.now.value.now Plain in
    let rest = g.Rest.TupleParts.items c.args.self.now.rest in
    c.in-Err.ensures.law.err s shape xs all h (begins_first all xs rest x begins)
