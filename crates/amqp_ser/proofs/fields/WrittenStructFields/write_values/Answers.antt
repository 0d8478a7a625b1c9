-- The first value, and the others behind it.
use Rattle.std.proofs.Common.{[], ◌∷◌, ◌++◌, false, subst, append_assoc}
use Rattle.amqp_base.specs.declared.shape.Shape.{Shape}
use Rattle.amqp_base.specs.Structs.{named, fields_parts}
use Rattle.amqp_ser.specs.Compound.{open_as, open_parts, open_state, HoldsFields}
use Rattle.amqp_ser.proofs.FieldParts.{fields_as, field_more, field_refused}
use Rattle.amqp_ser.proofs.WholeFields.{begins_first, begins_later, failed_as}
use Rattle.amqp_ser.proofs.fields.WrittenStructFields.write_values.Goals as goal

pub returns-in-Ok-clause-ok : goal.returns-in-Ok-clause-ok
unfolding open_as HoldsFields
returns-in-Ok-clause-ok g c = λ yes s fs same h.
    let f = named c.args.self.now.name.now (g.T.Typed.meaning.item c.args.self.now.value.now) in
    let rest = g.Rest.StructFields.items c.args.self.now.rest in
    let q = open_state c.args.out.now in
    let p = open_parts false c.write_part.new.ser.state c.write_part.new.parts in
    let first = field_more Shape.List s.setting s fs f p same (c.in-Ok.ensures.ok false s Shape.List (fields_parts Shape.List fs) (fields_as Shape.List s.setting s fs q same h)) in
    subst (λ gs. HoldsFields s gs (open_state c.write_values.new.out)) (append_assoc fs (f ∷ []) rest) (c.write_values.ensures.ok yes s (fs ++ f ∷ []) same first)

pub returns-in-Ok-clause-err : goal.returns-in-Ok-clause-err
unfolding open_as HoldsFields
returns-in-Ok-clause-err g c = λ no.
    let f = named c.args.self.now.name.now (g.T.Typed.meaning.item c.args.self.now.value.now) in
    let rest = g.Rest.StructFields.items c.args.self.now.rest in
    let q = open_state c.args.out.now in
    let p = open_parts false c.write_part.new.ser.state c.write_part.new.parts in
    failed_as c.write_values.new.failed _ _ (λ e refused s fs all same h begins.
    let first = field_more Shape.List s.setting s fs f p same (c.in-Ok.ensures.ok false s Shape.List (fields_parts Shape.List fs) (fields_as Shape.List s.setting s fs q same h)) in
    refused s (fs ++ f ∷ []) all same first (begins_later all fs rest f begins)) (c.write_values.ensures.err no)

pub returns-in-Err-clause-err : goal.returns-in-Err-clause-err
unfolding open_as HoldsFields
returns-in-Err-clause-err g c = λ no s fs all same h begins.
    let f = named c.args.self.now.name.now (g.T.Typed.meaning.item c.args.self.now.value.now) in
    let rest = g.Rest.StructFields.items c.args.self.now.rest in
    let q = open_state c.args.out.now in
    field_refused Shape.List s.setting s fs all f c.in-Err.e c.write_part.new.ser.state same (begins_first all fs rest f begins) (λ ys b complete. c.in-Err.ensures.err false s Shape.List (fields_parts Shape.List fs) ys (fields_as Shape.List s.setting s fs q same h) b complete)
