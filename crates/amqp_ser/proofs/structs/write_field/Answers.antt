use Rattle.std.proofs.Common.{false, sym, ◌∙◌}
use Rattle.std.proofs.lemmas.Result.{IfErr-weaker, on_ok_weaker}
use Rattle.amqp_base.specs.declared.shape.Shape.{Shape}
use Rattle.amqp_base.specs.Structs.{named, fields_parts}
use Rattle.amqp_ser.specs.Compound.{open_parts}
use Rattle.amqp_write.proofs.PartTexts.{true_false}
use Rattle.amqp_ser.proofs.Compounds.{inner_answers}
use Rattle.amqp_ser.proofs.FieldParts.{fields_as, fields_answer, shape_of, list_of, field_more, field_refused}
use Rattle.amqp_ser.proofs.structs.write_field.Goals as goal

pub returns-then-has_ended-clause-err : goal.returns-then-has_ended-clause-err
returns-then-has_ended-clause-err g c = λ free s k fs all h begins.
    let o = c.args.ser.now.state in
    absurd (true_false (sym (sym c.has_ended.ensures ∙ c.if-has_ended.true) ∙ (sym (inner_answers c.args.parts.now.opened o c.args.parts.now.buffer) ∙ fields_answer k s fs (open_parts false o c.args.parts.now) h)))

pub returns-in-Fields-clause-ok : goal.returns-in-Fields-clause-ok
returns-in-Fields-clause-ok g c =
    let f = named c.args.name.now (g.T.Typed.meaning.item c.args.value.now) in
    let q = open_parts false c.args.ser.now.state c.args.parts.now in
    let p = open_parts false c.write_pair.new.ser.state c.write_pair.new.parts in
    on_ok_weaker c.write_pair.result (λ w s k fs h. let e = shape_of Shape.Fields k s fs q h c.in-Fields.is in field_more Shape.Fields k s fs f p e (w s (fields_parts Shape.Fields fs) (fields_as Shape.Fields k s fs q e h))) c.write_pair.ensures.ok

pub returns-in-Fields-clause-err : goal.returns-in-Fields-clause-err
returns-in-Fields-clause-err g c =
    let f = named c.args.name.now (g.T.Typed.meaning.item c.args.value.now) in
    let q = open_parts false c.args.ser.now.state c.args.parts.now in
    IfErr-weaker c.write_pair.result _ _ (λ e w free s k fs all h begins. let same = shape_of Shape.Fields k s fs q h c.in-Fields.is in field_refused Shape.Fields k s fs all f e c.write_pair.new.ser.state same begins (λ ys b complete. w s (fields_parts Shape.Fields fs) ys (fields_as Shape.Fields k s fs q same h) b complete)) c.write_pair.ensures.err

pub returns-in_default-clause-ok : goal.returns-in_default-clause-ok
returns-in_default-clause-ok g c =
    let f = named c.args.name.now (g.T.Typed.meaning.item c.args.value.now) in
    let q = open_parts false c.args.ser.now.state c.args.parts.now in
    let p = open_parts false c.write_part.new.ser.state c.write_part.new.parts in
    on_ok_weaker c.write_part.result (λ w s k fs h. let e = list_of k s fs q h c.in_default.not-Fields in field_more Shape.List k s fs f p e (w s Shape.List (fields_parts Shape.List fs) (fields_as Shape.List k s fs q e h))) (c.write_part.ensures.ok false)

pub returns-in_default-clause-err : goal.returns-in_default-clause-err
returns-in_default-clause-err g c =
    let f = named c.args.name.now (g.T.Typed.meaning.item c.args.value.now) in
    let q = open_parts false c.args.ser.now.state c.args.parts.now in
    IfErr-weaker c.write_part.result _ _ (λ e w free s k fs all h begins. let same = list_of k s fs q h c.in_default.not-Fields in field_refused Shape.List k s fs all f e c.write_part.new.ser.state same begins (λ ys b complete. w s Shape.List (fields_parts Shape.List fs) ys (fields_as Shape.List k s fs q same h) b complete)) (c.write_part.ensures.err false)

pub returns-in_default-clause-kept : goal.returns-in_default-clause-kept
returns-in_default-clause-kept g c = c.write_part.ensures.kept false

pub returns-in_default-clause-stops : goal.returns-in_default-clause-stops
returns-in_default-clause-stops g c = c.write_part.ensures.stops false
