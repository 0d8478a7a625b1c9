use Rattle.std.proofs.Common.{rules, true, refl, sym, ◌∙◌, IfErr, OnOk, [], ◌∷◌}
use Rattle.std.proofs.lemmas.Result.{on_ok_weaker, IfErr-weaker, on_err_weaker}
use Rattle.amqp_base.specs.Item.{scalar, uint}
use Rattle.amqp_base.specs.declared.shape.Setting.TheVariants.{Plain}
use Rattle.amqp_base.specs.declared.shape.Shape.{Shape}
use Rattle.amqp_ser.specs.Compound.{open_as}
use Rattle.amqp_ser.specs.Law.{Wrote, Refused, Stops}
use Rattle.amqp_ser.specs.Variants.{variant_item}
use Rattle.amqp_write.proofs.PartTexts.{true_false}
use Rattle.amqp_ser.proofs.Compounds.{moved}
use Rattle.amqp_ser.proofs.Stages.{parts_keep}
use Rattle.amqp_ser.proofs.serializer.Serializer.serialize_newtype_variant.Goals as goal

pub returns-in-Ok-serialize_entry-clause-ok : goal.returns-in-Ok-serialize_entry-clause-ok
returns-in-Ok-serialize_entry-clause-ok g c =
    let held = c.in-Ok-serialize_entry.ensures.law.ok _ [] c.in-Ok.ensures.opened in
    let item = variant_item c.args.index (g.T.Typed.meaning.item c.args.value.now Plain) in
    moved (λ n. OnOk c.end.result (Wrote c.args.self.now.state item n)) c.end.new.self.0.state _ (search rules)
    (on_ok_weaker c.end.result (λ wrote. wrote _ Shape.Map _ held) (c.end.ensures.law true).ok)

pub returns-in-Ok-serialize_entry-clause-err : goal.returns-in-Ok-serialize_entry-clause-err
returns-in-Ok-serialize_entry-clause-err g c = λ plain.
    let held = c.in-Ok-serialize_entry.ensures.law.ok _ [] c.in-Ok.ensures.opened in
    let item = variant_item c.args.index (g.T.Typed.meaning.item c.args.value.now Plain) in
    moved (λ n. IfErr c.end.result (λ e. Refused c.args.self.now.state item e n)) c.end.new.self.0.state _ (search rules)
    (IfErr-weaker c.end.result _ _ (λ e refused. refused _ Shape.Map _ held refl) (c.end.ensures.law true).err)

pub returns-in-Err-serialize_entry-clause-err : goal.returns-in-Err-serialize_entry-clause-err
returns-in-Err-serialize_entry-clause-err g c = λ plain.
    let item = variant_item c.args.index (g.T.Typed.meaning.item c.args.value.now Plain) in
    let refused = c.in-Err-serialize_entry.ensures.law.err _ [] (scalar (uint c.args.index) ∷ g.T.Typed.meaning.item c.args.value.now Plain ∷ []) c.in-Ok.ensures.opened refl (refl, (refl, tt)) refl in
    moved (λ n. Refused c.args.self.now.state item c.in-Err-serialize_entry.e n) c.serialize_entry.new.self.ser.now.state _ (search rules) refused

pub returns-in-Ok-serialize_entry-clause-stops : goal.returns-in-Ok-serialize_entry-clause-stops
unfolding open_as
returns-in-Ok-serialize_entry-clause-stops g c =
    let law = c.end.ensures.law true in
    let kept = c.serialize_entry.ensures.law.kept in
    let o = c.in-Ok.pair.ser.now.state in
    let n = c.serialize_entry.new.self.ser.now.state in
    let held = (parts_keep c.in-Ok.pair.parts c.serialize_entry.new.self.parts o n (record { kept = kept.kept; ended = kept.ended })).held c.in-Ok.ensures.held in
    moved (λ n. Stops c.args.self.now.state c.end.result n) c.end.new.self.0.state _ (search rules)
    (record { err = on_err_weaker c.end.result (λ h. h held) law.stays_ended; ended = λ e. absurd (true_false (sym e ∙ (sym c.has_ended.ensures ∙ c.if-has_ended.false))) })
