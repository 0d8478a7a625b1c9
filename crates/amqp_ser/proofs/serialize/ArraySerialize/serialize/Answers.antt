-- A refused element refuses the whole.
use Rattle.std.proofs.Common.{rules, map, [], refl, false, IfErr, OnOk}
use Rattle.std.proofs.lemmas.Result.{IfErr-weaker, on_ok_weaker}
use Rattle.amqp_base.specs.declared.shape.Setting.TheVariants.{Plain}
use Rattle.amqp_base.specs.declared.shape.Shape.{Shape}
use Rattle.amqp_base.specs.Shapes.{whole}
use Rattle.amqp_ser.specs.Law.{Wrote, Refused}
use Rattle.amqp_ser.proofs.Compounds.{moved}
use Rattle.amqp_ser.proofs.ManyParts.{begins_itself}
use Rattle.amqp_ser.proofs.serialize.ArraySerialize.serialize.Goals as goal

pub returns-in-Err-serialize_each-clause-err : goal.returns-in-Err-serialize_each-clause-err
returns-in-Err-serialize_each-clause-err g c =
    let item = λ (x : g.row.T.Denot). g.T.Typed.meaning.item x Plain in
    let xs = c.args.self.now.0.items in
    let refused = c.in-Err-serialize_each.ensures.law.err _ Shape.Array [] (map item xs) c.in-Ok.ensures.opened (rw c.as_slice.ensures.value (begins_itself (map item xs))) in
    moved (λ n. Refused c.args.ser.now.state (whole Shape.Array (map item xs)) c.in-Err-serialize_each.e n) c.serialize_each.new.self.ser.now.state _ (search rules) refused

-- where the end succeeds, the whole is written
pub returns-in-Ok-serialize_each-clause-ok : goal.returns-in-Ok-serialize_each-clause-ok
returns-in-Ok-serialize_each-clause-ok g c =
    let item = λ (x : g.row.T.Denot). g.T.Typed.meaning.item x Plain in
    let xs = c.args.self.now.0.items in
    let held = rw c.as_slice.ensures.value at c.in-Ok-serialize_each.ensures.law.ok _ Shape.Array [] c.in-Ok.ensures.opened in
    moved (λ n. OnOk c.end.result (Wrote c.args.ser.now.state (whole Shape.Array (map item xs)) n)) c.end.new.self.0.state _ (search rules)
    (on_ok_weaker c.end.result (λ wrote. wrote _ Shape.Array (map item xs) held) (c.end.ensures.law false).ok)

-- and so does a refused end
pub returns-in-Ok-serialize_each-clause-err : goal.returns-in-Ok-serialize_each-clause-err
returns-in-Ok-serialize_each-clause-err g c =
    let item = λ (x : g.row.T.Denot). g.T.Typed.meaning.item x Plain in
    let xs = c.args.self.now.0.items in
    let held = rw c.as_slice.ensures.value at c.in-Ok-serialize_each.ensures.law.ok _ Shape.Array [] c.in-Ok.ensures.opened in
    moved (λ n. IfErr c.end.result (λ e. Refused c.args.ser.now.state (whole Shape.Array (map item xs)) e n)) c.end.new.self.0.state _ (search rules)
    (IfErr-weaker c.end.result _ _ (λ e refused. refused _ Shape.Array (map item xs) held refl) (c.end.ensures.law false).err)
