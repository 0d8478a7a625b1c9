use Rattle.std.proofs.Common.{rules, [], OnOk, IfErr}
use Rattle.std.proofs.lemmas.Result.{IfErr-weaker, on_ok_weaker}
use Rattle.amqp_ser.specs.Law.{Wrote, Refused}
use Rattle.amqp_ser.specs.Variants.{fields_item}
use Rattle.amqp_ser.proofs.Compounds.{moved}
use Rattle.amqp_ser.proofs.WholeFields.{begins_self}
use Rattle.amqp_ser.proofs.serializer.Serializer.serialize_variant_parts.Goals as goal

pub returns-in-Err-write_fields-clause-err : goal.returns-in-Err-write_fields-clause-err
returns-in-Err-write_fields-clause-err g c = λ _.
    let s = c.args.self.now.state in
    let xs = g.P.TupleParts.items c.args.parts.now in
    let refused = c.in-Err-write_fields.ensures.err s c.args.index c.args.len [] xs c.in-Ok.ensures.opened (begins_self xs) in
    moved (λ n. Refused s (fields_item c.args.index c.args.len xs) c.in-Err-write_fields.e n) c.write_fields.new.out.ser.now.state _ (search rules) refused

pub returns-in-Ok-write_fields-clause-ok : goal.returns-in-Ok-write_fields-clause-ok
returns-in-Ok-write_fields-clause-ok g c =
    let s = c.args.self.now.state in
    let xs = g.P.TupleParts.items c.args.parts.now in
    let held = c.in-Ok-write_fields.ensures.ok s c.args.index c.args.len [] c.in-Ok.ensures.opened in
    moved (λ n. OnOk c.end.result (Wrote s (fields_item c.args.index c.args.len xs) n)) c.end.new.self.0.state _ (search rules)
    (on_ok_weaker c.end.result (λ wrote. wrote s c.args.index c.args.len xs held) c.end.ensures.ok)

pub returns-in-Ok-write_fields-clause-err : goal.returns-in-Ok-write_fields-clause-err
returns-in-Ok-write_fields-clause-err g c = λ len.
    let s = c.args.self.now.state in
    let xs = g.P.TupleParts.items c.args.parts.now in
    let held = c.in-Ok-write_fields.ensures.ok s c.args.index c.args.len [] c.in-Ok.ensures.opened in
    moved (λ n. IfErr c.end.result (λ e. Refused s (fields_item c.args.index c.args.len xs) e n)) c.end.new.self.0.state _ (search rules)
    (IfErr-weaker c.end.result _ _ (λ e refused. refused s c.args.index c.args.len xs held len) c.end.ensures.err)
