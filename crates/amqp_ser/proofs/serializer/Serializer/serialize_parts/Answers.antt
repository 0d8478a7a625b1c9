use Rattle.std.proofs.Common.{rules, [], length, eq-eqb, refl, false, inl, inr}
use Rattle.std.proofs.lemmas.Bool.Decides.{eqb_tells}
use Rattle.amqp_base.specs.declared.error.Error.TheVariants.{SequenceLengthMismatch}
use Rattle.amqp_base.specs.Shapes.{whole}
use Rattle.amqp_base.specs.declared.shape.Shape.{Shape}
use Rattle.amqp_ser.specs.Law.{Wrote, Refused}
use Rattle.amqp_ser.proofs.Compounds.{moved}
use Rattle.amqp_ser.proofs.WholeFields.{begins_self, failed_is}
use Rattle.amqp_ser.proofs.serializer.Serializer.serialize_parts.Goals as goal

pub returns-in-Some-clause-err : goal.returns-in-Some-clause-err
returns-in-Some-clause-err g c = λ _.
    let s = c.args.self.now.state in
    let xs = g.P.TupleParts.items c.args.parts.now in
    let told = failed_is c.write.new.failed c.in-Some.e _ c.in-Some.is (c.write.ensures.err c.if-write.false) in
    moved (λ n. Refused s (whole (Shape.Tuple c.args.len) xs) c.in-Some.e n) c.write.new.out.ser.now.state _ (search rules) (told s (Shape.Tuple c.args.len) [] xs c.in-Ok.ensures.opened (begins_self xs))

pub returns-in-Ok-end-clause-ok : goal.returns-in-Ok-end-clause-ok
returns-in-Ok-end-clause-ok g c =
    let s = c.args.self.now.state in
    let xs = g.P.TupleParts.items c.args.parts.now in
    let held = c.write.ensures.ok (rw c.if-write.true refl) s (Shape.Tuple c.args.len) [] c.in-Ok.ensures.opened in
    moved (λ n. Wrote s (whole (Shape.Tuple c.args.len) xs) n) c.end.new.self.0.state _ (search rules) ((c.in-Ok-end.ensures.law false).ok s (Shape.Tuple c.args.len) xs held)

pub returns-in-Err-end-clause-err : goal.returns-in-Err-end-clause-err
returns-in-Err-end-clause-err g c = λ len.
    let s = c.args.self.now.state in
    let xs = g.P.TupleParts.items c.args.parts.now in
    let held = c.write.ensures.ok (rw c.if-write.true refl) s (Shape.Tuple c.args.len) [] c.in-Ok.ensures.opened in
    moved (λ n. Refused s (whole (Shape.Tuple c.args.len) xs) c.in-Err-end.e n) c.end.new.self.0.state _ (search rules)
    ((c.in-Err-end.ensures.law false).err s (Shape.Tuple c.args.len) xs held (rw (eq-eqb (length xs) c.args.len len) refl))

pub returns-in-Ok-end-clause-number : goal.returns-in-Ok-end-clause-number
returns-in-Ok-end-clause-number g c =
    let s = c.args.self.now.state in
    let xs = g.P.TupleParts.items c.args.parts.now in
    let held = c.write.ensures.ok (rw c.if-write.true refl) s (Shape.Tuple c.args.len) [] c.in-Ok.ensures.opened in
    elim (eqb_tells (length xs) c.args.len) [
      | inl same ↦ same.1
      | inr other ↦ let refused = (c.in-Ok-end.ensures.lacking false s (Shape.Tuple c.args.len) xs SequenceLengthMismatch held (rw other.0 refl)).0 in cc
    ]
