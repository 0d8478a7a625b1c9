use Rattle.std.proofs.Common.{rules, []}
use Rattle.amqp_base.specs.Structs.{struct_item}
use Rattle.amqp_ser.specs.Law.{Refused}
use Rattle.amqp_ser.proofs.Compounds.{moved}
use Rattle.amqp_ser.proofs.WholeFields.{begins_self}
use Rattle.amqp_ser.proofs.serializer.Serializer.fields_one_by_one.Goals as goal

pub returns-in-Err-write-clause-err : goal.returns-in-Err-write-clause-err
returns-in-Err-write-clause-err g c = λ free usual.
    let s = c.args.self.now.state in
    let fs = g.F.StructFields.items c.args.fields.now in
    let refused = c.in-Err-write.ensures.err usual s [] fs c.in-Ok.ensures.opened (begins_self fs) in
    moved (λ n. Refused s (struct_item s.setting fs) c.in-Err-write.e n) c.write.new.out.ser.now.state _ (search rules) refused
