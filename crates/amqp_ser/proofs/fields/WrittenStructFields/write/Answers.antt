use Rattle.std.proofs.Common.{[], ◌∷◌, ◌++◌}
use Rattle.amqp_base.specs.Structs.{named, is_descriptor_name}
use Rattle.amqp_ser.proofs.WholeFields.{begins_first, begins_later, usual_first, usual_rest}
use Rattle.amqp_ser.proofs.fields.WrittenStructFields.write.Goals as goal

pub returns-in-Err-write-clause-err : goal.returns-in-Err-write-clause-err
returns-in-Err-write-clause-err g c = λ usual s fs all held begins.
    let f = named c.args.self.now.name.now (g.T.Typed.meaning.item c.args.self.now.value.now) in
    let rest = g.Rest.StructFields.items c.args.self.now.rest in
    c.in-Err-write.ensures.err (usual_rest (is_descriptor_name c.args.self.now.name.now) (g.Rest.StructFields.usual c.args.self.now.rest) usual) s (fs ++ f ∷ []) all (c.in-Ok.ensures.ok s fs held) (begins_later all fs rest f begins)

pub returns-in-Err-clause-err : goal.returns-in-Err-clause-err
returns-in-Err-clause-err g c = λ usual s fs all held begins.
    let f = named c.args.self.now.name.now (g.T.Typed.meaning.item c.args.self.now.value.now) in
    let rest = g.Rest.StructFields.items c.args.self.now.rest in
    c.in-Err.ensures.err (usual_first (is_descriptor_name c.args.self.now.name.now) (g.Rest.StructFields.usual c.args.self.now.rest) usual) s fs all held (begins_first all fs rest f begins)
