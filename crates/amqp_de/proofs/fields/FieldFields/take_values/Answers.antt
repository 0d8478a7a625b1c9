use Rattle.std.proofs.Common.{◌≡◌, Some, refl}
use Rattle.amqp_de.proofs.Slots.{values_some}
use Rattle.amqp_de.proofs.fields.FieldFields.take_values.Goals as goal

pub returns-in-Some-take_values-clause-some : goal.returns-in-Some-take_values-clause-some
returns-in-Some-take_values-clause-some g c = λ vs e.
    let was : c.args.self.now.value ≡ Some c.in-Some.value = cc in
    rw was (values_some c.args.self.now.name.now g.T.Typed.meaning.takes g.T.Typed.meaning.means c.in-Some.value (g.Rest.Fields.slots c.args.self.now.rest) c.in-Some-take_values.others (c.in-Some-take_values.ensures.some _ refl) vs e)
