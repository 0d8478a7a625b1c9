use Rattle.std.proofs.Common.{[], ◌∷◌}
use Rattle.amqp_base.specs.declared.shape.Setting.TheVariants.{Plain}
use Rattle.amqp_ser.specs.State.{unmarked}
use Rattle.amqp_ser.proofs.Gathered.{lengths_two}
use Rattle.amqp_ser.proofs.entries.two_lengths.Goals as goal

pub returns : goal.returns
returns g c = record { texts = lengths_two unmarked (g.K.Typed.meaning.item c.args.key.now Plain ∷ []) (g.V.Typed.meaning.item c.args.value.now Plain ∷ []) c.in_ok-one.one c.in_ok-two.two c.saturating_add.result c.saturating_add.ensures c.in_ok-one.ensures.text c.in_ok-two.ensures.text }
