use Rattle.amqp_types.proofs.OrderedMapsAlike.{same_in_turn}
use Rattle.amqp_types.proofs.ordered_map.OrderedMap.same_entries.Goals as goal

pub returns : goal.returns
returns g c = λ equal. same_in_turn g.K.Typed.meaning.same g.V.Typed.meaning.same g.K.PartialEq.eq g.met.K.Eq.laws equal
