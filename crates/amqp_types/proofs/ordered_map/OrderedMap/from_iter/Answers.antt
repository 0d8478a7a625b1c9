-- The pairs that the map inside took are those that the iterator gave to its end.
use Rattle.amqp_types.proofs.ordered_map.OrderedMap.from_iter.Goals as goal

pub returns-clause-ok : goal.returns-clause-ok
returns-clause-ok g c =
    let (it, pairs, gives, drains, is) = c.in_ok-from_iter.ensures.ran in
    let last = drains.2 tt in
    (it, gives, pairs, (last.0, (drains.0, drains.1, last.1)), is.0)
