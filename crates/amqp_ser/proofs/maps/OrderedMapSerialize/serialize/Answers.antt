-- A map gives all of its entries.
use Rattle.amqp_ser.proofs.MapPairs.{gives_all}
use Rattle.amqp_ser.proofs.maps.OrderedMapSerialize.serialize.Goals as goal

pub returns-clause-ok : goal.returns-clause-ok
returns-clause-ok g c = c.write_map.ensures.ok c.args.self.now (record { one = gives_all _ _ c.iter.ensures.pairs; two = gives_all _ _ c.iter-2.ensures.pairs; count = c.len.ensures.len })

pub returns-clause-err : goal.returns-clause-err
returns-clause-err g c = c.write_map.ensures.err c.args.self.now (record { one = gives_all _ _ c.iter.ensures.pairs; two = gives_all _ _ c.iter-2.ensures.pairs; count = c.len.ensures.len })
