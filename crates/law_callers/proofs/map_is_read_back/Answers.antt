use Rattle.std.specs.Cmp.{nat_cmp_total}
use Rattle.law_callers.proofs.map_is_read_back.Goals as goal

pub returns : goal.returns
returns c = λ b rest h k. (c.round_trip.ensures c.args._map.now b rest (record { differ = (nat_cmp_total, c.len-len.ensures.ordered); sound = λ i d j. (tt, tt) }) h k).2
