use Rattle.std.proofs.Common.{◌≡◌, ◌-◌, ◌≤◌, length, drop}
use Rattle.std.specs.Cmp.Lexicographic.{slice_partial_cmp}
use Rattle.amqp_types.specs.OrderedMaps.{keys_first_partly}
use Rattle.amqp_types.proofs.map_order.OrderedMapPartialOrd.partial_cmp.Given as goal

-- the pairs from i on are in the order that all are in
abbrev pub invariant-pairs : goal.invariant-pairs
invariant-pairs g l = record {
  rest : slice_partial_cmp (keys_first_partly g.K.PartialOrd.partial_cmp g.V.PartialOrd.partial_cmp) (drop l.i l.self) (drop l.i l.other) ≡ slice_partial_cmp (keys_first_partly g.K.PartialOrd.partial_cmp g.V.PartialOrd.partial_cmp) l.self l.other;
  here : l.i ≤ length l.self;
  there : l.i ≤ length l.other;
}

abbrev pub decreases-pairs : goal.decreases-pairs
decreases-pairs g l = length l.self - l.i
