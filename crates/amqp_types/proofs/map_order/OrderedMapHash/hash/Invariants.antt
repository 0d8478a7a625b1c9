use Rattle.std.proofs.Common.{◌≡◌, ◌-◌, ◌≤◌, ◌++◌, length, take}
use Rattle.std.specs.Prelude.{fold}
use Rattle.std.specs.List.{flat_map}
use Rattle.amqp_types.proofs.map_order.OrderedMapHash.hash.Given as goal

-- the pairs before i were fed
abbrev pub invariant-pairs : goal.invariant-pairs
invariant-pairs g l = record {
  fed : l.state ≡ fold g.H.Hasher.write l.initial.state (flat_map (λ p. g.K.Hash.hash_input p.0 ++ g.V.Hash.hash_input p.1) (take l.i l.self));
  here : l.i ≤ length l.self;
}

abbrev pub decreases-pairs : goal.decreases-pairs
decreases-pairs g l = length l.self - l.i
