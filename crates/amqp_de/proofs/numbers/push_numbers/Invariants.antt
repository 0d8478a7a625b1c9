use Rattle.std.proofs.Common.{◌≡◌, ◌+◌, ◌-◌, ◌≤◌, take, length, vec_len, vec_capacity}
use Rattle.amqp_base.specs.Wire.{bare}
use Rattle.amqp_de.specs.Many.{PutBehind}
use Rattle.amqp_de.proofs.numbers.push_numbers.Given as goal

abbrev pub invariant-loop-many : goal.invariant-loop-many
invariant-loop-many g l = record {
  put : PutBehind g.T.Typed.meaning bare (take l.at l.bytes) l.many l.fn.items.items l.items.items;
  so_many : vec_len l.items ≡ vec_len l.fn.items + l.many;
  room : vec_capacity l.items ≡ vec_capacity l.fn.items;
  within : l.at ≤ length l.bytes;
  few : l.many ≤ l.most;
}

abbrev pub decreases-loop-many : goal.decreases-loop-many
decreases-loop-many g l = l.most - l.many
