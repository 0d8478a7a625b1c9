use Rattle.std.proofs.Common.{◌≡◌, ◌+◌, ◌*◌, take, vec_len, vec_capacity}
use Rattle.amqp_base.specs.Wire.{under}
use Rattle.amqp_de.specs.Many.{PutBehind}
use Rattle.amqp_de.proofs.numbers.push_all.Given as goal

abbrev pub invariant-loop-k : goal.invariant-loop-k
invariant-loop-k g l = record {
  put : PutBehind g.T.Typed.meaning (under g.T.Wide.widest) (take (l.k * g.row.W) l.bytes) l.k l.initial.items.items l.items.items;
  so_many : vec_len l.items ≡ vec_len l.initial.items + l.k;
  room : vec_capacity l.items ≡ vec_capacity l.initial.items;
}
