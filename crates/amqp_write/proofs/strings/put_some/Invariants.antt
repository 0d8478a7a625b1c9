use Rattle.std.proofs.Common.{◌≡◌, ◌≤◌, length, map, take}
use Rattle.std.specs.Prelude.{string_bytes}
use Rattle.amqp_base.specs.Item.{scalar, string}
use Rattle.amqp_write.specs.State.{unmarked}
use Rattle.amqp_write.specs.ManyTexts.{AreTexts}
use Rattle.amqp_write.proofs.strings.put_some.Given as goal

abbrev pub invariant-loop-value : goal.invariant-loop-value
invariant-loop-value l = record {
  counted : l.count ≡ l.value-index;
  texts : AreTexts unmarked (map (λ t. scalar (string (string_bytes t))) (take l.value-index l.values)) (take l.at l.block);
  long : length l.block ≡ length l.initial.block;
  within : l.at ≤ length l.block;
}
