use Rattle.std.proofs.Common.{◌≡◌, map, take}
use Rattle.std.specs.Prelude.{string_bytes}
use Rattle.amqp_base.specs.Item.{scalar, string}
use Rattle.amqp_write.specs.State.{unmarked}
use Rattle.amqp_write.specs.ManyTexts.{HaveTextsOf}
use Rattle.amqp_write.proofs.strings.text_lengths.Given as goal

abbrev pub invariant-loop-value : goal.invariant-loop-value
invariant-loop-value l = record {
  counted : l.count ≡ l.value-index;
  texts : HaveTextsOf unmarked (map (λ t. scalar (string (string_bytes t))) (take l.value-index l.values)) l.sum;
}
