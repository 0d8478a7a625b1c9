use Rattle.std.proofs.Common.{◌≡◌, ◌*◌, ◌≤◌, length, map, take}
use Rattle.amqp_base.specs.declared.shape.Setting.TheVariants.{Plain}
use Rattle.amqp_write.specs.ManyTexts.{AreTexts}
use Rattle.amqp_write.proofs.blocks.put_all.Given as goal

abbrev pub invariant-loop-value : goal.invariant-loop-value
invariant-loop-value g l = record {
  texts : AreTexts g.P.Texts.mark (map (λ x. g.T.Typed.meaning.item x Plain) (take l.value-index l.values)) (take l.at l.block);
  long : length l.block ≡ length l.initial.block;
  within : l.at ≤ l.value-index * 10;
}
