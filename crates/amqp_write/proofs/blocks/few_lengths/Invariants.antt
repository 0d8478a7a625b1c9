use Rattle.std.proofs.Common.{◌≡◌, ◌*◌, ◌≤◌, ℕ, List, length, map, take}
use Rattle.amqp_base.specs.declared.shape.Setting.TheVariants.{Plain}
use Rattle.amqp_write.specs.ManyTexts.{AreTexts}
use Rattle.amqp_write.proofs.blocks.few_lengths.Given as goal

abbrev pub invariant-loop-value : goal.invariant-loop-value
invariant-loop-value g l = record {
  texts : (b : List ℕ) × AreTexts g.P.Texts.mark (map (λ x. g.T.Typed.meaning.item x Plain) (take l.value-index l.values)) b × (l.sum ≡ length b);
  small : l.sum ≤ l.value-index * 9;
}
