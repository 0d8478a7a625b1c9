use Rattle.std.proofs.Common.{◌≡◌, ◌++◌, List, length, map}
use Rattle.amqp_base.specs.declared.shape.Setting.TheVariants.{Plain}
use Rattle.amqp_write.specs.ManyTexts.{HaveTextsOf}
use Rattle.amqp_write.proofs.blocks.lengths.Given as goal

abbrev pub invariant-loop-rest : goal.invariant-loop-rest
invariant-loop-rest g l = (front : List g.row.T.Denot) × (l.values ≡ front ++ l.rest) × HaveTextsOf g.P.Texts.mark (map (λ x. g.T.Typed.meaning.item x Plain) front) l.sum

abbrev pub decreases-loop-rest : goal.decreases-loop-rest
decreases-loop-rest g l = length l.rest
