use Rattle.std.proofs.Common.{◌∙◌}
use Rattle.std.specs.Cmp.{then_agrees}
use Rattle.std.specs.Cmp.Lexicographic.{lists_agrees}
use Rattle.std.proofs.lemmas.Option.{none-some, same_Some}
use Rattle.amqp_types.proofs.map_order.OrderedMapOrd.cmp.Goals as goal

pub returns-in-Some : goal.returns-in-Some
returns-in-Some g c =
    let agrees = lists_agrees (then_agrees (λ p q. g.met.K.Ord.matches_partial_cmp p.0 q.0) (λ p q. g.met.V.Ord.matches_partial_cmp p.1 q.1)) in
    same_Some _ _ (c.in-Some.ensures ∙ agrees c.args.self.now c.args.other.now)

pub returns-in-None : goal.returns-in-None
returns-in-None g c =
    let agrees = lists_agrees (then_agrees (λ p q. g.met.K.Ord.matches_partial_cmp p.0 q.0) (λ p q. g.met.V.Ord.matches_partial_cmp p.1 q.1)) in
    absurd (none-some _ (c.in-None.ensures ∙ agrees c.args.self.now c.args.other.now))
