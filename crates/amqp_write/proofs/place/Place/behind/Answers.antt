use Rattle.std.proofs.Common.{ap, ◌∙◌}
use Rattle.amqp_types.specs.Descriptors.{descriptor_of}
use Rattle.amqp_write.specs.State.{mark_of, mark_in, constructor_in, other}
use Rattle.amqp_write.specs.declared.place.Constructor.TheVariants.{UnderPair}
use Rattle.amqp_write.proofs.DescribedTexts.{plain_nowhere, pair_nowhere, bare_nowhere}
use Rattle.amqp_write.proofs.place.Place.behind.Goals as goal

pub returns-in-Under : goal.returns-in-Under
returns-in-Under c = plain_nowhere _ _ _ (ap (mark_in c.args.self.now.descriptor) c.in-Other.is ∙ ap (λ k. other (constructor_in c.args.self.now.descriptor k)) c.in-Under.is)

pub returns-else-is_same : goal.returns-else-is_same
returns-else-is_same c =
    let d = c.args.self.now.descriptor in
    pair_nowhere (mark_of c.args.self.now) _ (descriptor_of c.in-Some.own) _ (ap (mark_in d) c.in-Other.is ∙ (ap (λ k. other (constructor_in d k)) c.in-UnderPair.is ∙ ap (λ x. other (constructor_in x (UnderPair c.in-UnderPair.code))) c.in-Some.is)) (rw c.is_same.ensures at c.if-is_same.false)

pub returns-in-None : goal.returns-in-None
returns-in-None c =
    let d = c.args.self.now.descriptor in
    bare_nowhere (mark_of c.args.self.now) _ (ap (mark_in d) c.in-Other.is ∙ (ap (λ k. other (constructor_in d k)) c.in-UnderPair.is ∙ ap (λ x. other (constructor_in x (UnderPair c.in-UnderPair.code))) c.in-None.is))
