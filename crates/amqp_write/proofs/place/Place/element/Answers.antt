use Rattle.amqp_write.specs.State.{stand, mark_in, constructor_in, other}
use Rattle.std.proofs.Common.{refl, ap, ◌∙◌}
use Rattle.amqp_write.proofs.TextOf.{other_pays, mixed_pays}
use Rattle.amqp_write.proofs.place.Place.element.Goals as goal

pub returns-then-byte : goal.returns-then-byte
unfolding stand
returns-then-byte g c = record { law = other_pays _ c.in-Under.outer c.args.code _ _ _ (ap (mark_in c.args.self.now.descriptor) c.in-Other.is ∙ ap (λ k. other (constructor_in c.args.self.now.descriptor k)) c.in-Under.is) (rw (c.byte-in-Under.ensures, c.byte.ensures) at c.if-byte.true) c.requires.answers c.append_two.ensures }

pub returns-else-byte : goal.returns-else-byte
unfolding stand
returns-else-byte g c = record { law = mixed_pays _ c.in-Under.outer c.args.code _ _ _ (ap (mark_in c.args.self.now.descriptor) c.in-Other.is ∙ ap (λ k. other (constructor_in c.args.self.now.descriptor k)) c.in-Under.is) (rw (c.byte-in-Under.ensures, c.byte.ensures) at c.if-byte.false) refl refl }
