use Rattle.std.proofs.Common.{false, ap, ◌∙◌}
use Rattle.amqp_base.specs.Wire.{bare}
use Rattle.serde_amqp.proofs.Whole.{found_from, all_read, wants_memory, named_from}
use Rattle.serde_amqp.proofs.from_slice.Goals as goal

pub returns-clause-found : goal.returns-clause-found
returns-clause-found g c = found_from g.T.Typed.meaning.takes g.T.Typed.meaning.means c.args.slice.now _ _ c.deserialize.result (c.new-de.ensures ∙ ap (λ r. record { reading = r; ended = false; inherited = bare; described = false; begun = 0 }) c.new.ensures) c.deserialize.ensures.ok

pub returns-clause-only : goal.returns-clause-only
returns-clause-only g c = all_read g.T.Typed.meaning.takes g.T.Typed.meaning.means g.T.Typed.meaning.grows c.args.slice.now _ _ c.deserialize.result (c.new-de.ensures ∙ ap (λ r. record { reading = r; ended = false; inherited = bare; described = false; begun = 0 }) c.new.ensures) c.deserialize.ensures.ok c.deserialize.ensures.err

pub returns-clause-memory : goal.returns-clause-memory
returns-clause-memory g c = wants_memory g.T.Typed.meaning.takes _ _ g.T.Typed.meaning.grows c.deserialize.result c.deserialize.ensures.err

pub returns-clause-named : goal.returns-clause-named
returns-clause-named g c = named_from g.T.Typed.meaning c.args.slice.now _ _ c.deserialize.result (c.new-de.ensures ∙ ap (λ r. record { reading = r; ended = false; inherited = bare; described = false; begun = 0 }) c.new.ensures) c.deserialize.ensures.named
