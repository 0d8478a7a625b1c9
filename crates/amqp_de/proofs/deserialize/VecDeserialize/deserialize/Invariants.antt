use Rattle.std.proofs.Common.{◌≡◌}
use Rattle.amqp_de.specs.Access.{Listing}
use Rattle.amqp_de.specs.Ahead.{Ahead}
use Rattle.amqp_de.specs.Openings.{OpensEither}
use Rattle.amqp_de.specs.Seq.{listing}
use Rattle.amqp_de.proofs.NamedElements.{Reach}
use Rattle.amqp_de.proofs.Sequence.{Sofar}
use Rattle.amqp_de.proofs.deserialize.VecDeserialize.deserialize.Given as goal

-- `now` is the access as if nothing had been received ahead
abbrev pub invariant-items : goal.invariant-items
invariant-items g l = record {
  same : l.access.de.ghost_name ≡ l.initial.access.de.ghost_name;
  from : Listing;
  now : Listing;
  opened : OpensEither l.fn.de from;
  ahead : Ahead g.T.Typed.meaning.takes now (listing l.access);
  sofar : Sofar g.T.Typed.meaning.takes g.T.Typed.meaning.means from now l.items.items;
  reaches : Reach g.T.Typed.meaning.takes g.T.Typed.meaning.refuses from now;
}

abbrev pub decreases-items : goal.decreases-items
decreases-items g l = l.access.inner.left
