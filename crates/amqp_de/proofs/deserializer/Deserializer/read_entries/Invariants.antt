use Rattle.std.proofs.Common.{◌≡◌}
use Rattle.amqp_de.specs.ReadParts.{open_list}
use Rattle.amqp_base.specs.Refusing.{turn_refusal}
use Rattle.amqp_de.proofs.NamedParts.{Reaches}
use Rattle.amqp_de.proofs.Pairs.{EntriesSoFar}
use Rattle.amqp_de.proofs.deserializer.Deserializer.read_entries.Given as goal

abbrev pub invariant-pairs : goal.invariant-pairs
invariant-pairs g l = record {
  same : l.access.de.ghost_name ≡ l.initial.access.de.ghost_name;
  sofar : EntriesSoFar g.K.Typed.meaning.means g.V.Typed.meaning.means g.M.PutsEntry.placed l.fn.self g.K.Typed.meaning.takes g.V.Typed.meaning.takes (g.M.PutsEntry.entries l.map) (open_list l.access);
  reaches : Reaches (turn_refusal g.K.Typed.meaning.takes g.K.Typed.meaning.refuses g.V.Typed.meaning.takes g.V.Typed.meaning.refuses) (turn_refusal g.K.Typed.meaning.takes g.K.Typed.meaning.refuses g.V.Typed.meaning.takes g.V.Typed.meaning.refuses) (open_list l.initial.access) (open_list l.access);
}

abbrev pub decreases-pairs : goal.decreases-pairs
decreases-pairs g l = l.access.inner.left
