use Rattle.std.proofs.Common.{◌≡◌}
use Rattle.amqp_de.specs.ReadParts.{open_list}
use Rattle.amqp_base.specs.Refusing.{fields_refusal}
use Rattle.amqp_de.proofs.NamedParts.{Reaches}
use Rattle.amqp_de.proofs.StructRead.{StructRead}
use Rattle.amqp_de.proofs.deserializer.Deserializer.read_map.Given as goal

abbrev pub invariant-pairs : goal.invariant-pairs
invariant-pairs g l = record {
  same : l.map.de.ghost_name ≡ l.initial.map.de.ghost_name;
  sofar : StructRead l.fn.self (g.S.Fields.slots l.fn.fields) (g.S.Fields.slots l.slots) (open_list l.map);
  names : (g.S.Fields.slots l.slots).all_names ≡ (g.S.Fields.slots l.fn.fields).all_names;
  reaches : Reaches (fields_refusal (g.S.Fields.slots l.fn.fields).all_names g.S.Fields.takes g.S.Fields.refuses (g.S.Fields.slots l.fn.fields).awaited)
      (fields_refusal (g.S.Fields.slots l.fn.fields).all_names g.S.Fields.takes g.S.Fields.refuses (g.S.Fields.slots l.slots).awaited) (open_list l.initial.map) (open_list l.map);
}

abbrev pub decreases-pairs : goal.decreases-pairs
decreases-pairs g l = l.map.inner.left
