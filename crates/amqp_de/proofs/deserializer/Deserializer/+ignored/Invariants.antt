use Rattle.std.proofs.Common.{◌≡◌, ◌+◌, ◌*◌, false}
use Rattle.amqp_de.specs.Ignored.{nested, Passed}
use Rattle.amqp_de.specs.Seq.{at_open}
use Rattle.amqp_de.proofs.deserializer.Deserializer.+ignored.Given as goal

abbrev pub decreases-pass_over : goal.decreases-pass_over
decreases-pass_over g l = 5 * l.depth

abbrev pub decreases-pass_part : goal.decreases-pass_part
decreases-pass_part g l = 5 * l.depth + 1

abbrev pub decreases-pass_parts : goal.decreases-pass_parts
decreases-pass_parts g l = 5 * l.depth + 2

abbrev pub decreases-pass_described : goal.decreases-pass_described
decreases-pass_described g l = 5 * l.depth + 3

abbrev pub decreases-pass_elements : goal.decreases-pass_elements
decreases-pass_elements g l = 5 * l.depth + 3

abbrev pub decreases-pass_entries : goal.decreases-pass_entries
decreases-pass_entries g l = 5 * l.depth + 3

abbrev pub decreases-pass_inside : goal.decreases-pass_inside
decreases-pass_inside g l = 5 * l.depth + 4

abbrev pub invariant-pass_parts-parts : goal.invariant-pass_parts-parts
invariant-pass_parts-parts g l = record {
  passed : Passed (nested l.depth) (at_open l.initial.self l.initial.inner) (at_open l.self l.inner);
  not_ended : l.self.ended ≡ false;
}

abbrev pub decreases-pass_parts-parts : goal.decreases-pass_parts-parts
decreases-pass_parts-parts g l = l.inner.left
