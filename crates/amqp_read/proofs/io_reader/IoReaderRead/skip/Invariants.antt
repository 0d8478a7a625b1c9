use Rattle.std.proofs.Common.{◌-◌, ◌≤◌}
use Rattle.amqp_read.specs.Steps.{Passes}
use Rattle.amqp_read.proofs.io_reader.IoReaderRead.skip.Given as goal

abbrev pub invariant-bytes : goal.invariant-bytes
invariant-bytes g l = record {
  within : l.left ≤ l.n;
  passed : Passes (l.n - l.left) l.fn.self.reading l.self.reading;
}

abbrev pub decreases-bytes : goal.decreases-bytes
decreases-bytes g l = l.left
