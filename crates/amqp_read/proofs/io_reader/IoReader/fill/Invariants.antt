use Rattle.std.proofs.Common.{◌≡◌, ◌-◌, max, length}
use Rattle.amqp_read.specs.Steps.{Looked}
use Rattle.amqp_read.proofs.io_reader.IoReader.fill.Given as goal

abbrev pub invariant-bytes : goal.invariant-bytes
invariant-bytes g l = record {
  looked : Looked l.n l.fn.self.reading l.self.reading;
  most : max l.self.buffer.most (length l.self.reading.received) ≡ max l.fn.self.buffer.most (length l.self.reading.received);
}

abbrev pub decreases-bytes : goal.decreases-bytes
decreases-bytes g l = l.n - length l.self.reading.received
