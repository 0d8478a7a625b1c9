use Rattle.amqp_read.proofs.Measured.{plain_values, stays_looked, unseen_plains, unseen_first, unseen_descriptor, unseen_behind, described_value, sees_later, measures_before, measures_later, stays_then}
use Rattle.amqp_read.proofs.read.Read.peek_value.Goals as goal

pub returns-in-Ok-clause-ok : goal.returns-in-Ok-clause-ok
returns-in-Ok-clause-ok g c =
    plain_values (g.Self.Read.reading c.peek_scalar.new.self) c.peek_scalar.result c.in-Ok.field-0-test.1 c.in-Ok.ensures.ok c.in-Ok.ensures.looked.stays (stays_looked 0 (g.Self.Read.reading c.peek_byte.new.self) (g.Self.Read.reading c.peek_scalar.new.self) c.peek_scalar.result c.peek_scalar.ensures.looked) c.peek_scalar.ensures.ok

pub returns-in-Ok-clause-why : goal.returns-in-Ok-clause-why
returns-in-Ok-clause-why g c =
    unseen_plains g.Self.Read.buffers (g.Self.Read.reading c.peek_scalar.new.self) c.peek_scalar.result c.in-Ok.field-0-test.1 c.in-Ok.ensures.ok c.in-Ok.ensures.looked.stays c.peek_scalar.ensures.why

pub returns-in-Err-clause-why : goal.returns-in-Err-clause-why
returns-in-Err-clause-why g c = unseen_first g.Self.Read.buffers (g.Self.Read.reading c.args.self.now) (g.Self.Read.reading c.peek_byte.new.self) c.in-Err.e c.in-Err.ensures.why

pub returns-in-Err-peek_scalar-clause-why : goal.returns-in-Err-peek_scalar-clause-why
returns-in-Err-peek_scalar-clause-why g c =
    unseen_descriptor g.Self.Read.buffers (g.Self.Read.reading c.peek_scalar-2.new.self) c.in-Err-peek_scalar.e (rw c.in-Ok-eq0.field-0-test at c.in-Ok-eq0.ensures.ok) c.in-Ok-eq0.ensures.looked.stays c.in-Err-peek_scalar.ensures.why

pub returns-in-Ok-peek_scalar-2-clause-ok : goal.returns-in-Ok-peek_scalar-2-clause-ok
returns-in-Ok-peek_scalar-2-clause-ok g c =
    let first = c.in-Ok-eq0.ensures.looked.stays in
    let second = c.in-Ok-peek_scalar.ensures.looked.stays in
    let third = c.in-Ok-peek_scalar-2.ensures.looked.stays in
    described_value
    (sees_later (sees_later (rw c.in-Ok-eq0.field-0-test at c.in-Ok-eq0.ensures.ok) second) third)
    (measures_later (measures_before first c.in-Ok-peek_scalar.ensures.ok) third)
    (measures_before first (measures_before second c.in-Ok-peek_scalar-2.ensures.ok))

pub returns-in-Err-peek_scalar-2-clause-why : goal.returns-in-Err-peek_scalar-2-clause-why
returns-in-Err-peek_scalar-2-clause-why g c =
    let first = c.in-Ok-eq0.ensures.looked.stays in
    let second = c.in-Ok-peek_scalar.ensures.looked.stays in
    unseen_behind g.Self.Read.buffers (g.Self.Read.reading c.peek_scalar-3.new.self) c.in-Err-peek_scalar-2.e
    (sees_later (rw c.in-Ok-eq0.field-0-test at c.in-Ok-eq0.ensures.ok) second)
    (measures_before first c.in-Ok-peek_scalar.ensures.ok)
    (stays_then first second)
    c.in-Err-peek_scalar-2.ensures.why
