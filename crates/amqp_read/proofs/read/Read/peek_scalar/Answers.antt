use Rattle.std.proofs.Common.{rules}
use Rattle.amqp_read.proofs.Measured.{unseen_byte, measures_fixed, measures_8, measures_32, unseen_8, unseen_32}
use Rattle.amqp_read.proofs.read.Read.peek_scalar.Goals as goal

pub returns-in-Ok-Fixed-clause-ok : goal.returns-in-Ok-Fixed-clause-ok
returns-in-Ok-Fixed-clause-ok g c = measures_fixed (rw c.in-Ok-Fixed.field-0-is at c.in-Ok-Fixed.ensures) c.in-Ok.ensures.ok

pub returns-in-Ok-peek_byte-clause-ok : goal.returns-in-Ok-peek_byte-clause-ok
returns-in-Ok-peek_byte-clause-ok g c = measures_8 (rw c.in-Ok-Size8.field-0-is at c.in-Ok-Size8.ensures) (search rules) c.in-Ok.ensures.ok c.in-Ok.ensures.looked.stays c.in-Ok-peek_byte.ensures.looked.stays c.in-Ok-peek_byte.ensures.ok

pub returns-in-Err-peek_byte-clause-why : goal.returns-in-Err-peek_byte-clause-why
returns-in-Err-peek_byte-clause-why g c = unseen_8 g.Self.Read.buffers (g.Self.Read.reading c.peek_byte-in-Ok-Size8.new.self) c.in-Err-peek_byte.e (rw c.in-Ok-Size8.field-0-is at c.in-Ok-Size8.ensures) c.in-Ok.ensures.ok c.in-Ok.ensures.looked.stays c.in-Err-peek_byte.ensures.why

pub returns-in-Ok-peek_size-clause-ok : goal.returns-in-Ok-peek_size-clause-ok
returns-in-Ok-peek_size-clause-ok g c = measures_32 (rw c.in-Ok-Size32.field-0-is at c.in-Ok-Size32.ensures) (search rules) c.in-Ok.ensures.ok c.in-Ok.ensures.looked.stays c.in-Ok-peek_size.ensures.looked.stays c.in-Ok-peek_size.ensures.ok

pub returns-in-Err-peek_size-clause-why : goal.returns-in-Err-peek_size-clause-why
returns-in-Err-peek_size-clause-why g c = unseen_32 g.Self.Read.buffers (g.Self.Read.reading c.peek_size.new.self) c.in-Err-peek_size.e (rw c.in-Ok-Size32.field-0-is at c.in-Ok-Size32.ensures) c.in-Ok.ensures.ok c.in-Ok.ensures.looked.stays c.in-Err-peek_size.ensures.why

pub returns-in-Err-clause-why : goal.returns-in-Err-clause-why
returns-in-Err-clause-why g c = unseen_byte g.Self.Read.buffers c.args.from (g.Self.Read.reading c.args.self.now) (g.Self.Read.reading c.peek_byte.new.self) c.in-Err.e c.in-Err.ensures.why
