use Rattle.amqp_read.proofs.Measured.{sees_four}
use Rattle.amqp_read.proofs.read.Read.peek_size.Goals as goal

pub returns-clause-ok : goal.returns-clause-ok
returns-clause-ok g c =
    sees_four c.in_ok-a.ensures.looked.stays c.in_ok-b.ensures.looked.stays c.in_ok-c.ensures.looked.stays c.in_ok-d.ensures.looked.stays
    c.in_ok-a.ensures.ok c.in_ok-b.ensures.ok c.in_ok-c.ensures.ok c.in_ok-d.ensures.ok c.from_be_bytes.ensures
