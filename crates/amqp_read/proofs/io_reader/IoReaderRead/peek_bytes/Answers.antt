use Rattle.std.proofs.Common.{◌<◌, ap, subst, List, ℕ, length}
use Rattle.amqp_read.specs.Reading.{Reading}
use Rattle.amqp_read.specs.Streaming.{Streaming}
use Rattle.amqp_read.proofs.Streams.{fails_failed, front_may_come, front_shown, not_full}
use Rattle.amqp_read.proofs.io_reader.IoReaderRead.peek_bytes.Goals as goal

pub returns-in-Ok-clause-ok : goal.returns-in-Ok-clause-ok
returns-in-Ok-clause-ok g c =
    let same = ap (λ (z : Streaming). z.reading) c.self.view_is in
    let received = ap (λ (z : Reading). z.received) same in
    front_shown _ c.front.result c.args.n _ c.args.self.now.reading c.front.ensures
    (λ few. not_full c.in-Ok.field-0 c.args.n _ c.in-Ok.ensures.full c.in-Ok.ensures.short (subst (λ (z : List ℕ). length z < c.args.n) received few))
    (front_may_come _ _ _ _ _ _ _ _ same c.fill.ensures.looked.stays)

pub returns-in-Err-clause-why : goal.returns-in-Err-clause-why
returns-in-Err-clause-why g c = fails_failed c.args.self.now.reading c.fill.new.self.reading c.from.result (rw c.from.ensures c.in-Err.ensures.why)
