use Rattle.std.proofs.Common.{◌-◌, refl, inl, arith}
use Rattle.amqp_read.proofs.Streams.{none_passed, passes_then, refused_behind, refused_at_once, short_behind}
use Rattle.amqp_read.proofs.io_reader.IoReaderRead.skip.Goals as goal

pub bytes-init : goal.bytes-init
bytes-init g c = record { within = omega arith; passed = none_passed _ _ (omega arith) }

pub bytes-preserved : goal.bytes-preserved
bytes-preserved g c =
    let within = c.bytes.invariant.within in let few = c.in-Ok.ensures.few in
    record { within = omega arith; passed = passes_then c.bytes.invariant.passed c.in-Ok.ensures.ok (omega arith) }

pub returns-in-Ok-eq0-clause-why : goal.returns-in-Ok-eq0-clause-why
returns-in-Ok-eq0-clause-why g c =
    let within = c.bytes.invariant.within in let more = c.bytes-test.true in
    inl (refl, short_behind (c.args.n - c.bytes.left) 1 c.args.n _ _ c.bytes.invariant.passed (c.in-Ok-eq0.ensures.short c.in-Ok-eq0.field-0-test) (omega arith))

pub returns-in-Err-clause-err : goal.returns-in-Err-clause-err
returns-in-Err-clause-err g c = refused_behind (c.args.n - c.bytes.left) c.args.n c.bytes.invariant.passed (omega arith) c.in-Err.ensures.err c.in-Err.ensures.received

pub returns-then-n-self-clause-err : goal.returns-then-n-self-clause-err
returns-then-n-self-clause-err g c = refused_at_once _ _
