use Rattle.std.proofs.Common.{arith, refl}
use Rattle.amqp_data.specs.Places.{constructor_of}
use Rattle.amqp_data.proofs.ArrayData.{array_heads, empty_heads, not_passed, no_header, no_slack, no_elements, long_constructor}
use Rattle.amqp_data.proofs.heading.array_heading.Goals as goal

pub returns-in-Ok-skip-clause-ok : goal.returns-in-Ok-skip-clause-ok
returns-in-Ok-skip-clause-ok g c =
    empty_heads c.args.code c.args.width c.in-Ok.size c.in-Ok.count _ _ _ _ c.requires c.in-Ok.ensures.ok c.if-count-eq0.true _ (omega (arith, c.saturating_sub-room.ensures)) c.in-Ok-skip.ensures.ok refl refl refl refl refl

pub returns-in-Err-skip-clause-err : goal.returns-in-Err-skip-clause-err
returns-in-Err-skip-clause-err g c = λ custom s.
    no_slack g.R.Read.buffers custom c.args.code c.args.width c.in-Ok.size c.in-Ok.count _ _ _ _ c.requires c.in-Ok.ensures.ok c.if-count-eq0.true _ (omega (arith, c.saturating_sub-room.ensures)) (not_passed g.R.Read.buffers _ _ _ _ c.in-Err-skip.ensures.err c.in-Err-skip.ensures.why)

pub returns-else-taken-room-clause-ok : goal.returns-else-taken-room-clause-ok
returns-else-taken-room-clause-ok g c =
    array_heads c.args.code c.args.width c.in-Ok.size c.in-Ok.count _ _ _ _ c.requires c.in-Ok.ensures.ok (λ z. c.if-count-eq0.false z) (constructor_of c.in-Ok-element_constructor.stands) c.in-Ok-element_constructor.ensures.ok
    _ c.saturating_sub-room.result c.saturating_sub-taken.result c.bytes_consumed-start.ensures (omega (arith, c.saturating_sub-room.ensures)) (omega (arith, c.saturating_sub-taken.ensures, c.bytes_consumed-start.ensures, c.bytes_consumed-before.ensures)) (omega (arith, c.if-taken-room.false))
    refl refl refl refl refl

pub returns-then-taken-room-clause-err : goal.returns-then-taken-room-clause-err
returns-then-taken-room-clause-err g c = λ custom s.
    long_constructor g.R.Read.buffers custom c.args.code c.args.width c.in-Ok.size c.in-Ok.count (constructor_of c.in-Ok-element_constructor.stands) _ _ _ c.requires c.in-Ok.ensures.ok (λ z. c.if-count-eq0.false z) c.in-Ok-element_constructor.ensures.ok
    c.saturating_sub-room.result c.saturating_sub-taken.result (omega (arith, c.saturating_sub-room.ensures)) (omega (arith, c.saturating_sub-taken.ensures, c.bytes_consumed-start.ensures, c.bytes_consumed-before.ensures)) (omega (arith, c.if-taken-room.true))

pub returns-in-Err-element_constructor-clause-err : goal.returns-in-Err-element_constructor-clause-err
returns-in-Err-element_constructor-clause-err g c = λ custom s.
    no_elements g.R.Read.buffers custom c.args.code c.args.width c.in-Ok.size c.in-Ok.count _ _ _ _ c.requires c.in-Ok.ensures.ok (λ z. c.if-count-eq0.false z) (c.in-Err-element_constructor.ensures.err custom s)

pub returns-in-Err-clause-err : goal.returns-in-Err-clause-err
returns-in-Err-clause-err g c = λ custom s. no_header g.R.Read.buffers custom c.args.code c.args.width _ _ _ c.requires c.in-Err.ensures.err
