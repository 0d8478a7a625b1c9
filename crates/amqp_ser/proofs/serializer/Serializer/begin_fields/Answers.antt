use Rattle.std.proofs.Common.{true, false, refl, [], ◌∷◌}
use Rattle.amqp_base.specs.declared.shape.Shape.{Shape}
use Rattle.amqp_base.specs.Item.{scalar, uint}
use Rattle.amqp_base.specs.Shapes.{whole}
use Rattle.amqp_write.proofs.Steps.{kept_two}
use Rattle.amqp_ser.proofs.Pairs.{buffer_refused, itself_refused, from_buffer, from_itself}
use Rattle.amqp_ser.proofs.Stages.{parts_keep}
use Rattle.amqp_ser.proofs.serializer.Serializer.begin_fields.Goals as goal

pub returns-in-Ok-begin-clause-ok : goal.returns-in-Ok-begin-clause-ok
returns-in-Ok-begin-clause-ok g c = λ s h. from_buffer c.write_part.new.parts.opened c.in-Buffered.is
    (record { had = c.write_part.new.parts.buffer; pair = c.in-Ok.ensures.ok true s Shape.Map [] h; fields = c.in-Ok-begin.ensures.ok })

pub returns-in-Ok-begin-clause-kept : goal.returns-in-Ok-begin-clause-kept
returns-in-Ok-begin-clause-kept g c = parts_keep c.args.pair c.write_part.new.parts _ _ (c.in-Ok.ensures.kept false)

pub returns-in-Err-begin-clause-err : goal.returns-in-Err-begin-clause-err
returns-in-Err-begin-clause-err g c = λ s xs h.
    buffer_refused s c.args.index c.args.len xs _ c.write_part.new.parts c.write_part.new.parts.buffer _ _ c.in-Buffered.is (c.in-Ok.ensures.ok true s Shape.Map [] h) c.has_no_fault.ensures (c.in-Err-begin.ensures.err.law xs)

pub returns-in-Err-begin-clause-kept : goal.returns-in-Err-begin-clause-kept
returns-in-Err-begin-clause-kept g c = parts_keep c.args.pair c.write_part.new.parts _ _ (c.in-Ok.ensures.kept false)

pub returns-in-Ok-begin_value : goal.returns-in-Ok-begin_value
returns-in-Ok-begin_value g c = record {
  ok = λ s h. from_itself c.write_part.new.parts.opened c.in_default.not-Buffered
      (record { was = c.write_part.new.ser.state; pair = c.in-Ok.ensures.ok true s Shape.Map [] h; fields = c.in-Ok-begin_value.ensures.ok });
  err = tt;
  kept = record {
    kept = kept_two _ _ _ (parts_keep c.args.pair c.write_part.new.parts _ _ (c.in-Ok.ensures.kept false)).kept c.in-Ok-begin_value.ensures.kept;
    held = λ _. c.in-Ok-begin_value.ensures.held;
  };
}

pub returns-in-Err-begin_value : goal.returns-in-Err-begin_value
returns-in-Err-begin_value g c = record {
  ok = tt;
  err = λ s xs h.
      let w = c.in-Err-begin_value.ensures.err xs in
      itself_refused s c.args.index c.args.len xs _ c.write_part.new.parts w.0 _ _ c.in_default.not-Buffered (c.in-Ok.ensures.ok true s Shape.Map [] h) w.1 w.2;
  kept = record {
    kept = kept_two _ _ _ (parts_keep c.args.pair c.write_part.new.parts _ _ (c.in-Ok.ensures.kept false)).kept c.in-Err-begin_value.ensures.kept;
    held = λ _. c.in-Err-begin_value.ensures.held;
  };
}

pub returns-in-Err-clause-err : goal.returns-in-Err-clause-err
returns-in-Err-clause-err g c = λ s xs h.
    c.in-Err.ensures.err true s Shape.Map [] (scalar (uint c.args.index) ∷ whole (Shape.Tuple c.args.len) xs ∷ []) h (refl, tt) refl

pub returns-in-Err-clause-kept : goal.returns-in-Err-clause-kept
returns-in-Err-clause-kept g c = parts_keep c.args.pair c.write_part.new.parts _ _ (c.in-Err.ensures.kept false)
