use Rattle.std.proofs.Common.{true, false, refl}
use Rattle.amqp_base.specs.declared.shape.Shape.{Shape}
use Rattle.amqp_ser.proofs.Pairs.{buffer_refused, itself_refused, refused_held, in_buffer, from_buffer, on_itself, from_itself, ends_in_buffer, ends_on_itself}
use Rattle.amqp_ser.proofs.Stages.{parts_keep}
use Rattle.amqp_ser.proofs.paired.write_paired.Goals as goal

pub returns-in-Ok-clause-field : goal.returns-in-Ok-clause-field
returns-in-Ok-clause-field g c = record {
  ok = λ s index len xs h.
      let k = c.args.of.now.pair.opened in
      let b = in_buffer k c.in-Buffered.is h in
      from_buffer k c.in-Buffered.is (record { had = b.had; pair = b.pair; fields = c.in-Ok.ensures.ok false _ (Shape.Tuple len) xs b.fields });
  err = tt;
}

pub returns-in-Ok-clause-stops : goal.returns-in-Ok-clause-stops
returns-in-Ok-clause-stops g c = ends_in_buffer _ c.in-Buffered.is _ _ _ _ _ (c.in-Ok.ensures.stops false)

pub returns-in-Err-clause-field : goal.returns-in-Err-clause-field
returns-in-Err-clause-field g c = record {
  ok = tt;
  err = λ s index len xs all h begins.
      let b = in_buffer c.args.of.now.pair.opened c.in-Buffered.is h in
      buffer_refused s index len all _ c.args.of.now.pair b.had _ _ c.in-Buffered.is b.pair c.has_no_fault.ensures (c.in-Err.ensures.err false _ (Shape.Tuple len) xs all b.fields begins refl);
}

pub returns-in-Err-clause-stops : goal.returns-in-Err-clause-stops
returns-in-Err-clause-stops g c = ends_in_buffer _ c.in-Buffered.is _ _ _ _ _ (c.in-Err.ensures.stops false)

pub returns-in-Ok-write_part : goal.returns-in-Ok-write_part
returns-in-Ok-write_part g c = record {
  field = record {
    ok = λ s index len xs h.
        let k = c.args.of.now.pair.opened in
        let b = on_itself k c.in_default.not-Buffered h in
        from_itself k c.in_default.not-Buffered (record { was = b.was; pair = b.pair; fields = c.in-Ok-write_part.ensures.ok false _ (Shape.Tuple len) xs b.fields });
    err = tt;
  };
  kept = parts_keep c.args.of.now.fields c.write_part-in_default.new.parts _ _ (c.in-Ok-write_part.ensures.kept false);
  stops = ends_on_itself _ c.in_default.not-Buffered _ _ _ _ _ (c.in-Ok-write_part.ensures.stops false);
}

pub returns-in-Err-write_part : goal.returns-in-Err-write_part
returns-in-Err-write_part g c = record {
  field = record {
    ok = tt;
    err = λ s index len xs all h begins.
        let b = on_itself c.args.of.now.pair.opened c.in_default.not-Buffered h in
        let t = c.write_part-in_default.new.ser.state in
        let r = c.in-Err-write_part.ensures.err false _ (Shape.Tuple len) xs all b.fields begins refl in
        refused_held s _ _ t (itself_refused s index len all b.was c.args.of.now.pair t (record t { ended = true }) _ c.in_default.not-Buffered b.pair r refl);
  };
  kept = parts_keep c.args.of.now.fields c.write_part-in_default.new.parts _ _ (c.in-Err-write_part.ensures.kept false);
  stops = ends_on_itself _ c.in_default.not-Buffered _ _ _ _ _ (c.in-Err-write_part.ensures.stops false);
}
