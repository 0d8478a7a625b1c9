use Rattle.std.proofs.Common.{ℕ, List, true, false, refl}
use Rattle.std.proofs.lemmas.Result.{on_ok_weaker, IfErr-weaker}
use Rattle.amqp_base.specs.Item.{Item}
use Rattle.amqp_base.specs.declared.shape.Shape.{Shape}
use Rattle.amqp_ser.specs.State.{State}
use Rattle.amqp_ser.specs.Variants.{InBuffer}
use Rattle.amqp_ser.proofs.Pairs.{buffer_more, buffer_refused}
use Rattle.amqp_ser.proofs.paired.end_in_buffer.Goals as goal

pub returns-in-Ok-clause-whole : goal.returns-in-Ok-clause-whole
returns-in-Ok-clause-whole g c =
    let more = λ (s : State) (index : ℕ) (len : ℕ) (xs : List Item) (h : InBuffer s index len xs c.args.ser.now.state c.args.pair c.args.fields). buffer_more s index len xs _ c.args.pair c.args.fields c.turn.new.self _ c.requires.buffered h (c.in-Ok.ensures.ok false _ (Shape.Tuple len) xs h.fields refl) c.turn.ensures in
    record {
      ok = on_ok_weaker c.close-in-Ok.result (λ k s index len xs h. k s Shape.Map _ (more s index len xs h) refl) (c.close-in-Ok.ensures.ok true);
      err = IfErr-weaker c.close-in-Ok.result _ _ (λ e k s index len xs h n. k s Shape.Map _ (more s index len xs h) refl) (c.close-in-Ok.ensures.err true);
    }

pub returns-in-Err-clause-whole : goal.returns-in-Err-clause-whole
returns-in-Err-clause-whole g c = record {
  ok = tt;
  err = λ s index len xs h n. buffer_refused s index len xs _ c.args.pair h.had _ _ c.requires.buffered h.pair c.has_no_fault.ensures (c.in-Err.ensures.err false _ (Shape.Tuple len) xs h.fields refl);
}
