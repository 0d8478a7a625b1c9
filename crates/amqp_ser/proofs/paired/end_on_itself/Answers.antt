use Rattle.std.proofs.Common.{ℕ, List, true, refl}
use Rattle.std.proofs.lemmas.Result.{on_ok_weaker, IfErr-weaker}
use Rattle.amqp_base.specs.Item.{Item}
use Rattle.amqp_base.specs.declared.shape.Shape.{Shape}
use Rattle.amqp_ser.specs.State.{State}
use Rattle.amqp_ser.specs.Variants.{OnItself}
use Rattle.amqp_ser.proofs.Pairs.{itself_more, itself_refused}
use Rattle.amqp_ser.proofs.paired.end_on_itself.Goals as goal

pub returns-in-Ok-clause-whole : goal.returns-in-Ok-clause-whole
returns-in-Ok-clause-whole g c =
    let more = λ (s : State) (index : ℕ) (len : ℕ) (xs : List Item) (h : OnItself s index len xs c.args.ser.now.state c.args.pair c.args.fields).
    let w = c.in-Ok.ensures.ok _ (Shape.Tuple len) xs h.fields refl in
    itself_more s index len xs _ c.args.pair c.args.fields w.0 _ c.requires.direct h w.1 w.2
    in
    record {
      ok = on_ok_weaker c.close.result (λ k s index len xs h. k s Shape.Map _ (more s index len xs h) refl) (c.close.ensures.ok true);
      err = IfErr-weaker c.close.result _ _ (λ e k s index len xs h n. k s Shape.Map _ (more s index len xs h) refl) (c.close.ensures.err true);
    }

pub returns-in-Err-clause-whole : goal.returns-in-Err-clause-whole
returns-in-Err-clause-whole g c = record {
  ok = tt;
  err = λ s index len xs h n.
      let w = c.in-Err.ensures.err _ (Shape.Tuple len) xs h.fields refl in
      itself_refused s index len xs h.was c.args.pair w.0 _ _ c.requires.direct h.pair w.1 w.2;
}
