use Rattle.std.proofs.Common.{rules}
use Rattle.std.proofs.lemmas.Result.{on_ok_weaker, IfErr-weaker}
use Rattle.amqp_ser.proofs.Pairs.{in_buffer, on_itself}
use Rattle.amqp_ser.proofs.paired.end_paired.Goals as goal

pub returns-in-Buffered-clause-whole : goal.returns-in-Buffered-clause-whole
returns-in-Buffered-clause-whole g c = record {
  ok = on_ok_weaker c.end_in_buffer.result (λ k s index len xs h. k s index len xs (in_buffer c.args.of.pair.opened c.in-Buffered.is h)) c.end_in_buffer.ensures.whole.ok;
  err = IfErr-weaker c.end_in_buffer.result _ _ (λ e k s index len xs h n. k s index len xs (in_buffer c.args.of.pair.opened c.in-Buffered.is h) n) c.end_in_buffer.ensures.whole.err;
}

pub returns-in_default : goal.returns-in_default
returns-in_default g c = record {
  whole = record {
    ok = on_ok_weaker c.end_on_itself.result (λ k s index len xs h. k s index len xs (on_itself c.args.of.pair.opened c.in_default.not-Buffered h)) c.end_on_itself.ensures.whole.ok;
    err = IfErr-weaker c.end_on_itself.result _ _ (λ e k s index len xs h n. k s index len xs (on_itself c.args.of.pair.opened c.in_default.not-Buffered h) n) c.end_on_itself.ensures.whole.err;
  };
  lacking = (search rules);
  kept = c.end_on_itself.ensures.kept;
  ended = (search rules);
}
