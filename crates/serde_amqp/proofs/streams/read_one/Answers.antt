use Rattle.std.proofs.Common.{rules, false, ap, subst, ◌∙◌, ◌≡◌}
use Rattle.amqp_base.specs.Wire.{bare}
use Rattle.amqp_read.specs.Reading.{Reading}
use Rattle.serde_amqp.specs.Streams.{Given, given}
use Rattle.serde_amqp.proofs.OverSource.{over, found_of, all_of, names_of, leaves_of}
use Rattle.serde_amqp.proofs.streams.read_one.Goals as goal

pub returns : goal.returns
returns g c =
    let m = g.T.Typed.meaning in
    let r = c.deserialize-result in
    let before : Given = given g.S.Read g.S.FaultCount g.S.Source.is_honest c.args.source in
    let after : Given = given g.S.Read g.S.FaultCount g.S.Source.is_honest c.into_inner.result in
    let begins = c.new-de.ensures ∙ ap (λ r. record { reading = r; ended = false; inherited = bare; described = false; begun = 0 }) c.new.ensures.reading in
    let stands = subst (λ (z : Reading). over (g.S.Source.origin c.into_inner.result) z.received z.taken after ≡ z) c.into_reader.ensures c.into_inner.ensures in
    record {
      found = found_of m before after _ _ r.result begins stands r.ensures.ok;
      only = all_of m before after _ _ r.result begins stands r.ensures.ok r.ensures.err;
      named = names_of m before after _ _ r.result begins stands r.ensures.err r.ensures.named;
      left = leaves_of m before after _ _ r.result begins stands r.ensures.ok r.ensures.err;
      origin = search rules;
    }
