use Rattle.std.proofs.Common.{◌≡◌, suc, ◌+◌, ◌∷◌, ◌++◌, drop, ap, ◌∙◌, arith, add-one, List, ℕ}
use Rattle.std.proofs.lemmas.List.{take_rest}
use Rattle.amqp_probe.proofs.Split.{splits}
use Rattle.amqp_probe.proofs.answer.parse.Goals as goal

pub returns-in-Ok-clause-ok : goal.returns-in-Ok-clause-ok
returns-in-Ok-clause-ok c =
    let line = c.args.line.now in
    let k = c.in-Some.space in
    let s = splits 32 line k c.in-Some.ensures in
    let name = c.in-Some-kind_named.ensures in
    let next : k + 1 ≡ suc k = add-one k in
    record {
      digits = drop (k + 1) line;
      form = rw next (s.parts ∙ ap (λ (front : List ℕ). front ++ 32 ∷ drop (suc k) line) name);
      value = rw (take_rest line (k + 1)) at c.in-Ok.ensures.ok;
      short = omega arith;
    }
