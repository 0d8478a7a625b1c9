use Rattle.std.proofs.Common.{false, refl}
use Rattle.amqp_ser.specs.Compound.{open_as}
use Rattle.amqp_ser.proofs.Compounds.{plain_more, plain_begins}
use Rattle.amqp_ser.proofs.compound.Compound+W+F.write_next.Goals as goal

pub returns-in-Ok-clause-law : goal.returns-in-Ok-clause-law
unfolding open_as
returns-in-Ok-clause-law g c = record {
  ok = λ s shape xs h. plain_more s shape xs (g.T.Typed.meaning.item c.args.value.now) _ _ refl h (c.in-Ok.ensures.ok false s shape xs h);
  err = tt;
  kept = c.in-Ok.ensures.kept false;
  stops = c.in-Ok.ensures.stops false;
}

pub returns-in-Err-clause-law : goal.returns-in-Err-clause-law
unfolding open_as
returns-in-Err-clause-law g c = record {
  ok = tt;
  err = λ s shape xs all h begins. c.in-Err.ensures.err false s shape xs all h (plain_begins s shape xs all (g.T.Typed.meaning.item c.args.value.now) _ refl h begins) refl;
  kept = c.in-Err.ensures.kept false;
  stops = c.in-Err.ensures.stops false;
}
