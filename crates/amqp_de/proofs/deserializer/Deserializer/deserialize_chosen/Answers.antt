use Rattle.std.proofs.Common.{refl}
use Rattle.amqp_de.proofs.ChosenRead.{chosen_found, chosen_none, chosen_missed, chosen_none_named, chosen_named}
use Rattle.amqp_de.proofs.deserializer.Deserializer.deserialize_chosen.Goals as goal

pub returns-in-Some-clause-ok : goal.returns-in-Some-clause-ok
returns-in-Some-clause-ok g c = chosen_found g.T.Of.Typed.meaning g.T.Typed.meaning g.T.Chosen.content g.T.Chosen.allowed g.met.T.Chosen.chosen g.R.Read.buffers _ _ c.in-Some.chosen c.in-Ok.value (c.in-Some.ensures.some _ refl) c.in-Ok.ensures.ok

pub returns-in-None-clause-err : goal.returns-in-None-clause-err
returns-in-None-clause-err g c = chosen_none g.T.Of.Typed.meaning g.T.Typed.meaning g.T.Chosen.content g.T.Chosen.allowed g.met.T.Chosen.chosen g.R.Read.buffers _ _ c.in-Ok.value (c.in-None.ensures.none refl) c.in-Ok.ensures.ok

pub returns-in-Err-clause-err : goal.returns-in-Err-clause-err
returns-in-Err-clause-err g c = chosen_missed g.T.Of.Typed.meaning g.T.Typed.meaning g.T.Chosen.content g.T.Chosen.allowed g.met.T.Chosen.chosen g.R.Read.buffers _ _ c.in-Err.e c.in-Err.ensures.err

-- refusals by name
pub returns-in-None-clause-named : goal.returns-in-None-clause-named
returns-in-None-clause-named g c = chosen_none_named g.T.Of.Typed.meaning g.T.Typed.meaning g.T.Chosen.content g.T.Chosen.allowed g.met.T.Chosen.chosen g.R.Read.buffers _ _ c.in-Ok.value (c.in-None.ensures.none refl) c.in-Ok.ensures.ok

pub returns-in-Err-clause-named : goal.returns-in-Err-clause-named
returns-in-Err-clause-named g c = chosen_named g.T.Of.Typed.meaning g.T.Typed.meaning g.T.Chosen.content g.T.Chosen.allowed g.met.T.Chosen.chosen g.R.Read.buffers _ _ c.in-Err.e c.in-Err.ensures.named
