use Rattle.std.proofs.Common.{refl}
use Rattle.amqp_ser.proofs.Compounds.{element_more, element_refused, element_full}
use Rattle.amqp_ser.proofs.compound.Parts.write.Goals as goal

pub returns-in-Some-clause-ok : goal.returns-in-Some-clause-ok
returns-in-Some-clause-ok g c = rw c.requires.buffered (λ pairs outer s shape xs h. element_more s shape xs (g.T.Typed.meaning.item c.args.value.now) _ _ _ c.in-Ok.ensures.ok c.turn.ensures refl refl refl refl c.in-Some.ensures.1 h)

pub returns-in-None-clause-err : goal.returns-in-None-clause-err
returns-in-None-clause-err g c = rw c.requires.buffered (λ pairs outer s shape xs all h split complete. element_full s shape xs all _ h _ refl)

pub returns-in-Err-clause-err : goal.returns-in-Err-clause-err
returns-in-Err-clause-err g c = rw c.requires.buffered (λ pairs outer s shape xs all h split complete. element_refused s shape xs all (g.T.Typed.meaning.item c.args.value.now) _ _ _ c.has_no_fault.ensures c.in-Err.ensures.err h split complete)
