use Rattle.own_types.proofs.selector.SelectorSerialize.serialize.Goals as goal

pub returns-in-Ok-serialize_described-clause-ok : goal.returns-in-Ok-serialize_described-clause-ok
returns-in-Ok-serialize_described-clause-ok g c = rw c.in-Ok.ensures.ok at c.in-Ok-serialize_described.ensures.ok

pub returns-in-Ok-clause-err : goal.returns-in-Ok-clause-err
returns-in-Ok-clause-err g c = rw c.in-Ok.ensures.ok at c.in-Err-serialize_described.ensures.err
