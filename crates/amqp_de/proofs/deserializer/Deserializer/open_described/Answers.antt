use Rattle.amqp_types.specs.Descriptors.{descriptor_of}
use Rattle.amqp_de.proofs.StructsBehind.{item_opened, none_at_all, none_behind}
use Rattle.amqp_de.proofs.deserializer.Deserializer.open_described.Goals as goal

pub open_behind-requires : goal.open_behind-requires
open_behind-requires g c = c.in-Ok.ensures.ok.alone

pub returns-in-Ok-open_behind-clause-ok : goal.returns-in-Ok-open_behind-clause-ok
returns-in-Ok-open_behind-clause-ok g c =
    let d = c.in-Ok.ensures.ok in
    let o = c.in-Ok-open_behind.ensures.ok in
    record { mid = _; describes = d; opened = o; item = item_opened c.args.encoding (descriptor_of c.in-Ok.descriptor) _ _ _ d o }

pub returns-in-Err-clause-err : goal.returns-in-Err-clause-err
returns-in-Err-clause-err g c = none_at_all c.args.encoding g.R.Read.buffers _ _ _ c.in-Err.ensures.stops.err c.in-Err.ensures.stops.if_ended c.in-Err.ensures.err

pub returns-in-Err-open_behind-clause-err : goal.returns-in-Err-open_behind-clause-err
returns-in-Err-open_behind-clause-err g c = none_behind c.args.encoding g.R.Read.buffers (descriptor_of c.in-Ok.descriptor) _ _ _ _ c.in-Ok.ensures.ok c.in-Err-open_behind.ensures.err
