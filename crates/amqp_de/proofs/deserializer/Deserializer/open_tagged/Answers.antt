use Rattle.amqp_types.specs.Descriptors.{descriptor_of}
use Rattle.amqp_de.specs.Identifies.{identifier_of}
use Rattle.amqp_de.specs.VariantsRead.{payload_of}
use Rattle.amqp_de.proofs.FormsOpened.{answered}
use Rattle.amqp_de.proofs.VariantsTold.{key_told, key_untold, descriptor_told, descriptor_untold, list_told, list_untold, map_told, map_untold, other_untold, tagged_unlooked}
use Rattle.amqp_de.proofs.deserializer.Deserializer.open_tagged.Goals as goal

pub returns-in-Ok-read_key-clause-ok : goal.returns-in-Ok-read_key-clause-ok
returns-in-Ok-read_key-clause-ok g c =
    let n = c.in-Ok.ensures in
    let k = c.in-Ok-read_key.ensures in
    key_told _ _ c.in-Ok.code n.ok (answered _ _ n.stops) (identifier_of c.named_by.result) c.in-Ok-read_key.key g.R.Read.buffers _ c.in-Key.ensures c.named_by.ensures k.ok k.exact

pub returns-in-Err-read_key-clause-err : goal.returns-in-Err-read_key-clause-err
returns-in-Err-read_key-clause-err g c =
    let n = c.in-Ok.ensures in
    let k = c.in-Err-read_key.ensures in
    key_untold _ _ c.in-Ok.code n.ok (answered _ _ n.stops) g.R.Read.buffers _ c.in-Err-read_key.e c.in-Key.ensures k.stops.err k.err k.exact

pub returns-in-Ok-look_descriptor-clause-ok : goal.returns-in-Ok-look_descriptor-clause-ok
returns-in-Ok-look_descriptor-clause-ok g c =
    let n = c.in-Ok.ensures in
    rw (c.itself.ensures.identifier, c.itself.ensures.payload, c.described_by.ensures) (descriptor_told (descriptor_of c.in-Ok-look_descriptor.descriptor) _ _ _ (answered _ _ n.stops) (rw c.in-Descriptor.ensures at n.ok) c.in-Ok-look_descriptor.ensures.ok)

pub returns-in-Err-look_descriptor-clause-err : goal.returns-in-Err-look_descriptor-clause-err
returns-in-Err-look_descriptor-clause-err g c =
    let n = c.in-Ok.ensures in
    descriptor_untold g.R.Read.buffers _ _ _ c.in-Err-look_descriptor.e (answered _ _ n.stops) (rw c.in-Descriptor.ensures at n.ok) c.in-Err-look_descriptor.ensures.err

pub returns-in-Ok-open_list_pair-clause-ok : goal.returns-in-Ok-open_list_pair-clause-ok
returns-in-Ok-open_list_pair-clause-ok g c =
    let n = c.in-Ok.ensures in
    let o = c.in-Ok-open_list_pair.opened in
    list_told _ _ c.in-Ok.code n.ok (answered _ _ n.stops) (identifier_of o.identifier) (payload_of o.payload) _ c.in-List.ensures c.in-Ok-open_list_pair.ensures.ok

pub returns-in-Err-open_list_pair-clause-err : goal.returns-in-Err-open_list_pair-clause-err
returns-in-Err-open_list_pair-clause-err g c =
    let n = c.in-Ok.ensures in
    list_untold _ _ c.in-Ok.code n.ok (answered _ _ n.stops) g.R.Read.buffers _ c.in-Err-open_list_pair.e c.in-List.ensures c.in-Err-open_list_pair.ensures.err

pub returns-in-Ok-open_map_pair-clause-ok : goal.returns-in-Ok-open_map_pair-clause-ok
returns-in-Ok-open_map_pair-clause-ok g c =
    let n = c.in-Ok.ensures in
    let o = c.in-Ok-open_map_pair.opened in
    map_told _ _ c.in-Ok.code n.ok (answered _ _ n.stops) (identifier_of o.identifier) (payload_of o.payload) _ c.in-Map.ensures c.in-Ok-open_map_pair.ensures.ok

pub returns-in-Err-open_map_pair-clause-err : goal.returns-in-Err-open_map_pair-clause-err
returns-in-Err-open_map_pair-clause-err g c =
    let n = c.in-Ok.ensures in
    map_untold _ _ c.in-Ok.code n.ok (answered _ _ n.stops) g.R.Read.buffers _ c.in-Err-open_map_pair.e c.in-Map.ensures c.in-Err-open_map_pair.ensures.err

pub returns-in-Other-clause-err : goal.returns-in-Other-clause-err
returns-in-Other-clause-err g c =
    let n = c.in-Ok.ensures in
    rw c.stop.ensures (other_untold _ _ c.in-Ok.code n.ok (answered _ _ n.stops) g.R.Read.buffers c.in-Other.ensures)

pub returns-in-Err-clause-err : goal.returns-in-Err-clause-err
returns-in-Err-clause-err g c = tagged_unlooked g.R.Read.buffers _ _ c.in-Err.e c.in-Err.ensures.stops c.in-Err.ensures.err
