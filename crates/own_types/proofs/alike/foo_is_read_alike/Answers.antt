use Rattle.std.proofs.Common.{rules, refl}
use Rattle.own_types.proofs.alike.foo_is_read_alike.Goals as goal

pub returns : goal.returns
returns c =
    let slice = c.from_slice-of_slice in
    let source = c.from_reader-of_source in
    c.readers_agree.ensures.answers c.args.bytes.now _ _ slice.result source.result
    (record { told = refl; counted = search rules; honest = refl; no_fault = refl })
    slice.ensures.found slice.ensures.only source.ensures.found source.ensures.only
