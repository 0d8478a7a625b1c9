use Rattle.amqp_de.proofs.VariantsRead.{found_alone, found_in_map, found_in_list, missed_alone, missed_in_map, missed_in_list, missed_behind, named_alone, named_in_map, named_in_list, named_behind_none, missed_item, named_item}
use Rattle.amqp_de.proofs.deserializer.Deserializer.deserialize_variants.Goals as goal

-- a map
pub returns-in-Ok-read_in_map-clause-ok : goal.returns-in-Ok-read_in_map-clause-ok
returns-in-Ok-read_in_map-clause-ok g c = found_in_map (g.S.Variants.variants c.args.variants) g.R.Read.buffers _ _ _ c.in-Ok.code c.in-Ok.ensures.ok _ c.in-Ok-read_in_map.ensures.ok

pub returns-then-is_map-clause-err : goal.returns-then-is_map-clause-err
returns-then-is_map-clause-err g c = missed_in_map (g.S.Variants.variants c.args.variants) g.R.Read.buffers _ _ _ c.in-Ok.code c.in-Ok.ensures.ok _ (c.is_map.ensures.yes c.if-is_map.true) c.in-Err-read_in_map.ensures.err

pub returns-then-is_map-clause-named : goal.returns-then-is_map-clause-named
returns-then-is_map-clause-named g c = named_in_map (g.S.Variants.variants c.args.variants) g.R.Read.buffers _ _ _ c.in-Ok.code c.in-Ok.ensures.ok _ (c.is_map.ensures.yes c.if-is_map.true) c.in-Err-read_in_map.ensures.named

-- a list
pub returns-in-Ok-read_in_list-clause-ok : goal.returns-in-Ok-read_in_list-clause-ok
returns-in-Ok-read_in_list-clause-ok g c = found_in_list (g.S.Variants.variants c.args.variants) g.R.Read.buffers _ _ _ c.in-Ok.code c.in-Ok.ensures.ok _ c.in-Ok-read_in_list.ensures.ok

pub returns-then-is_list-clause-err : goal.returns-then-is_list-clause-err
returns-then-is_list-clause-err g c = missed_in_list (g.S.Variants.variants c.args.variants) g.R.Read.buffers _ _ _ c.in-Ok.code c.in-Ok.ensures.ok _ (c.is_list.ensures.yes c.if-is_list.true) c.in-Err-read_in_list.ensures.err

pub returns-then-is_list-clause-named : goal.returns-then-is_list-clause-named
returns-then-is_list-clause-named g c = named_in_list (g.S.Variants.variants c.args.variants) g.R.Read.buffers _ _ _ c.in-Ok.code c.in-Ok.ensures.ok _ (c.is_list.ensures.yes c.if-is_list.true) c.in-Err-read_in_list.ensures.named

-- a described item
pub returns-then-is_described-clause-err : goal.returns-then-is_described-clause-err
returns-then-is_described-clause-err g c =
    missed_behind (g.S.Variants.variants c.args.variants) g.R.Read.buffers _ _ _ c.in-Ok.code c.in-Ok.ensures.ok _ (c.is_described.ensures.yes c.if-is_described.true) c.in-Err-deserialize_described_enum.ensures.err

pub returns-then-is_described-clause-named : goal.returns-then-is_described-clause-named
returns-then-is_described-clause-named g c =
    named_behind_none (g.S.Variants.variants c.args.variants) g.R.Read.buffers _ _ _ c.in-Ok.code c.in-Ok.ensures.ok _ (c.is_described.ensures.yes c.if-is_described.true) c.in-Err-deserialize_described_enum.ensures.named

-- another item
pub returns-in-Ok-read_alone-clause-ok : goal.returns-in-Ok-read_alone-clause-ok
returns-in-Ok-read_alone-clause-ok g c = found_alone (g.S.Variants.variants c.args.variants) g.R.Read.buffers _ _ _ c.in-Ok.code c.in-Ok.ensures.ok _ c.in-Ok-read_alone.ensures.ok

pub returns-in-Ok-clause-err : goal.returns-in-Ok-clause-err
returns-in-Ok-clause-err g c =
    missed_alone (g.S.Variants.variants c.args.variants) g.R.Read.buffers _ _ _ c.in-Ok.code c.in-Ok.ensures.ok _ (c.is_map.ensures.no c.if-is_map.false) (c.is_list.ensures.no c.if-is_list.false) c.in-Err-read_alone.ensures.err

pub returns-in-Ok-clause-named : goal.returns-in-Ok-clause-named
returns-in-Ok-clause-named g c =
    named_alone (g.S.Variants.variants c.args.variants) g.R.Read.buffers _ _ _ c.in-Ok.code c.in-Ok.ensures.ok _ (c.is_map.ensures.no c.if-is_map.false) (c.is_list.ensures.no c.if-is_list.false) (c.is_described.ensures.no c.if-is_described.false) c.in-Err-read_alone.ensures.named

-- no code
pub returns-clause-err : goal.returns-clause-err
returns-clause-err g c = missed_item (g.S.Variants.variants c.args.variants) g.R.Read.buffers _ _ _ c.in-Err.ensures.err

pub returns-clause-named : goal.returns-clause-named
returns-clause-named g c = named_item (g.S.Variants.variants c.args.variants) g.R.Read.buffers _ _ _ c.in-Err.ensures.err
