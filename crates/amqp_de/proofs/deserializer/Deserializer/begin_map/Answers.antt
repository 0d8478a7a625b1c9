use Rattle.std.proofs.Common.{rules, arith, ◌≡◌, false, None}
use Rattle.amqp_base.specs.Wire.{bare}
use Rattle.amqp_data.specs.Parts.{HasPairs}
use Rattle.amqp_base.specs.Parse.{map_data}
use Rattle.amqp_data.proofs.MapHeaders.{map_parses}
use Rattle.amqp_de.proofs.Opening.{map_plain, opens, opens_no_item, opens_no_data}
use Rattle.amqp_de.proofs.deserializer.Deserializer.begin_map.Goals as goal

pub returns-in-Ok-map_count-clause-ok : goal.returns-in-Ok-map_count-clause-ok
returns-in-Ok-map_count-clause-ok g c =
    let a : c.args.self.now.ended ≡ false = search rules in
    let b = rw (← c.self-2.view_is) at c.in-Ok.ensures.ok in
    rw (c.replace.ensures.after, c.replace.ensures.value) (opens HasPairs map_plain c.args.self.now _ (g.R.Read.reading c.map_count.new.reader) c.in-Ok.code bare _ c.in-Ok-map_count.left None (omega arith) a b c.in-Ok-map_count.ensures.ok)

pub returns-in-Err-map_count-clause-err : goal.returns-in-Err-map_count-clause-err
returns-in-Err-map_count-clause-err g c =
    let a : c.args.self.now.ended ≡ false = search rules in
    let b = rw (← c.self-2.view_is) at c.in-Ok.ensures.ok in
    opens_no_data HasPairs map_plain map_data map_parses g.R.Read.buffers c.args.self.now _ (g.R.Read.reading c.map_count.new.reader) c.in-Ok.code c.in-Err-map_count.e a b c.in-Err-map_count.ensures.err

pub returns-in-Err-clause-err : goal.returns-in-Err-clause-err
returns-in-Err-clause-err g c =
    let a : c.args.self.now.ended ≡ false = search rules in
    opens_no_item HasPairs map_plain map_data g.R.Read.buffers _ _ _ a c.in-Err.ensures.err
