use Rattle.std.proofs.Common.{rules, arith, refl, ◌≡◌, false, None}
use Rattle.amqp_base.specs.Wire.{bare}
use Rattle.amqp_de.proofs.Opening.{list_plain, opens, opens_no_item, opens_no_data}
use Rattle.amqp_data.specs.Parts.{HasParts}
use Rattle.amqp_base.specs.Parse.{list_data}
use Rattle.amqp_data.proofs.Headers.{list_parses}
use Rattle.amqp_de.proofs.deserializer.Deserializer.open_list.Goals as goal

pub returns-in-Ok-list_count-clause-ok : goal.returns-in-Ok-list_count-clause-ok
returns-in-Ok-list_count-clause-ok g c =
    let a : c.args.self.now.ended ≡ false = search rules in
    let b = rw (← c.self-2.view_is) at c.in-Ok.ensures.ok in
    rw (c.replace.ensures.after, c.replace.ensures.value) (opens HasParts list_plain c.args.self.now _ (g.R.Read.reading c.list_count.new.reader) c.in-Ok.code bare _ c.in-Ok-list_count.left None (omega arith) a b c.in-Ok-list_count.ensures.ok)

pub returns-in-Err-list_count-clause-err : goal.returns-in-Err-list_count-clause-err
returns-in-Err-list_count-clause-err g c =
    let a : c.args.self.now.ended ≡ false = search rules in
    let b = rw (← c.self-2.view_is) at c.in-Ok.ensures.ok in
    opens_no_data HasParts list_plain list_data list_parses g.R.Read.buffers c.args.self.now _ (g.R.Read.reading c.list_count.new.reader) c.in-Ok.code c.in-Err-list_count.e a b c.in-Err-list_count.ensures.err

pub returns-in-Err-clause-err : goal.returns-in-Err-clause-err
returns-in-Err-clause-err g c =
    let a : c.args.self.now.ended ≡ false = search rules in
    opens_no_item HasParts list_plain list_data g.R.Read.buffers _ _ _ a c.in-Err.ensures.err

pub returns-in-Ok-list_count-clause-plain : goal.returns-in-Ok-list_count-clause-plain
returns-in-Ok-list_count-clause-plain g c = rw c.replace.ensures.after (record { inherited = refl; limit = refl })
