use Rattle.std.proofs.Common.{rules, ap, ◌∙◌, ◌≡◌, true, false}
use Rattle.amqp_base.specs.Parse.{seq_data}
use Rattle.amqp_data.specs.Parts.{HasElements}
use Rattle.amqp_de.specs.Decoding.{Decoding}
use Rattle.amqp_data.specs.Places.{constructor_of}
use Rattle.amqp_de.proofs.ElementsOpened.{elements_plain, elements_opened}
use Rattle.amqp_data.proofs.ArrayData.{seq_parses}
use Rattle.amqp_de.proofs.Opening.{opens_no_item, opens_no_data, opens_not_more}
use Rattle.amqp_de.proofs.Sequence.{elements_unopened}
use Rattle.amqp_de.proofs.deserializer.Deserializer.open_either.Goals as goal

pub returns-then-is_array-clause-ok : goal.returns-then-is_array-clause-ok
returns-then-is_array-clause-ok g c =
    let a : c.args.self.now.ended ≡ false = search rules in
    let b = rw (← c.self-in-Ok.view_is) at c.in-Ok.ensures.ok in
    let q = c.self-in-Ok-seq_heading.view_is ∙ c.share.ensures in
    let n = ap (λ (d : Decoding). record { reading = d.reading; ended = d.ended; inherited = constructor_of c.in-Ok-seq_heading.heading.stands; described = d.described; begun = d.begun }) q in
    rw (c.replace.ensures.after, c.replace.ensures.value) (elements_opened true c.args.self.now _ _ _ c.in-Ok.code _ c.in-Ok-seq_heading.heading a b c.in-Ok-seq_heading.ensures.ok c.if-is_array.true n (ap (λ (d : Decoding). d.inherited) q))

pub returns-else-is_array-clause-ok : goal.returns-else-is_array-clause-ok
returns-else-is_array-clause-ok g c =
    let a : c.args.self.now.ended ≡ false = search rules in
    let b = rw (← c.self-in-Ok.view_is) at c.in-Ok.ensures.ok in
    let q = c.self-in-Ok-seq_heading.view_is ∙ c.share.ensures in
    let n = ap (λ (d : Decoding). record { reading = d.reading; ended = d.ended; inherited = constructor_of c.in-Ok-seq_heading.heading.stands; described = d.described; begun = d.begun }) q in
    rw (c.replace.ensures.after, c.replace.ensures.value) (elements_opened false c.args.self.now _ _ _ c.in-Ok.code _ c.in-Ok-seq_heading.heading a b c.in-Ok-seq_heading.ensures.ok c.if-is_array.false n (ap (λ (d : Decoding). d.inherited) q))

pub returns-in-Err-seq_heading-clause-err : goal.returns-in-Err-seq_heading-clause-err
returns-in-Err-seq_heading-clause-err g c = elements_unopened g.R.Read.buffers _ _ _ (λ custom s.
    let a : c.args.self.now.ended ≡ false = search rules in
    let b = rw (← c.self-in-Ok.view_is) at c.in-Ok.ensures.ok in
    opens_no_data HasElements elements_plain (seq_data custom) (seq_parses custom) g.R.Read.buffers c.args.self.now _ (g.R.Read.reading c.seq_heading.new.reader) c.in-Ok.code c.in-Err-seq_heading.e a b (c.in-Err-seq_heading.ensures.err custom s))

pub returns-in-Err-clause-err : goal.returns-in-Err-clause-err
returns-in-Err-clause-err g c = elements_unopened g.R.Read.buffers _ _ _ (λ custom s.
    let a : c.args.self.now.ended ≡ false = search rules in
    opens_not_more (seq_data custom) g.R.Read.buffers _ _ _ (opens_no_item HasElements elements_plain (seq_data custom) g.R.Read.buffers _ _ _ a c.in-Err.ensures.err))
