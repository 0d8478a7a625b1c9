use Rattle.std.proofs.Common.{ap, refl, string_bytes}
use Rattle.amqp_base.specs.Codes.{Kind}
use Rattle.amqp_base.specs.Item.{string}
use Rattle.amqp_base.proofs.KindPlaces.{of_kind}
use Rattle.amqp_de.proofs.ManyRead.{leaf_at_front}
use Rattle.amqp_de.proofs.strings.string_at_front.Goals as goal

pub returns-in-Ok-clause-string : goal.returns-in-Ok-clause-string
returns-in-Ok-clause-string c =
    let bytes = c.args.bytes.now in
    let text = c.in-Ok.text in
    let from = c.new-reader.result in
    let code = rw c.in-Ok-Some.field-0-is at c.in-Ok-Some.ensures.ok in
    let element = leaf_at_front _ (string (string_bytes text)) text bytes c.in-Ok-Some.code from c.next.new.self c.read.new.reader (ap (λ r. r.to_come) c.new-reader.ensures) (ap (λ r. r.taken) c.new-reader.ensures) code c.in-Ok.ensures.ok (of_kind Kind.string (string (string_bytes text)) refl) refl in
    rw c.bytes_consumed.ensures element
