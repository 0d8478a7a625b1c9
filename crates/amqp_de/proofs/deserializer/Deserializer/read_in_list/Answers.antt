use Rattle.std.proofs.Common.{refl, ap, true, IsTrue}
use Rattle.amqp_base.specs.Parse.{list_data}
use Rattle.amqp_base.specs.VariantItems.{not_two, pair_refusal}
use Rattle.amqp_de.specs.Decoding.{Decoding}
use Rattle.amqp_de.specs.ReadVariants.{takes_in_list}
use Rattle.amqp_de.specs.Seq.{at_open}
use Rattle.amqp_base.specs.VariantItems.{takes_two}
use Rattle.amqp_de.proofs.NamedParts.{unopened_as}
use Rattle.amqp_de.proofs.PartsRead as read
use Rattle.amqp_de.proofs.PartsRead.{missed_more}
use Rattle.amqp_de.proofs.VariantsRead.{list_parts, list_whole, pair_found, pair_missed, others_missed, pair_named, others_named, not_device}
use Rattle.amqp_de.proofs.deserializer.Deserializer.read_in_list.Goals as goal

-- none was opened
pub returns-in-Err-clause-err : goal.returns-in-Err-clause-err
returns-in-Err-clause-err g c =
    let row = g.S.Variants.variants c.args.variants.now in
    missed_more (λ _. refl) (read.unopened (takes_in_list row.takes) (λ is. IsTrue (takes_two row.takes is)) (list_parts row) c.in-Err.ensures.err)

pub returns-in-Err-clause-named : goal.returns-in-Err-clause-named
returns-in-Err-clause-named g c =
    let row = g.S.Variants.variants c.args.variants.now in
    unopened_as list_data (pair_refusal (not_two c.args.code) row.refuses) true g.R.Read.buffers _ _ _ (λ _. refl) c.in-Err.ensures.err

-- its parts aren't two
pub returns-then-inner-ne2-clause-err : goal.returns-then-inner-ne2-clause-err
returns-then-inner-ne2-clause-err g c =
    let row = g.S.Variants.variants c.args.variants.now in
    others_missed row _ (at_open c.open_list.new.self c.in-Ok.inner) c.in-Ok.ensures.ok (takes_in_list row.takes) (list_parts row) g.R.Read.buffers _ _ (λ d. not_device c.args.code (rw c.not_two.ensures at d)) c.if-inner-ne2.true c.stop.ensures

pub returns-then-inner-ne2-clause-named : goal.returns-then-inner-ne2-clause-named
returns-then-inner-ne2-clause-named g c =
    let row = g.S.Variants.variants c.args.variants.now in
    rw c.not_two.ensures (others_named row list_data _ g.R.Read.buffers _ _ (at_open c.open_list.new.self c.in-Ok.inner) c.in-Ok.ensures.ok c.in-Ok.ensures.exact c.in-Ok.ensures.plain c.if-inner-ne2.true (ap (λ (d : Decoding). d.reading) c.stop.ensures))

-- the key and what its variant holds
pub returns-in-Ok-read_pair-clause-ok : goal.returns-in-Ok-read_pair-clause-ok
returns-in-Ok-read_pair-clause-ok g c =
    let row = g.S.Variants.variants c.args.variants.now in
    pair_found row _ (at_open c.open_list.new.self c.in-Ok.inner) c.in-Ok.ensures.ok (takes_in_list row.takes) _ c.in-Ok-read_pair.value _ (list_whole row c.in-Ok-read_pair.value) c.in-Ok-read_pair.ensures.ok

pub returns-in-Err-read_pair-clause-err : goal.returns-in-Err-read_pair-clause-err
returns-in-Err-read_pair-clause-err g c =
    let row = g.S.Variants.variants c.args.variants.now in
    pair_missed row _ (at_open c.open_list.new.self c.in-Ok.inner) c.in-Ok.ensures.ok (takes_in_list row.takes) (list_parts row) g.R.Read.buffers _ _ c.in-Err-read_pair.ensures.err

pub returns-in-Err-read_pair-clause-named : goal.returns-in-Err-read_pair-clause-named
returns-in-Err-read_pair-clause-named g c =
    let row = g.S.Variants.variants c.args.variants.now in
    pair_named row list_data (not_two c.args.code) g.R.Read.buffers _ _ (at_open c.open_list.new.self c.in-Ok.inner) c.in-Ok.ensures.ok c.in-Ok.ensures.exact c.in-Ok.ensures.plain _ c.if-inner-ne2.false c.in-Err-read_pair.ensures.err
