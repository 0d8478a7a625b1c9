use Rattle.std.proofs.Common.{refl, ap, true, IsTrue}
use Rattle.amqp_base.specs.Parse.{map_data}
use Rattle.amqp_base.specs.VariantItems.{pair_refusal}
use Rattle.amqp_base.specs.declared.error.Error.TheVariants.{InvalidLength}
use Rattle.amqp_de.specs.Decoding.{Decoding}
use Rattle.amqp_de.specs.ReadVariants.{takes_in_map}
use Rattle.amqp_de.specs.Seq.{at_open}
use Rattle.amqp_base.specs.VariantItems.{takes_two}
use Rattle.amqp_de.proofs.NamedParts.{unopened_as}
use Rattle.amqp_de.proofs.PartsRead as read
use Rattle.amqp_de.proofs.PartsRead.{missed_more}
use Rattle.amqp_de.proofs.VariantsRead.{map_parts, map_whole, pair_found, pair_missed, others_missed, pair_named, others_named}
use Rattle.amqp_de.proofs.deserializer.Deserializer.read_in_map.Goals as goal

-- none was opened
pub returns-in-Err-clause-err : goal.returns-in-Err-clause-err
returns-in-Err-clause-err g c =
    let row = g.S.Variants.variants c.args.variants.now in
    missed_more (λ _. refl) (read.unopened (takes_in_map row.takes) (λ is. IsTrue (takes_two row.takes is)) (map_parts row) c.in-Err.ensures.err.not_opened)

pub returns-in-Err-clause-named : goal.returns-in-Err-clause-named
returns-in-Err-clause-named g c =
    let row = g.S.Variants.variants c.args.variants.now in
    unopened_as map_data (pair_refusal InvalidLength row.refuses) true g.R.Read.buffers _ _ _ (λ _. refl) c.in-Err.ensures.err.not_opened

-- its parts aren't two
pub returns-then-inner-ne2-clause-err : goal.returns-then-inner-ne2-clause-err
returns-then-inner-ne2-clause-err g c =
    let row = g.S.Variants.variants c.args.variants.now in
    others_missed row _ (at_open c.open_pairs.new.self c.in-Ok.inner) c.in-Ok.ensures.ok (takes_in_map row.takes) (map_parts row) g.R.Read.buffers _ _ (λ d. d) c.if-inner-ne2.true c.stop.ensures

pub returns-then-inner-ne2-clause-named : goal.returns-then-inner-ne2-clause-named
returns-then-inner-ne2-clause-named g c =
    let row = g.S.Variants.variants c.args.variants.now in
    others_named row map_data _ g.R.Read.buffers _ _ (at_open c.open_pairs.new.self c.in-Ok.inner) c.in-Ok.ensures.ok c.in-Ok.ensures.exact c.in-Ok.ensures.plain c.if-inner-ne2.true (ap (λ (d : Decoding). d.reading) c.stop.ensures)

-- the key and what its variant holds
pub returns-in-Ok-read_pair-clause-ok : goal.returns-in-Ok-read_pair-clause-ok
returns-in-Ok-read_pair-clause-ok g c =
    let row = g.S.Variants.variants c.args.variants.now in
    pair_found row _ (at_open c.open_pairs.new.self c.in-Ok.inner) c.in-Ok.ensures.ok (takes_in_map row.takes) _ c.in-Ok-read_pair.value _ (map_whole row c.in-Ok-read_pair.value) c.in-Ok-read_pair.ensures.ok

pub returns-in-Err-read_pair-clause-err : goal.returns-in-Err-read_pair-clause-err
returns-in-Err-read_pair-clause-err g c =
    let row = g.S.Variants.variants c.args.variants.now in
    pair_missed row _ (at_open c.open_pairs.new.self c.in-Ok.inner) c.in-Ok.ensures.ok (takes_in_map row.takes) (map_parts row) g.R.Read.buffers _ _ c.in-Err-read_pair.ensures.err

pub returns-in-Err-read_pair-clause-named : goal.returns-in-Err-read_pair-clause-named
returns-in-Err-read_pair-clause-named g c =
    let row = g.S.Variants.variants c.args.variants.now in
    pair_named row map_data InvalidLength g.R.Read.buffers _ _ (at_open c.open_pairs.new.self c.in-Ok.inner) c.in-Ok.ensures.ok c.in-Ok.ensures.exact c.in-Ok.ensures.plain _ c.if-inner-ne2.false c.in-Err-read_pair.ensures.err
