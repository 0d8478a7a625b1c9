use Rattle.std.proofs.Common.{refl}
use Rattle.amqp_de.specs.ReadVariants.{no_key_read}
use Rattle.amqp_de.specs.Seq.{at_open}
use Rattle.amqp_de.specs.VariantKeys.{key_view}
use Rattle.amqp_de.proofs.VariantsRead.{pair_read, pair_held_not}
use Rattle.amqp_de.proofs.deserializer.Deserializer.read_pair.Goals as goal

pub returns-in-Ok-close-clause-ok : goal.returns-in-Ok-close-clause-ok
returns-in-Ok-close-clause-ok g c =
    let n = rw c.in-Ok-Some.field-0-is at c.in-Ok-Some.ensures.next in
    pair_read (g.S.Variants.variants c.args.variants.now) _ (at_open c.next_part.new.self c.next_part.new.inner) c.requires.two c.requires.plain (key_view c.in-Ok-Some.key) n.0 _ _ _ _ c.in-Ok.ensures.ok refl c.in-Ok-close.ensures.ends

-- what the variant holds was refused
pub returns-in-Err-held-clause-err : goal.returns-in-Err-held-clause-err
returns-in-Err-held-clause-err g c =
    let n = rw c.in-Ok-Some.field-0-is at c.in-Ok-Some.ensures.next in
    pair_held_not (g.S.Variants.variants c.args.variants.now) _ (at_open c.next_part.new.self c.next_part.new.inner) c.requires.two c.requires.plain (key_view c.in-Ok-Some.key) n.0 g.R.Read.buffers _ _ _ c.in-Err-held.ensures.err c.in-Err-held.ensures.named c.stop.ensures

-- the key was refused
pub returns-in-Err-clause-err : goal.returns-in-Err-clause-err
returns-in-Err-clause-err g c = no_key_read (at_open c.next_part.new.self c.next_part.new.inner) c.in-Err.ensures.next c.in-Err.ensures.named refl
