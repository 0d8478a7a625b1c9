use Rattle.amqp_de.specs.VariantKeys.{key_view}
use Rattle.amqp_de.proofs.Naming.{named_dropped}
use Rattle.amqp_de.proofs.ReadParts.{missed_dropped}
use Rattle.amqp_de.proofs.VariantsRead.{alone_refused, alone_named, key_named}
use Rattle.amqp_de.proofs.deserializer.Deserializer.read_alone.Goals as goal

-- the variant doesn't stand alone
pub returns-in-Err-alone-clause-err : goal.returns-in-Err-alone-clause-err
returns-in-Err-alone-clause-err g c = rw c.stop.ensures (missed_dropped (alone_refused (g.S.Variants.variants c.args.variants.now) g.R.Read.buffers _ _ (key_view c.in-Ok.key) _ c.in-Ok.ensures.ok c.in-Err-alone.ensures.err))

pub returns-in-Err-alone-clause-named : goal.returns-in-Err-alone-clause-named
returns-in-Err-alone-clause-named g c = rw c.stop.ensures (named_dropped (alone_named (g.S.Variants.variants c.args.variants.now) g.R.Read.buffers _ _ (key_view c.in-Ok.key) _ c.in-Ok.ensures.ok c.in-Err-alone.ensures.err))

-- there is no key
pub returns-in-Err-clause-named : goal.returns-in-Err-clause-named
returns-in-Err-clause-named g c = rw c.stop-in-Err.ensures (named_dropped (key_named (g.S.Variants.variants c.args.variants.now) g.R.Read.buffers _ _ _ c.in-Err.ensures.named))
