use Rattle.std.proofs.Common.{◌≡◌, Some, refl, rules}
use Rattle.amqp_base.specs.Canon.{canon}
use Rattle.amqp_base.specs.declared.shape.Setting.TheVariants.{Plain}
use Rattle.amqp_probe.proofs.Recoding.{fresh, read_value, none_recoded, textless}
use Rattle.amqp_probe.proofs.codec.recoded.Goals as goal

pub returns-clause-ok : goal.returns-clause-ok
returns-clause-ok g c =
    let start : c.new-de.result ≡ fresh c.args.bytes.now = rw (c.new-de.ensures, c.new.ensures) refl in
    none_recoded g.T.Typed.meaning.takes g.T.Typed.meaning.refuses g.T.Typed.meaning.means (λ v. g.T.Typed.meaning.item v Plain) g.T.Typed.meaning.grows c.args.bytes.now c.in-Err.e c.refused-in-Err.result _ _ start c.in-Err.ensures.err c.in-Err.ensures.named c.refused-in-Err.ensures.ok

pub returns-in-Ok-to_vec-clause-ok : goal.returns-in-Ok-to_vec-clause-ok
returns-in-Ok-to_vec-clause-ok g c =
    let start : c.new-de.result ≡ fresh c.args.bytes.now = rw (c.new-de.ensures, c.new.ensures) refl in
    let read = read_value g.T.Typed.meaning.takes g.T.Typed.meaning.means (λ v. g.T.Typed.meaning.item v Plain) c.args.bytes.now c.in-Ok.value (λ i. canon i ≡ Some c.in-Ok-to_vec.canonical.items) _ _ start c.in-Ok.ensures.ok c.in-Ok-to_vec.ensures.ok in
    (c.deserialize.new.de.reading.taken, read.0, search rules)

pub returns-in-Ok-clause-ok : goal.returns-in-Ok-clause-ok
returns-in-Ok-clause-ok g c =
    let start : c.new-de.result ≡ fresh c.args.bytes.now = rw (c.new-de.ensures, c.new.ensures) refl in
    textless g.T.Typed.meaning.takes g.T.Typed.meaning.refuses g.T.Typed.meaning.means (λ v. g.T.Typed.meaning.item v Plain) c.args.bytes.now c.in-Ok.value c.in-Err-to_vec.e c.refused.result _ _ start c.in-Ok.ensures.ok c.in-Err-to_vec.ensures.err c.refused.ensures.ok
