use Rattle.std.proofs.Common.{[]}
use Rattle.std.proofs.lemmas.List.{append-nil}
use Rattle.amqp_base.specs.declared.shape.Setting.TheVariants.{Plain}
use Rattle.amqp_base.proofs.CanonOne.{canon_front}
use Rattle.serde_amqp.proofs.Whole.{same_again}
use Rattle.serde_amqp.proofs.laws.kept.Goals as goal

pub returns : goal.returns
returns g c = λ b r all v s h k.
    let m = g.T.Typed.meaning in
    let back = g.met.T.RoundTrip.reads_back in
    let front = rw append-nil at (canon_front (m.item v Plain) b [] h k) in
    same_again m.means m.same m.grows m.one_value (m.item v Plain) v r (m.read_back back v s) (all.answer (m.item v Plain) _ front (m.taken_back back v s))
