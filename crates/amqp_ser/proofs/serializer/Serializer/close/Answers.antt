use Rattle.amqp_write.specs.State.{stand}
use Rattle.std.proofs.Common.{refl, sym, subst, ap}
use Rattle.amqp_ser.specs.State.{State}
use Rattle.amqp_ser.proofs.Compounds.{end_wrote_each, end_refused_each, contents_told, Told}
use Rattle.amqp_ser.proofs.Passes.{wrote_measured, refused_measured, wrote_written_each, refused_written_each, kept_at_end}
use Rattle.amqp_ser.proofs.serializer.Serializer.close.Goals as goal

pub returns-in-Ok-clause-ok : goal.returns-in-Ok-clause-ok
unfolding stand
returns-in-Ok-clause-ok g c = rw (c.in-Buffered.is, ← c.self.view_is) (λ pairs. end_wrote_each _ _ _ _ refl (subst (λ o. Told o c.deref.result.now) (ap (λ (x : State). x.contents) (sym c.into_inner-body.ensures.state.1)) (contents_told _ _ _ (sym c.deref.ensures.value))) c.in-Ok.ensures.law)

pub returns-in-Err-clause-err : goal.returns-in-Err-clause-err
unfolding stand
returns-in-Err-clause-err g c = rw (c.refused-in-Err.ensures, c.in-Buffered.is, ← c.self.view_is) (λ pairs. end_refused_each _ _ _ _ refl (subst (λ o. Told o c.deref.result.now) (ap (λ (x : State). x.contents) (sym c.into_inner-body.ensures.state.1)) (contents_told _ _ _ (sym c.deref.ensures.value))) c.in-Err.ensures.law)

pub returns-in-Ok-close_measured-clause-ok : goal.returns-in-Ok-close_measured-clause-ok
unfolding stand
returns-in-Ok-close_measured-clause-ok g c = rw c.in-Measured.is (λ pairs. wrote_measured _ c.in-Measured.at c.in-Measured.before _ _ refl refl c.in-Ok-close_measured.ensures.law)

pub returns-in-Err-close_measured-clause-err : goal.returns-in-Err-close_measured-clause-err
unfolding stand
returns-in-Err-close_measured-clause-err g c = rw (c.refused-in-Err-close_measured.ensures, c.in-Measured.is) (λ pairs. refused_measured _ c.in-Measured.at c.in-Measured.before _ _ refl refl (kept_at_end _ _ _ c.in-Err-close_measured.ensures.kept) c.in-Err-close_measured.ensures.law)

pub returns-in-Ok-close_written-clause-ok : goal.returns-in-Ok-close_written-clause-ok
unfolding stand
returns-in-Ok-close_written-clause-ok g c = rw c.in-Written.is (λ pairs. wrote_written_each _ c.in-Written.size c.in-Written.from _ refl refl refl c.in-Ok-close_written.ensures.law)

pub returns-in-Err-close_written-clause-err : goal.returns-in-Err-close_written-clause-err
unfolding stand
returns-in-Err-close_written-clause-err g c = rw c.in-Written.is (λ pairs. refused_written_each _ c.in-Written.size c.in-Written.from _ _ refl (kept_at_end _ _ _ c.in-Err-close_written.ensures.kept) c.in-Err-close_written.ensures.law)
