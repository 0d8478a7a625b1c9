use Rattle.amqp_write.specs.State.{stand}
use Rattle.amqp_write.specs.Appending.{as_error}
use Rattle.std.proofs.Common.{refl, ap, ◌++◌}
use Rattle.amqp_write.proofs.Steps.{appended_two, appended_ended}
use Rattle.amqp_write.proofs.TextOf.{first_pays}
use Rattle.amqp_write.proofs.place.Place.first_element.Goals as goal

pub returns-in-Ok : goal.returns-in-Ok
unfolding stand
returns-in-Ok g c = record { law = first_pays _ _ c.args.code c.byte.result (c.args.head.now ++ c.args.body.now) _ _ c.requires.marked refl c.byte.ensures c.requires.answers (appended_two _ _ _ _ _ _ _ (rw c.in-Ok.is at c.append.ensures) c.append_two.ensures) }

pub returns-in-Err : goal.returns-in-Err
unfolding stand
returns-in-Err g c = record { law = first_pays _ _ c.args.code c.byte.result (c.args.head.now ++ c.args.body.now) _ _ c.requires.marked refl c.byte.ensures c.requires.answers (appended_ended _ _ _ _ _ _ _ (ap as_error c.in-Err.is) refl c.append.ensures) }
