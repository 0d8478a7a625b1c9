use Rattle.std.proofs.Common.{refl, ap, string_bytes}
use Rattle.amqp_base.specs.Item.{name, code}
use Rattle.amqp_write.specs.State.{stand}
use Rattle.amqp_write.specs.Appending.{as_error}
use Rattle.amqp_write.proofs.DescribedSteps.{pays_no_byte, pays_described}
use Rattle.amqp_write.proofs.place.Place.descriptor.Goals as goal

pub returns-in-Err : goal.returns-in-Err
unfolding stand
returns-in-Err g c = record { law = pays_no_byte _ _ _ _ _ _ _ (ap as_error c.in-Err.is) refl c.append.ensures }

pub returns-in-Name : goal.returns-in-Name
unfolding stand
returns-in-Name g c = rw c.in-Name.is (record { law = pays_described _ _ (name (string_bytes c.in-Name.name.0)) _ _ _ _ _ (ap as_error c.in-Ok.is) c.requires.marked c.requires.answers c.append.ensures (rw c.as_str.ensures at c.symbol.ensures.law) })

pub returns-in-Code : goal.returns-in-Code
unfolding stand
returns-in-Code g c = rw c.in-Code.is (record { law = pays_described _ _ (code c.in-Code.code) _ _ _ _ _ (ap as_error c.in-Ok.is) c.requires.marked c.requires.answers c.append.ensures c.ulong.ensures.law })
