-- A string's text, behind one byte of length or four.
use Rattle.amqp_write.specs.State.{stand}
use Rattle.amqp_write.proofs.StringTexts.{string_alone, writes_one}
use Rattle.amqp_write.proofs.place.Place.append_string.Goals as goal

pub returns : goal.returns
unfolding stand
returns g c = let w = c.payload_outside.ensures.law in record { law = writes_one _ _ _ _ _ _ (string_alone c.args.value.now w.bytes c.utf8.value (rw c.as_bytes.ensures.value at w.is)) w.appended }
