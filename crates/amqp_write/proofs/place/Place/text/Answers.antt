use Rattle.std.proofs.lemmas.Str.{is_utf8-from_IsUtf8}
use Rattle.amqp_write.specs.State.{stand}
use Rattle.amqp_write.proofs.PayloadTexts.{pays_string}
use Rattle.amqp_write.proofs.place.Place.text.Goals as goal

pub returns : goal.returns
unfolding stand
returns g c = record { law = pays_string _ _ _ _ _ _ (is_utf8-from_IsUtf8 c.args.v.now c.utf8.v) (rw (c.as_bytes.ensures.value, c.text_codes-narrow.ensures) at c.payload_text.ensures.law) }
