use Rattle.std.proofs.lemmas.Str.{is_utf8-from_IsUtf8}
use Rattle.amqp_write.specs.State.{stand, mark_of}
use Rattle.amqp_write.proofs.PayloadTexts.{pays_payload, carries_symbol}
use Rattle.amqp_write.proofs.place.Place.symbol.Goals as goal

pub returns : goal.returns
unfolding stand
returns g c = record { law = pays_payload _ _ _ _ _ _ _ _ (carries_symbol (mark_of c.args.self.now) c.args.v.now (is_utf8-from_IsUtf8 c.args.v.now c.utf8.v)) (rw c.as_bytes.ensures.value at c.payload_text.ensures.law) }
