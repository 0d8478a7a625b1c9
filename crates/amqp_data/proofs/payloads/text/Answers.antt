use Rattle.std.proofs.Common.{Err, String, Global, string_bytes}
use Rattle.std.proofs.lemmas.Str.{IsUtf8-string_bytes}
use Rattle.amqp_data.proofs.Sized.{text_took, text_not_taken, payload_first, number_first}
use Rattle.amqp_data.proofs.payloads.text.Goals as goal

pub returns-in-Ok-forward_read_str-clause-ok : goal.returns-in-Ok-forward_read_str-clause-ok
returns-in-Ok-forward_read_str-clause-ok g c = text_took c.args.width c.in-Ok.len _ _ _ (string_bytes c.in-Ok-forward_read_str.text) c.in-Ok.ensures.ok c.in-Ok-forward_read_str.ensures.ok (IsUtf8-string_bytes c.in-Ok-forward_read_str.text)

pub returns-in-Err-forward_read_str-clause-err : goal.returns-in-Err-forward_read_str-clause-err
returns-in-Err-forward_read_str-clause-err g c = text_not_taken g.R.Read.buffers c.args.width c.in-Ok.len _ _ _ c.in-Err-forward_read_str.e c.in-Ok.ensures.ok c.in-Err-forward_read_str.ensures.err c.in-Err-forward_read_str.ensures.why

pub returns-in-Err-forward_read_str-clause-bytes_first : goal.returns-in-Err-forward_read_str-clause-bytes_first
returns-in-Err-forward_read_str-clause-bytes_first g c = payload_first {V = String Global} g.R.Read.buffers c.args.width c.in-Ok.len _ _ (Err c.in-Err-forward_read_str.e) c.in-Ok.ensures.ok c.in-Err-forward_read_str.ensures.bytes_first

pub returns-in-Err-clause-bytes_first : goal.returns-in-Err-clause-bytes_first
returns-in-Err-clause-bytes_first g c = number_first g.R.Read.buffers c.args.width _ _ _ _ c.in-Err.ensures.err
