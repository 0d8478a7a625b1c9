use Rattle.std.proofs.Common.{ℕ, Err, Vec, Global}
use Rattle.amqp_data.proofs.Sized.{payload_err, payload_first}
use Rattle.amqp_data.proofs.payloads.payload.Goals as goal

pub returns-in-Err-read_bytes-clause-err : goal.returns-in-Err-read_bytes-clause-err
returns-in-Err-read_bytes-clause-err g c = payload_err {V = Vec ℕ Global} g.R.Read.buffers c.args.width c.in-Ok.len _ _ _ (Err c.in-Err-read_bytes.e) c.in-Ok.ensures.ok c.in-Err-read_bytes.ensures.err c.in-Err-read_bytes.ensures.why

pub returns-in-Err-read_bytes-clause-bytes_first : goal.returns-in-Err-read_bytes-clause-bytes_first
returns-in-Err-read_bytes-clause-bytes_first g c = payload_first {V = Vec ℕ Global} g.R.Read.buffers c.args.width c.in-Ok.len _ _ (Err c.in-Err-read_bytes.e) c.in-Ok.ensures.ok c.in-Err-read_bytes.ensures.bytes_first
