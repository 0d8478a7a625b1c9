use Rattle.std.proofs.Common.{◌∙◌, ap, List, ℕ, length}
use Rattle.amqp_read.proofs.Streams.{looked_takes, on_ok}
use Rattle.amqp_read.proofs.io_reader.IoReader.read_not_in_vector.Goals as goal

pub returns-in-Ok-false-clause-ok : goal.returns-in-Ok-false-clause-ok
returns-in-Ok-false-clause-ok g c =
    let kept = c.in-Ok-false.ensures.else_kept c.in-Ok-false.field-0-test in
    on_ok c.read_buffered.result (λ takes. looked_takes kept.0 takes (c.read_buffered.ensures.len ∙ ap (λ (z : List ℕ). length z) kept.1)) c.read_buffered.ensures.ok
