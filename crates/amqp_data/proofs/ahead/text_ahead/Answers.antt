use Rattle.std.proofs.Common.{rules, string_bytes, arith}
use Rattle.std.proofs.lemmas.Str.{IsUtf8-string_bytes}
use Rattle.amqp_data.proofs.LooksAhead.{text_there, text_no_utf8, text_unseen}
use Rattle.amqp_data.proofs.ahead.text_ahead.Goals as goal

pub returns-in-Ok-from_utf8-clause-ok : goal.returns-in-Ok-from_utf8-clause-ok
returns-in-Ok-from_utf8-clause-ok g c =
    let o = c.in-Ok-peek_copied.ensures.ok in
    text_there c.args.from c.args.width c.in-Ok.len c.in-Ok-peek_copied.bytes.items (string_bytes c.in-Ok-from_utf8.text) _ _ _ c.in-Ok.ensures.ok o.0 c.peek_copied.ensures.looked o.1 (search rules) (IsUtf8-string_bytes c.in-Ok-from_utf8.text)

pub returns-in-Ok-peek_copied-clause-err : goal.returns-in-Ok-peek_copied-clause-err
returns-in-Ok-peek_copied-clause-err g c =
    let o = c.in-Ok-peek_copied.ensures.ok in
    text_no_utf8 g.R.Read.buffers c.args.from c.args.width c.in-Ok.len c.in-Ok-peek_copied.bytes.items _ _ _ c.in-Ok.ensures.ok o.0 c.peek_copied.ensures.looked o.1 (λ u. absurd cc (c.in-Err-from_utf8.ensures.succeeds u))

pub returns-in-Ok-clause-err : goal.returns-in-Ok-clause-err
returns-in-Ok-clause-err g c =
    text_unseen c.args.from c.args.width c.in-Ok.len _ _ _ c.in-Err-peek_copied.e (omega (arith, c.requires.wide)) c.in-Ok.ensures.ok c.peek_copied.ensures.looked.stays c.in-Err-peek_copied.ensures.why
