use Rattle.std.proofs.Common.{◌≡◌, ◌+◌, length, ap, sym, subst, arith}
use Rattle.amqp_base.specs.Item.{scalar, string}
use Rattle.amqp_write.specs.State.{unmarked}
use Rattle.amqp_write.specs.ManyTexts.{PutsText}
use Rattle.amqp_write.proofs.StringTexts.{puts_string}
use Rattle.amqp_write.proofs.strings.put_string.Goals as goal

pub returns-clause-text : goal.returns-clause-text
returns-clause-text c =
    let value = c.as_bytes-bytes.ensures.value in
    let b = c.args.value.now in
    let len : length c.as_bytes-bytes.result.now ≡ length b = ap length value in
    let end : c.in_ok-end.end ≡ c.args.at + 2 + length b = omega (arith, c.in_ok-end.ensures.1, len) in
    let put = puts_string c.args.at c.args.block.now b c.put_bytes.new.block (omega (arith, end, c.if-end-block.false)) c.utf8.value (rw value at c.if-len-gt-NARROW.false) (rw value at c.put_bytes.ensures.put) in
    subst (λ e. PutsText unmarked (scalar (string b)) c.args.at c.args.block.now e c.put_bytes.new.block) (sym end) put
