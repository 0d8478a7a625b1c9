use Rattle.std.proofs.Common.{◌∷◌, ◌++◌, length, length-append, arith}
use Rattle.std.specs.Int.{bytes_high_first}
use Rattle.amqp_write.proofs.StringTexts.{narrow_string, wide_string}
use Rattle.amqp_write.proofs.strings.string_len.Goals as goal

pub returns-then-len-le-NARROW : goal.returns-then-len-le-NARROW
returns-then-len-le-NARROW c =
    let b = c.args.value.now in
    record { text = (0xa1 ∷ length b ∷ b, narrow_string b c.utf8.value c.if-len-le-NARROW.true, omega (arith, c.if-len-le-NARROW.true)) }

pub returns-else-len-le-NARROW : goal.returns-else-len-le-NARROW
returns-else-len-le-NARROW c =
    let b = c.args.value.now in
    let len = length-append (bytes_high_first 4 (length b)) b in
    record { text = (0xb1 ∷ (bytes_high_first 4 (length b) ++ b), wide_string b c.utf8.value c.if-len-le-NARROW.false c.if-len-gt-LONGEST.false, omega (arith, len, c.if-len-gt-LONGEST.false)) }
