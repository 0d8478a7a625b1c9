use Rattle.std.proofs.Common.{take}
use Rattle.std.specs.Fmt.{HasWritten, IsPlainFormatter}
use Rattle.amqp_types.specs.Printed.{bytes_text}
use Rattle.amqp_types.proofs.hexadecimal.write_bytes.Given as goal

abbrev pub invariant-loop-byte : goal.invariant-loop-byte
invariant-loop-byte g l = IsPlainFormatter l.fn.f
    → HasWritten g.W.Write.write_str_gives l.fn.f (bytes_text l.two l.upper (take l.byte-index l.bytes)) l.f
