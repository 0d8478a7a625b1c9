use Rattle.std.proofs.Common.{◌≡◌, arith}
use Rattle.amqp_base.specs.Codes.{row}
use Rattle.amqp_data.proofs.OnlyCode.{only, only_data, only_short, only_other}
use Rattle.amqp_data.proofs.leaf.fixed.Goals as goal

pub returns-then-byte-clause-err : goal.returns-then-byte-clause-err
returns-then-byte-clause-err g c = only_other c.args.byte c.args.code g.row.N _ (only c.args.code g.row.N c.requires) (λ h. omega (arith, c.byte.ensures))

pub returns-in-Ok-clause-ok : goal.returns-in-Ok-clause-ok
returns-in-Ok-clause-ok g c =
    let h : c.args.byte ≡ (row c.args.code).byte = omega (arith, c.byte.ensures) in
    only_data c.args.byte c.args.code g.row.N c.in-Ok.bytes _ _ (only c.args.code g.row.N c.requires) h c.in-Ok.ensures.ok.0 c.in-Ok.ensures.ok.1

pub returns-in-Err-clause-err : goal.returns-in-Err-clause-err
returns-in-Err-clause-err g c =
    let h : c.args.byte ≡ (row c.args.code).byte = omega (arith, c.byte.ensures) in
    only_short c.args.byte c.args.code g.row.N _ _ _ (only c.args.code g.row.N c.requires) h c.in-Err.ensures.err c.in-Err.ensures.why
