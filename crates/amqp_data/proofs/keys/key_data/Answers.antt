use Rattle.std.proofs.Common.{arith}
use Rattle.amqp_base.specs.Codes.{Kind, row}
use Rattle.amqp_base.specs.SameKind.{same_kind, place}
use Rattle.amqp_data.proofs.KindCodes.{not_code}
use Rattle.amqp_data.proofs.KeyData.{other_key}
use Rattle.amqp_data.proofs.keys.key_data.Goals as goal

pub returns-in_default-clause-err : goal.returns-in_default-clause-err
unfolding row same_kind place
returns-in_default-clause-err g c =
    other_key c.args.code _ (not_code c.args.code Kind.uint (λ h. omega arith, (λ h. omega arith, (λ h. omega arith, tt)))) (not_code c.args.code Kind.ulong (λ h. omega arith, (λ h. omega arith, (λ h. omega arith, tt))))
    (not_code c.args.code Kind.string (λ h. omega arith, (λ h. omega arith, tt))) (not_code c.args.code Kind.symbol (λ h. omega arith, (λ h. omega arith, tt)))
