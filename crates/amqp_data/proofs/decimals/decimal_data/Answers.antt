use Rattle.std.proofs.Common.{refl, arith}
use Rattle.amqp_base.specs.Codes.{Kind, row, code_of}
use Rattle.amqp_base.specs.SameKind.{same_kind, place}
use Rattle.amqp_base.specs.Item.{decimal32, decimal64, decimal128}
use Rattle.amqp_base.specs.Value.{payload, read}
use Rattle.amqp_base.specs.declared.format_code.EncodingCodes.TheVariants.{Decimal32, Decimal64, Decimal128}
use Rattle.amqp_data.proofs.FixedWidth.{fixed_is}
use Rattle.amqp_data.proofs.KindCodes.{not_code}
use Rattle.amqp_data.proofs.DecimalData.{decimal_refused, decimal_other}
use Rattle.amqp_data.proofs.decimals.decimal_data.Goals as goal

pub returns-in-Ok-clause-ok : goal.returns-in-Ok-clause-ok
unfolding row code_of payload read
returns-in-Ok-clause-ok g c =
    let o = c.in-Ok.ensures.ok in
    fixed_is c.args.code Decimal32 4 c.in-Ok.bytes (decimal32 c.from.result) _ _ (rw c.in-116.is refl) refl o.0 (rw c.from.ensures refl) o.1

pub returns-in-Err-clause-err : goal.returns-in-Err-clause-err
unfolding row code_of same_kind place
returns-in-Err-clause-err g c = decimal_refused c.args.code Decimal32 4 _ _ _ (rw c.in-116.is refl) refl refl c.in-Err.ensures.err c.in-Err.ensures.why

pub returns-in-Ok-read_const_bytes-clause-ok : goal.returns-in-Ok-read_const_bytes-clause-ok
unfolding row code_of payload read
returns-in-Ok-read_const_bytes-clause-ok g c =
    let o = c.in-Ok-read_const_bytes.ensures.ok in
    fixed_is c.args.code Decimal64 8 c.in-Ok-read_const_bytes.bytes (decimal64 c.from-in-Ok-read_const_bytes.result) _ _ (rw c.in-132.is refl) refl o.0 (rw c.from-in-Ok-read_const_bytes.ensures refl) o.1

pub returns-in-Err-read_const_bytes-clause-err : goal.returns-in-Err-read_const_bytes-clause-err
unfolding row code_of same_kind place
returns-in-Err-read_const_bytes-clause-err g c = decimal_refused c.args.code Decimal64 8 _ _ _ (rw c.in-132.is refl) refl refl c.in-Err-read_const_bytes.ensures.err c.in-Err-read_const_bytes.ensures.why

pub returns-in-Ok-read_const_bytes-2-clause-ok : goal.returns-in-Ok-read_const_bytes-2-clause-ok
unfolding row code_of payload read
returns-in-Ok-read_const_bytes-2-clause-ok g c =
    let o = c.in-Ok-read_const_bytes-2.ensures.ok in
    fixed_is c.args.code Decimal128 16 c.in-Ok-read_const_bytes-2.bytes (decimal128 c.from-in-Ok-read_const_bytes-2.result) _ _ (rw c.in-148.is refl) refl o.0 (rw c.from-in-Ok-read_const_bytes-2.ensures refl) o.1

pub returns-in-Err-read_const_bytes-2-clause-err : goal.returns-in-Err-read_const_bytes-2-clause-err
unfolding row code_of same_kind place
returns-in-Err-read_const_bytes-2-clause-err g c = decimal_refused c.args.code Decimal128 16 _ _ _ (rw c.in-148.is refl) refl refl c.in-Err-read_const_bytes-2.ensures.err c.in-Err-read_const_bytes-2.ensures.why

pub returns-in_default-clause-err : goal.returns-in_default-clause-err
unfolding row same_kind place
returns-in_default-clause-err g c = decimal_other c.args.code _ (not_code c.args.code Kind.decimal32 (λ h. omega arith, tt)) (not_code c.args.code Kind.decimal64 (λ h. omega arith, tt)) (not_code c.args.code Kind.decimal128 (λ h. omega arith, tt))
