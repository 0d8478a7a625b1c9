use Rattle.std.proofs.Common.{refl, arith, w64}
use Rattle.amqp_base.specs.Codes.{Kind, row, code_of}
use Rattle.amqp_base.specs.SameKind.{same_kind, place}
use Rattle.amqp_base.specs.Item.{ulong}
use Rattle.amqp_base.specs.Value.{payload, read}
use Rattle.amqp_base.specs.declared.format_code.EncodingCodes.TheVariants.{Ulong, SmallUlong, Ulong0}
use Rattle.amqp_data.proofs.Readings.{takes_nothing}
use Rattle.amqp_data.proofs.FixedWidth.{fixed_is, fixed_refused, other_refused}
use Rattle.amqp_data.proofs.ByteNumbers.{be_number, number_1}
use Rattle.amqp_data.proofs.KindCodes.{not_code}
use Rattle.amqp_data.proofs.unsigned.AsUlongLeaf.read.Goals as goal

pub returns-in-Ok-clause-ok : goal.returns-in-Ok-clause-ok
unfolding row code_of payload read
returns-in-Ok-clause-ok g c =
    let o = c.in-Ok.ensures.ok in
    fixed_is c.args.code Ulong 8 c.in-Ok.bytes (ulong c.from_be_bytes.result) _ _ (rw c.in-128.is refl) refl o.0 (rw (c.from_be_bytes.ensures, be_number w64 c.in-Ok.bytes o.0) refl) o.1

pub returns-in-Err-clause-err : goal.returns-in-Err-clause-err
unfolding row code_of
returns-in-Err-clause-err g c = fixed_refused Kind.ulong c.args.code Ulong 8 _ _ _ (rw c.in-128.is refl) refl refl c.in-Err.ensures.err c.in-Err.ensures.why

pub returns-in-Ok-byte-clause-ok : goal.returns-in-Ok-byte-clause-ok
unfolding row code_of payload read
returns-in-Ok-byte-clause-ok g c = fixed_is c.args.code SmallUlong 1 _ (ulong c.in-Ok-byte.byte) _ _ (rw c.in-83.is refl) refl refl (rw (number_1 c.in-Ok-byte.byte) refl) c.in-Ok-byte.ensures.ok

pub returns-in-Err-byte-clause-err : goal.returns-in-Err-byte-clause-err
unfolding row code_of
returns-in-Err-byte-clause-err g c = fixed_refused Kind.ulong c.args.code SmallUlong 1 _ _ _ (rw c.in-83.is refl) refl refl c.in-Err-byte.ensures.err.stays c.in-Err-byte.ensures.err.why

pub returns-in-68-clause-ok : goal.returns-in-68-clause-ok
unfolding row code_of payload read
returns-in-68-clause-ok g c = fixed_is c.args.code Ulong0 0 _ (ulong 0) _ _ (rw c.in-68.is refl) refl refl refl (takes_nothing _)

pub returns-in_default-clause-err : goal.returns-in_default-clause-err
unfolding row same_kind place
returns-in_default-clause-err g c = other_refused Kind.ulong c.args.code _ (λ h. absurd cc) (not_code c.args.code Kind.ulong (λ h. omega arith, (λ h. omega arith, (λ h. omega arith, tt))))
