use Rattle.std.proofs.Common.{refl, arith, rules, to_z, of_z, w8, w64}
use mir.Val.{SFits}
use Rattle.amqp_base.specs.Codes.{Kind, row, code_of}
use Rattle.amqp_base.specs.SameKind.{same_kind, place}
use Rattle.amqp_base.specs.Item.{long}
use Rattle.amqp_base.specs.Value.{payload, read}
use Rattle.amqp_base.specs.declared.format_code.EncodingCodes.TheVariants.{Long, SmallLong}
use Rattle.amqp_data.proofs.FixedWidth.{fixed_is, fixed_refused, other_refused}
use Rattle.amqp_data.proofs.ByteNumbers.{be_signed, be_widened}
use Rattle.amqp_data.proofs.KindCodes.{not_code}
use Rattle.amqp_data.proofs.signed.AsLongLeaf.read.Goals as goal

pub returns-in-Ok-clause-ok : goal.returns-in-Ok-clause-ok
unfolding row code_of payload read
returns-in-Ok-clause-ok g c =
    let o = c.in-Ok.ensures.ok in
    let f : SFits w64 c.from_be_bytes.result = search rules in
    fixed_is c.args.code Long 8 c.in-Ok.bytes (long (to_z w64 (of_z w64 c.from_be_bytes.result))) _ _ (rw c.in-129.is refl) refl o.0 (rw (be_signed w64 c.in-Ok.bytes c.from_be_bytes.result o.0 c.from_be_bytes.ensures f) refl) o.1

pub returns-in-Err-clause-err : goal.returns-in-Err-clause-err
unfolding row code_of
returns-in-Err-clause-err g c = fixed_refused Kind.long c.args.code Long 8 _ _ _ (rw c.in-129.is refl) refl refl c.in-Err.ensures.err c.in-Err.ensures.why

pub returns-in-Ok-read_const_bytes-clause-ok : goal.returns-in-Ok-read_const_bytes-clause-ok
unfolding row code_of payload read
returns-in-Ok-read_const_bytes-clause-ok g c =
    let o = c.in-Ok-read_const_bytes.ensures.ok in
    let z = c.from_be_bytes-in-Ok-read_const_bytes.result in
    let f : SFits w8 z = search rules in
    fixed_is c.args.code SmallLong 1 c.in-Ok-read_const_bytes.bytes (long (to_z w64 (of_z w64 (to_z w8 (of_z w8 z))))) _ _ (rw c.in-85.is refl) refl o.0 (rw (be_widened w64 c.in-Ok-read_const_bytes.bytes z o.0 c.from_be_bytes-in-Ok-read_const_bytes.ensures f) refl) o.1

pub returns-in-Err-read_const_bytes-clause-err : goal.returns-in-Err-read_const_bytes-clause-err
unfolding row code_of
returns-in-Err-read_const_bytes-clause-err g c = fixed_refused Kind.long c.args.code SmallLong 1 _ _ _ (rw c.in-85.is refl) refl refl c.in-Err-read_const_bytes.ensures.err c.in-Err-read_const_bytes.ensures.why

pub returns-in_default-clause-err : goal.returns-in_default-clause-err
unfolding row same_kind place
returns-in_default-clause-err g c = other_refused Kind.long c.args.code _ (λ h. absurd cc) (not_code c.args.code Kind.long (λ h. omega arith, (λ h. omega arith, tt)))
