use Rattle.std.proofs.Common.{refl, arith}
use Rattle.amqp_base.specs.Codes.{Kind, row, code_of}
use Rattle.amqp_base.specs.SameKind.{same_kind, place}
use Rattle.amqp_base.specs.Item.{null}
use Rattle.amqp_base.specs.Value.{payload, read}
use Rattle.amqp_base.specs.declared.format_code.EncodingCodes.TheVariants.{Null}
use Rattle.amqp_data.proofs.Readings.{takes_nothing}
use Rattle.amqp_data.proofs.FixedWidth.{fixed_is, other_refused}
use Rattle.amqp_data.proofs.KindCodes.{not_code}
use Rattle.amqp_data.proofs.scalars.AsNullLeaf.read.Goals as goal

pub returns-in-64-clause-ok : goal.returns-in-64-clause-ok
unfolding row code_of payload read
returns-in-64-clause-ok g c = fixed_is c.args.code Null 0 _ null _ _ (rw c.in-64.is refl) refl refl refl (takes_nothing _)

pub returns-in_default-clause-err : goal.returns-in_default-clause-err
unfolding row same_kind place
returns-in_default-clause-err g c = other_refused Kind.null c.args.code _ (λ h. absurd cc) (not_code c.args.code Kind.null (λ h. omega arith, tt))
