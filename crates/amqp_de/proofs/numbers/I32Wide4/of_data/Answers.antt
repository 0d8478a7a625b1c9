use Rattle.std.proofs.Common.{arith, refl, ◌∙◌, rules, to_z, of_z, w32}
use Rattle.std.proofs.lemmas.List.{take_all}
use mir.Val.{SFits}
use Rattle.amqp_base.specs.Codes.{row}
use Rattle.amqp_base.specs.Item.{scalar, int}
use Rattle.amqp_base.specs.SameKind.{same_kind, place}
use Rattle.amqp_base.specs.Value.{payload, read}
use Rattle.amqp_base.specs.declared.format_code.EncodingCodes.TheVariants.{Int}
use Rattle.amqp_data.proofs.FixedWidth.{fixed_spells}
use Rattle.amqp_data.proofs.ByteNumbers.{be_signed}
use Rattle.amqp_de.proofs.numbers.I32Wide4.of_data.Goals as goal

pub returns-in-Some : goal.returns-in-Some
unfolding row payload read same_kind place
returns-in-Some c =
    let same = c.in-Some.ensures.cases.same ∙ take_all 4 c.args.bytes.now (omega (arith, c.requires)) in
    let z = c.from_be_bytes.result in
    let f : SFits w32 z = search rules in
    record {
      item = scalar (int (to_z w32 (of_z w32 z)));
      spelled = fixed_spells Int 4 c.args.bytes.now (int (to_z w32 (of_z w32 z))) refl c.requires (rw (be_signed w32 c.args.bytes.now z c.requires (rw same at c.from_be_bytes.ensures) f) refl);
      taken = refl;
      value = refl;
      one = refl;
      some = omega arith;
    }
