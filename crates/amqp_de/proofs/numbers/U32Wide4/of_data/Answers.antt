use Rattle.std.proofs.Common.{arith, refl, ◌∙◌, w32}
use Rattle.std.proofs.lemmas.List.{take_all}
use Rattle.amqp_base.specs.Codes.{row}
use Rattle.amqp_base.specs.Item.{scalar, uint}
use Rattle.amqp_base.specs.SameKind.{same_kind, place}
use Rattle.amqp_base.specs.Value.{payload, read}
use Rattle.amqp_base.specs.declared.format_code.EncodingCodes.TheVariants.{Uint}
use Rattle.amqp_data.proofs.FixedWidth.{fixed_spells}
use Rattle.amqp_data.proofs.ByteNumbers.{be_number}
use Rattle.amqp_de.proofs.numbers.U32Wide4.of_data.Goals as goal

pub returns-in-Some : goal.returns-in-Some
unfolding row payload read same_kind place
returns-in-Some c =
    let same = c.in-Some.ensures.cases.same ∙ take_all 4 c.args.bytes.now (omega (arith, c.requires)) in
    record {
      item = scalar (uint c.from_be_bytes.result);
      spelled = fixed_spells Uint 4 c.args.bytes.now (uint c.from_be_bytes.result) refl c.requires (rw (c.from_be_bytes.ensures, same, be_number w32 c.args.bytes.now c.requires) refl);
      taken = refl;
      value = refl;
      one = refl;
      some = omega arith;
    }
