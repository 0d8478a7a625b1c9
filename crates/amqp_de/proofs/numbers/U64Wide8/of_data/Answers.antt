use Rattle.std.proofs.Common.{arith, refl, ◌∙◌, w64}
use Rattle.std.proofs.lemmas.List.{take_all}
use Rattle.amqp_base.specs.Codes.{row}
use Rattle.amqp_base.specs.Item.{scalar, ulong}
use Rattle.amqp_base.specs.SameKind.{same_kind, place}
use Rattle.amqp_base.specs.Value.{payload, read}
use Rattle.amqp_base.specs.declared.format_code.EncodingCodes.TheVariants.{Ulong}
use Rattle.amqp_data.proofs.FixedWidth.{fixed_spells}
use Rattle.amqp_data.proofs.ByteNumbers.{be_number}
use Rattle.amqp_de.proofs.numbers.U64Wide8.of_data.Goals as goal

pub returns-in-Some : goal.returns-in-Some
unfolding row payload read same_kind place
returns-in-Some c =
    let same = c.in-Some.ensures.cases.same ∙ take_all 8 c.args.bytes.now (omega (arith, c.requires)) in
    record {
      item = scalar (ulong c.from_be_bytes.result);
      spelled = fixed_spells Ulong 8 c.args.bytes.now (ulong c.from_be_bytes.result) refl c.requires (rw (c.from_be_bytes.ensures, same, be_number w64 c.args.bytes.now c.requires) refl);
      taken = refl;
      value = refl;
      one = refl;
      some = omega arith;
    }
