use Rattle.std.proofs.Common.{refl}
use Rattle.amqp_base.specs.Codes.{row}
use Rattle.amqp_base.specs.SameKind.{same_kind, place}
use Rattle.amqp_de.proofs.VariantsNamed.{no_descriptor_code}
use Rattle.amqp_de.proofs.variants.is_descriptor.Goals as goal

pub returns-in-Ulong : goal.returns-in-Ulong
unfolding row same_kind place
returns-in-Ulong c = rw c.in-Ulong.is refl

pub returns-in-SmallUlong : goal.returns-in-SmallUlong
unfolding row same_kind place
returns-in-SmallUlong c = rw c.in-SmallUlong.is refl

pub returns-in-Ulong0 : goal.returns-in-Ulong0
unfolding row same_kind place
returns-in-Ulong0 c = rw c.in-Ulong0.is refl

pub returns-in-Sym8 : goal.returns-in-Sym8
unfolding row same_kind place
returns-in-Sym8 c = rw c.in-Sym8.is refl

pub returns-in-Sym32 : goal.returns-in-Sym32
unfolding row same_kind place
returns-in-Sym32 c = rw c.in-Sym32.is refl

pub returns-in_default : goal.returns-in_default
returns-in_default c =
    let n = c.in_default in
    no_descriptor_code _ n.not-Ulong n.not-SmallUlong n.not-Ulong0 n.not-Sym8 n.not-Sym32
