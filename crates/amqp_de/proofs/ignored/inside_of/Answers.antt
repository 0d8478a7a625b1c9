use Rattle.std.proofs.Common.{refl, inl, inr}
use Rattle.amqp_base.specs.Codes.{row}
use Rattle.amqp_de.proofs.IgnoredRead.{code_alone}
use Rattle.amqp_de.proofs.ignored.inside_of.Goals as goal

pub returns-in-DescribedType : goal.returns-in-DescribedType
unfolding row
returns-in-DescribedType c = rw c.in-DescribedType.is refl

pub returns-in-List0 : goal.returns-in-List0
unfolding row
returns-in-List0 c = rw c.in-List0.is (inl refl)

pub returns-in-List8 : goal.returns-in-List8
unfolding row
returns-in-List8 c = rw c.in-List8.is (inl refl)

pub returns-in-List32 : goal.returns-in-List32
unfolding row
returns-in-List32 c = rw c.in-List32.is (inl refl)

pub returns-in-Array8 : goal.returns-in-Array8
unfolding row
returns-in-Array8 c = rw c.in-Array8.is (inr refl)

pub returns-in-Array32 : goal.returns-in-Array32
unfolding row
returns-in-Array32 c = rw c.in-Array32.is (inr refl)

pub returns-in-Map8 : goal.returns-in-Map8
unfolding row
returns-in-Map8 c = rw c.in-Map8.is refl

pub returns-in-Map32 : goal.returns-in-Map32
unfolding row
returns-in-Map32 c = rw c.in-Map32.is refl

pub returns-in_default : goal.returns-in_default
returns-in_default c =
    let n = c.in_default in
    code_alone _ n.not-DescribedType n.not-List0 n.not-List8 n.not-List32 n.not-Array8 n.not-Array32 n.not-Map8 n.not-Map32
