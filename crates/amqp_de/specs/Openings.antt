-- Which form of a sequence was opened.
use Rattle.std.specs.Prelude.{Bool, true, false}
use Rattle.amqp_de.specs.Access.{Listing, Opens, OpensHeading}
use Rattle.amqp_data.specs.Parts.{HasElements}
use Rattle.amqp_de.specs.Decoding.{Decoding}
use Rattle.amqp_de.specs.Seq.{at_open}
use Rattle.amqp_de.specs.declared.seq.OpenedSeq.{OpenedSeq}
use Rattle.amqp_de.specs.declared.seq.OpenedSeq.TheVariants as opened
use Rattle.amqp_de.specs.declared.seq.SeqAccess.{SeqAccess}
use Rattle.amqp_de.specs.declared.seq.SeqAccess.TheVariants as seq

-- a list was opened, or an array
pub record OpensElements (is_array : Bool) (old : Decoding) (l : Listing) : Type 0 where
  pub opens : Opens HasElements old l
  pub heading : OpensHeading is_array old l

-- one of both was
abbrev pub OpensEither : Decoding → Listing → Type 0
OpensEither old l = (is_array : Bool) × OpensElements is_array old l

abbrev pub OpensSeq : Decoding → Decoding → OpenedSeq → Type 0
OpensSeq old new (opened.List o) = OpensElements false old (at_open new o)
OpensSeq old new (opened.Array o) = OpensElements true old (at_open new o)

abbrev pub is_array : {X : Type 0} → SeqAccess X → Bool
is_array (seq.List a) = false
is_array (seq.Array a) = true
