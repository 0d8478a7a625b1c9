-- Data that a slice lends.
use Rattle.std.specs.Prelude.{ℕ, List}
use Rattle.amqp_base.specs.Item.{Scalar, scalar}
use Rattle.amqp_read.specs.Reading.{Reading}
use Rattle.amqp_types.specs.Texts.{means_text}
use Rattle.amqp_data.specs.Steps.{IsData}

-- data of the byte's code were consumed, which spell a string or a symbol of these bytes
pub record IsText (byte : ℕ) (b : List ℕ) (old new : Reading) : Type 0 where
  pub value : Scalar
  pub text : means_text (scalar value) b
  pub is : IsData byte (scalar value) old new
