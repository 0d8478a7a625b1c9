-- What a deserializer is to its callers.
use Rattle.std.specs.Prelude.{ℕ, Bool, true, false}
use Rattle.amqp_base.specs.Wire.{Constructor, bare, under, under_pair}
use Rattle.amqp_read.specs.Reading.{Reading}

pub record Decoding : Type 0 where
  pub reading : Reading
  -- it is ended: each call is refused as `InvalidValue`, and changes nothing
  pub ended : Bool
  -- the constructor that the next item stands under: that of the elements inside an array, else none
  pub inherited : Constructor
  -- the descriptor of such a constructor was answered by a call of its own
  pub described : Bool
  -- how many items were begun
  pub begun : ℕ

-- behind the descriptor of a pair its code stands alone
abbrev pub behind_descriptor : Constructor → Bool → Constructor
behind_descriptor bare b = bare
behind_descriptor (under e) b = under e
behind_descriptor (under_pair d e) true = under e
behind_descriptor (under_pair d e) false = under_pair d e

-- what the next item stands under
abbrev pub stands_under : Decoding → Constructor
stands_under d = behind_descriptor d.inherited d.described

-- the same, but ended
abbrev pub as_ended : Decoding → Decoding
as_ended d = record { reading = d.reading; ended = true; inherited = d.inherited; described = d.described; begun = d.begun }
