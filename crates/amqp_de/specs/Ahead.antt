-- Bytes of parts that are received before these are read.
use Rattle.std.specs.Prelude.{◌≡◌, ℕ, zero, suc, ◌+◌, ◌*◌, ◌<◌, ◌≤◌, max, length, Bool, IsTrue, List, [], ◌∷◌, Option, None, Some}
use Rattle.amqp_base.specs.declared.error.Error.{Error}
use Rattle.amqp_base.specs.declared.format_code.EncodingCodes.{EncodingCodes}
use Rattle.amqp_base.specs.Codes.{row, code_of}
use Rattle.amqp_base.specs.Item.{Item}
use Rattle.amqp_base.specs.Wire.{Constructor, bare, under, under_pair, Wire, lenient}
use Rattle.amqp_read.specs.Reading.{Reading}
use Rattle.amqp_read.specs.Steps.{Looked, Fails}
use Rattle.amqp_data.specs.Places.{least_width, own_width}
use Rattle.amqp_de.specs.Access.{Listing}

-- so many bytes of data stand behind a code at least
abbrev pub behind_code : Option EncodingCodes → ℕ
behind_code None = 0
behind_code (Some e) = own_width (row e).category

-- so many bytes an item of its own constructor takes at least, whose first bytes are these
abbrev pub first_least : List ℕ → ℕ
first_least [] = 1
first_least (x ∷ s) = 1 + behind_code (code_of x)

-- the items that are taken have so many bytes at least, with a constructor of their own
abbrev pub AtLeast : (Item → Bool) → ℕ → Type 0
AtLeast takes n = (t : List ℕ) (i : Item) → Wire lenient bare t i → IsTrue (takes i) → n ≤ length t

-- so many bytes parts take at least, as many as these, of n bytes at least with constructors of their own, of which these
-- bytes are the first
abbrev pub parts_least : ℕ → ℕ → Constructor → List ℕ → ℕ
parts_least n zero c received = 0
parts_least n (suc others) bare received = max n (first_least received) + others * n
parts_least n (suc others) (under e) received = suc others * least_width (under e)
parts_least n (suc others) (under_pair d e) received = suc others * least_width (under_pair d e)

-- so many bytes the parts that are left take at least, where these of them were received
abbrev pub least_left : ℕ → Listing → List ℕ → ℕ
least_left n l received = parts_least n l.left l.state.inherited received

-- the same access, where its reader is in another state
abbrev pub reading_on : Listing → Reading → Listing
reading_on l r = record {
  state = record { reading = r; ended = l.state.ended; inherited = l.state.inherited; described = l.state.described; begun = l.state.begun };
  left = l.left;
  outer = l.outer;
  limit = l.limit;
}

-- Nothing was read. Bytes were received of the parts that are left, no more than these take at least, where they are taken.
pub record Ahead (takes : Item → Bool) (old new : Listing) : Type 0 where
  pub width : ℕ
  pub wide : AtLeast takes width
  pub looked : Looked (least_left width old new.state.reading.received) old.state.reading new.state.reading
  pub is : new ≡ reading_on old new.state.reading

-- the source failed meanwhile, or its bytes found no memory
pub record AheadFails (buffers : Bool) (old new : Listing) (e : Error) : Type 0 where
  pub fails : Fails buffers buffers old.state.reading new.state.reading e
  pub some_left : 0 < old.left
