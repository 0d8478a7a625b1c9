-- The constructors of the code, and where the code of the next item is.
use Rattle.std.specs.Prelude.{ℕ, Option, Some, None, ◌+◌}
use Rattle.amqp_base.specs.Codes.{row}
use Rattle.amqp_base.specs.declared.format_code.Category.{Category}
use Rattle.amqp_base.specs.declared.format_code.Category.TheVariants.{Fixed, Variable, Compound, Array}
use Rattle.amqp_base.specs.Wire.{Constructor, bare, under, under_pair}
use Rattle.amqp_data.specs.declared.constructor.Constructor.{Constructor as OwnConstructor}
use Rattle.amqp_data.specs.declared.constructor.Constructor.TheVariants.{Bare, Under, UnderPair}
use Rattle.amqp_data.specs.declared.constructor.Limit.{Limit}
use Rattle.amqp_types.specs.Descriptors.{descriptor_of}

abbrev pub constructor_of : OwnConstructor → Constructor
constructor_of Bare = bare
constructor_of (Under e) = under e
constructor_of (UnderPair d e) = under_pair (descriptor_of d) e

-- the position at which the elements of an array must have ended
abbrev pub limit_of : Option Limit → Option ℕ
limit_of None = None
limit_of (Some l) = Some (l.start + l.room)

-- how many bytes are left for them
abbrev pub room_of : Option Limit → Option ℕ
room_of None = None
room_of (Some l) = Some l.room

-- the width that a category names: of data, of a length, or of a size and a count
abbrev pub own_width : Category → ℕ
own_width (Fixed n) = n
own_width (Variable w) = w
own_width (Compound w) = w
own_width (Array w) = w

-- so many bytes an item takes at least
abbrev pub least_width : Constructor → ℕ
least_width bare = 1
least_width (under e) = own_width (row e).category
least_width (under_pair d e) = own_width (row e).category
