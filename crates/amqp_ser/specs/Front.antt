-- What stands in front of a value that is written behind a descriptor, part by part.
use Rattle.std.specs.Prelude.{◌≡◌, Bool, true, false, Some, None, Result, Ok, Err, [], if◌then◌else◌}
use Rattle.std.specs.declared.io.ErrorKind.TheVariants.{Other as IoOther}
use Rattle.amqp_base.specs.declared.error.Error.{Error}
use Rattle.amqp_base.specs.declared.error.Error.TheVariants.{Io, InvalidValue}
use Rattle.amqp_base.specs.declared.format_code.EncodingCodes.{EncodingCodes}
use Rattle.amqp_base.specs.declared.shape.Setting.TheVariants.{DescribedBasic}
use Rattle.amqp_base.specs.Canon.{descriptor_text, same_descriptor}
use Rattle.amqp_base.specs.Item.{Descriptor, Item, described}
use Rattle.amqp_base.specs.Wire.{under, under_pair}
use Rattle.amqp_types.specs.Descriptors.{descriptor_of}
use Rattle.amqp_write.specs.Appending.{Pays}
use Rattle.amqp_ser.specs.State.{State, unmarked, first, other}
use Rattle.amqp_ser.specs.Law.{marked}
use Rattle.amqp_ser.specs.Compound.{Back, back, outer_in}
use Rattle.amqp_ser.specs.Describing.{describing, why_undescribed}
use Rattle.amqp_ser.specs.declared.front.Front.{Front}
use Rattle.amqp_ser.specs.declared.front.Front.TheVariants as at

-- 0x00 and a descriptor were written where an item with its own constructor is to stand
pub record PutsFront (s : State) (d : Descriptor) (u : State) : Type 0 where
  pub behind : State
  pub pays : Pays {A = Unit {0}} (record s { mark = unmarked }) (describing d) s.found [] (why_undescribed d) (Ok tt) behind
  pub is : u ≡ record behind { setting = DescribedBasic; mark = s.mark }

-- it stands there already, for all elements of an array
pub record Shares (s : State) (d : Descriptor) (b : Back) (long : Bool) (u : State) : Type 0 where
  pub own : Descriptor
  pub code : EncodingCodes
  pub mark : s.mark ≡ other (under_pair own code)
  pub same : same_descriptor own d ≡ true
  pub outer : b ≡ record { setting = s.setting; mark = s.mark; found = s.found }
  pub is : u ≡ record s { setting = DescribedBasic; mark = other (under code); found = None }
  pub text : descriptor_text d ≡ None → why_undescribed d ≡ Io IoOther
  pub name : why_undescribed d ≡ (if long then Io IoOther else InvalidValue)

-- from s to u by what stands in front of a value behind this descriptor
abbrev pub Stands : State → Descriptor → Front → State → Type 0
Stands s d (at.Alone k) u = (s.mark ≡ unmarked) × (k ≡ s.setting) × PutsFront s d u
Stands s d (at.First k own) u = (s.mark ≡ first) × (k ≡ s.setting) × (descriptor_of own ≡ d) × PutsFront s d u
Stands s d (at.Again outer long) u = Shares s d (outer_in outer) long u
Stands s d at.Nowhere u = ((v : Item) → marked s.mark (described d v) ≡ None) × PutsFront (record s { mark = unmarked }) d u

-- the refusal of the whole whose value was refused so: a descriptor that is too long comes first
abbrev pub long_first : Error → Error
long_first InvalidValue = Io IoOther
long_first e = e

abbrev pub renamed : Front → Error → Error
renamed (at.Again outer true) e = long_first e
renamed (at.Again outer false) e = e
renamed (at.Alone k) e = e
renamed (at.First k own) e = e
renamed at.Nowhere e = e

-- the value behind the descriptor is in place
abbrev pub ClosesFront : Front → State → Result (Unit {0}) Error → State → Type 0
ClosesFront (at.Alone k) s (Ok x) t = t ≡ record s { setting = k }
ClosesFront (at.Alone k) s (Err e) t = ⊥
ClosesFront (at.First k own) s (Ok x) t = (c : EncodingCodes) × (s.found ≡ Some (under c)) × (t ≡ record s { setting = k; mark = first; found = Some (under_pair (descriptor_of own) c) })
ClosesFront (at.First k own) s (Err e) t = (c : EncodingCodes) → s.found ≡ Some (under c) → ⊥
ClosesFront (at.Again outer long) s (Ok x) t = t ≡ back (outer_in outer) s
ClosesFront (at.Again outer long) s (Err e) t = ⊥
ClosesFront at.Nowhere s (Ok x) t = ⊥
ClosesFront at.Nowhere s (Err e) t = (e ≡ InvalidValue) × (t ≡ record s { ended = true })
