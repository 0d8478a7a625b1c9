-- The text of an item where it stands, and why one that has no text isn't written.
use Rattle.std.specs.Prelude.{◌≡◌, ℕ, nat_lt, if◌then◌else◌, List, ◌++◌, length, Option, None, Some}
use Rattle.std.specs.declared.io.ErrorKind.TheVariants.{Other}
use Rattle.amqp_base.specs.Item.{Scalar, binary, string, symbol, Item, scalar, list, map, array, described, descriptor_item, Items, none, more, Pairs, no_pairs, pair}
use Rattle.amqp_base.specs.Wire.{Constructor}
use Rattle.amqp_base.specs.Canon.{◌>>=◌, limit, canon, canons, pair_canons, body, array_body, kind_code, constructor_text, descriptor_text, is_under}
use Rattle.amqp_base.specs.Sizes.{length_of}
use Rattle.amqp_base.specs.declared.format_code.EncodingCodes.{EncodingCodes}
use Rattle.amqp_base.specs.declared.format_code.EncodingCodes.TheVariants.{Str32, Sym32}
use Rattle.amqp_base.specs.declared.shape.Setting.{Setting}
use Rattle.amqp_base.specs.declared.shape.Setting.TheVariants.{Plain, Symbol, DescribedList, DescribedMap, DescribedBasic}
use Rattle.amqp_base.specs.declared.error.Error.{Error}
use Rattle.amqp_base.specs.declared.error.Error.TheVariants.{Io, InvalidValue}
use Rattle.amqp_write.specs.State.{Mark, unmarked, first, other}

-- the codes of a text: the byte of the one with a length of one byte, and the one with four (sections 1.6.20 and 1.6.21)
abbrev pub text_codes : Setting → ℕ × EncodingCodes
text_codes Plain = (0xa1, Str32)
text_codes Symbol = (0xa3, Sym32)
text_codes DescribedList = (0xa1, Str32)
text_codes DescribedMap = (0xa1, Str32)
text_codes DescribedBasic = (0xa1, Str32)

-- data behind its constructor, as the mark has it
abbrev pub placed : Mark → Option Constructor → Option (List ℕ) → Option (List ℕ)
placed unmarked c b = None
placed first c b = c >>= λ d. constructor_text d >>= λ m. b >>= λ a. Some (m ++ a)
placed (other d) c b = if is_under d c then b else None

-- the text of an item, as the mark has it
unfoldable pub marked : Mark → Item → Option (List ℕ)
marked unmarked i = canon i
marked first i = placed first (kind_code i) (body i)
marked (other d) i = placed (other d) (kind_code i) (body i)

abbrev pub other_of : Option Constructor → Mark
other_of None = first
other_of (Some c) = other c

-- the mark behind an item
abbrev pub mark_after : Mark → Item → Mark
mark_after unmarked i = unmarked
mark_after first i = other_of (kind_code i)
mark_after (other d) i = other d

-- the bytes of a payload; an item of fixed width has none
abbrev pub payload_length : Scalar → ℕ
payload_length (binary b) = length b
payload_length (string b) = length b
payload_length (symbol b) = length b
payload_length v = 0

-- the refusal where there is no text: too long a payload or body, else an element that can't stand there
abbrev pub unwritten : ℕ → Error
unwritten n = if nat_lt limit n then Io Other else InvalidValue

-- the refusal of what has no text, before that of what follows it
abbrev pub or_later : Option (List ℕ) → Error → Option Error → Option Error
or_later None e later = Some e
or_later (Some b) e later = later

-- the refusal of a part, before that of the whole
abbrev pub or_whole : Option Error → Error → Error
or_whole (Some e) whole = e
or_whole None whole = whole

unfoldable mutual
  -- Why an item that has no text isn't written: by its first part that has none where it stands; else its payload or
  -- body is too long, or it can't be an element of this array. This profile's own rule.
  pub why_unwritten : Item → Error
  why_unwritten (scalar v) = unwritten (payload_length v)
  why_unwritten (list is) = or_whole (why_part unmarked is) (unwritten (length_of (canons is)))
  why_unwritten (map ps) = or_whole (why_pair ps) (unwritten (length_of (pair_canons ps)))
  why_unwritten (array is) = or_whole (why_part first is) (unwritten (length_of (array_body is)))
  why_unwritten (described d v) = or_whole (or_later (descriptor_text d) (unwritten (payload_length (descriptor_item d))) None) (why_unwritten v)

  -- of the first of some items that has no text, where they stand one after the other
  pub why_part : Mark → Items → Option Error
  why_part m none = None
  why_part m (more i is) = or_later (marked m i) (why_unwritten i) (why_part (mark_after m i) is)

  -- of the first key or value that has no text
  pub why_pair : Pairs → Option Error
  why_pair no_pairs = None
  why_pair (pair k v ps) = or_later (canon k) (why_unwritten k) (or_later (canon v) (why_unwritten v) (why_pair ps))

-- the item has no text, and is refused by this name
pub record HasNoText (i : Item) (e : Error) : Type 0 where
  pub none : canon i ≡ None
  pub named : e ≡ why_unwritten i
