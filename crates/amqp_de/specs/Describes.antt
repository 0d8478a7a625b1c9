-- A descriptor in front of a value.
use Rattle.std.specs.Prelude.{◌≡◌, ℕ, ◌+◌, ◌*◌, ◌≤◌, ◌⊎◌, Bool, true, false, List, ◌∷◌, ◌++◌, length, Some, Ok, Err}
use Rattle.amqp_base.specs.declared.error.Error.{Error}
use Rattle.amqp_base.specs.Describing.{is_described, describing_at, is_behind, DescribedThen}
use Rattle.amqp_base.specs.Item.{Descriptor, Item, described}
use Rattle.amqp_base.specs.Laws.{items_under}
use Rattle.amqp_base.specs.Refusals.{IsMessage, StandsFor}
use Rattle.amqp_base.specs.Refusing.{Refusing}
use Rattle.amqp_base.specs.Wire.{Wire, lenient, DescriptorText}
use Rattle.amqp_read.specs.Reading.{Reading, Takes}
use Rattle.amqp_data.specs.Arrays.{RejectsFor}
use Rattle.amqp_data.specs.Parts.{shared_by}
use Rattle.amqp_de.specs.Decoding.{Decoding, stands_under}
use Rattle.amqp_de.specs.Law.{Missed, Named, free, refused_free}
use Rattle.amqp_de.specs.Look.{looked_at}

-- 0x00 and a descriptor were consumed
pub record TakesDescribing (d : Descriptor) (old new : Reading) : Type 0 where
  pub text : List ℕ
  pub spelled : DescriptorText text d
  pub step : Takes old new (0 ∷ text)

-- The descriptor of the next item was answered: its bytes were consumed, or it was inherited. Its value stands next.
pub record Describes (d : Descriptor) (old new : Decoding) : Type 0 where
  pub text : List ℕ
  pub step : Takes old.reading new.reading text
  -- a value behind it makes the described item
  pub whole : (b : List ℕ) (v : Item) → Wire lenient (stands_under new) b v → Wire lenient (stands_under old) (text ++ b) (described d v)
  -- and a described item at the front has this descriptor, and its value behind it
  pub only : (t rest : List ℕ) (e : Descriptor) (v : Item) → Wire lenient (stands_under old) t (described e v) → old.reading.to_come ≡ Some (t ++ rest)
      → (e ≡ d) × (b : List ℕ) × Wire lenient (stands_under new) b v × (new.reading.to_come ≡ Some (b ++ rest))
  -- it is what the bytes say
  pub exact : (s : List ℕ) → old.reading.to_come ≡ Some s
      → (rest : List ℕ) × (new.reading.to_come ≡ Some rest) × ((custom : Error) → describing_at custom (stands_under old) s ≡ Ok (record { descriptor = d; stands = stands_under new }, rest))
  pub before : old.ended ≡ false
  pub inherited : new.inherited ≡ old.inherited
  pub not_ended : new.ended ≡ false
  -- its value has its own constructor, or an element's code
  pub alone : shared_by (stands_under new) ≡ 0
  -- a byte that a look would show is the item's own
  pub own : looked_at (stands_under old) ≤ length text
  pub counts : (v : Item) → new.begun + items_under (stands_under new) v ≡ old.begun + items_under (stands_under old) (described d v)
  pub spent : new.begun + 16384 * old.reading.taken + free (stands_under new) ≤ old.begun + 16384 * new.reading.taken + free (stands_under old)
  pub refused_spent : new.begun + 16384 * old.reading.taken + refused_free (stands_under new) ≤ old.begun + 16384 * new.reading.taken + refused_free (stands_under old)

-- no descriptor was answered: by the first rule that the bytes break
pub record NoDescriptor (buffers : Bool) (old new : Decoding) (e : Error) : Type 0 where
  pub missed : Missed is_described true buffers old new e
  pub rejects : old.ended ≡ false → RejectsFor (λ custom. describing_at custom (stands_under old)) buffers old.reading new.reading e

-- ---- one of the descriptors that are wanted

-- it was answered
pub record DescribesAmong (among : Descriptor → Bool) (old new : Decoding) : Type 0 where
  pub descriptor : Descriptor
  pub describes : Describes descriptor old new
  pub wanted : among descriptor ≡ true

-- none is seen there, or another one, which is a message
unfoldable pub none_among : (Descriptor → Bool) → Refusing
none_among among c s e =
    ((custom : Error) → StandsFor custom e → describing_at custom c s ≡ Err e)
    ⊎ DescribedThen (λ f rest. (among f.descriptor ≡ false) × IsMessage e) c s

-- it was not: no item stands there behind one of them; and this is the refusal
pub record DescribesNone (among : Descriptor → Bool) (buffers : Bool) (old new : Decoding) (e : Error) : Type 0 where
  pub missed : Missed (is_behind among (λ _. true)) true buffers old new e
  pub named : Named (none_among among) true buffers old new e
