-- Values that are written many at a time, or gathered before they are written.
use Rattle.std.specs.Prelude.{◌≡◌, List, map, string_bytes, ⊤}
use Rattle.amqp_base.specs.Item.{Item, scalar, uint, ulong, int, string}
use Rattle.amqp_ser.specs.declared.serialize.AtOnce.{AtOnce}
use Rattle.amqp_ser.specs.declared.serialize.Primitive.{Primitive}
use Rattle.amqp_ser.specs.declared.compound.Parts.{Parts}

-- the items are these values, where they are such
abbrev pub AreThese : List Item → AtOnce → Type 0
AreThese is AtOnce.Other = ⊤
AreThese is (AtOnce.Ints ns) = is ≡ map (λ n. scalar (int n)) ns.now
AreThese is (AtOnce.Uints ns) = is ≡ map (λ n. scalar (uint n)) ns.now
AreThese is (AtOnce.Ulongs ns) = is ≡ map (λ n. scalar (ulong n)) ns.now
AreThese is (AtOnce.Strings ts) = is ≡ map (λ t. scalar (string (string_bytes t))) ts.now

-- the item is this value, where it is such
abbrev pub IsThis : Item → Primitive → Type 0
IsThis i Primitive.Other = ⊤
IsThis i (Primitive.Int n) = i ≡ scalar (int n)
IsThis i (Primitive.Uint n) = i ≡ scalar (uint n)
IsThis i (Primitive.Ulong n) = i ≡ scalar (ulong n)
IsThis i (Primitive.String t) = i ≡ scalar (string t.now)

-- all but their count is as it was
pub record SameParts (old new : Parts) : Type 0 where
  pub shape : new.shape ≡ old.shape
  pub opened : new.opened ≡ old.opened
  pub answers : new.buffer.state.ended ≡ old.buffer.state.ended
