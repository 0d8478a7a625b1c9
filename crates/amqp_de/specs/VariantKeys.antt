-- The key by which an item names a variant of an enum.
use Rattle.std.specs.Prelude.{◌≡◌, false, string_bytes}
use Rattle.amqp_base.specs.Codes.{Kind}
use Rattle.amqp_base.specs.VariantItems.{Key, index, named, is_key_kind}
use Rattle.amqp_de.specs.declared.variant_key.VariantKey.{VariantKey}
use Rattle.amqp_de.specs.declared.variant_key.VariantKey.TheVariants.{Index, Name}
use Rattle.amqp_de.specs.declared.variant_key.KeyKind.{KeyKind}
use Rattle.amqp_de.specs.declared.variant_key.KeyKind.TheVariants.{Uint, Ulong, String, Symbol, Other}

-- as definitions see it
abbrev pub key_view : VariantKey → Key
key_view (Index n) = index n
key_view (Name s) = named (string_bytes s)

-- what a key of a kind is
abbrev pub KindIs : KeyKind → Kind → Type 0
KindIs Uint k = k ≡ Kind.uint
KindIs Ulong k = k ≡ Kind.ulong
KindIs String k = k ≡ Kind.string
KindIs Symbol k = k ≡ Kind.symbol
KindIs Other k = is_key_kind k ≡ false
