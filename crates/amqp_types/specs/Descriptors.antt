-- Which descriptor a descriptor of the code is.
use Rattle.std.specs.Prelude.{string_bytes}
use Rattle.amqp_base.specs.Item.{Descriptor, name, code}
use Rattle.amqp_types.specs.declared.described.Descriptor.{Descriptor as OwnDescriptor}
use Rattle.amqp_types.specs.declared.described.Descriptor.TheVariants.{Name, Code}

abbrev pub descriptor_of : OwnDescriptor → Descriptor
descriptor_of (Name s) = name (string_bytes s.0)
descriptor_of (Code n) = code n
