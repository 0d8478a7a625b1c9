-- What contracts see of the accesses.
use Rattle.std.specs.Borrow.{MutBor}
use Rattle.amqp_data.specs.Places.{constructor_of, limit_of}
use Rattle.amqp_de.specs.Access.{Listing}
use Rattle.amqp_de.specs.Decoding.{Decoding}
use Rattle.amqp_de.specs.declared.deserializer.Deserializer.{Deserializer}
use Rattle.amqp_de.specs.declared.list.Access.{Access}
use Rattle.amqp_de.specs.declared.list.Open.{Open}
use Rattle.amqp_de.specs.declared.seq.SeqAccess.{SeqAccess}
use Rattle.amqp_de.specs.declared.seq.SeqAccess.TheVariants as seq

-- what is open, behind this deserializer
abbrev pub at_open : Decoding → Open → Listing
at_open d o = record { state = d; left = o.left; outer = constructor_of o.outer; limit = limit_of o.limit }

abbrev pub listing : {X F : Type 0} → Access X F Open → Listing
listing a = at_open a.de.now a.inner

abbrev pub seq_listing : {X : Type 0} → SeqAccess X → Listing
seq_listing (seq.List a) = listing a
seq_listing (seq.Array a) = listing a

-- the deserializer that the access borrows
abbrev pub lender_of : {X : Type 0} → SeqAccess X → MutBor (Deserializer X)
lender_of (seq.List a) = a.de
lender_of (seq.Array a) = a.de
