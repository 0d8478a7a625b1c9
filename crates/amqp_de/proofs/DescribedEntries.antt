-- A pair of a described struct is refused by its value.
use Rattle.std.proofs.Common.{◌≡◌, Bool, Some, Ok, Err}
use Rattle.amqp_base.specs.declared.error.Error.{Error}
use Rattle.amqp_base.specs.Meaning.{Meaning}
use Rattle.amqp_de.specs.Access.{Listing}
use Rattle.amqp_de.specs.DescribedStructs.{DescribedKey, DescribedValue, DescribedEntry, DescribedValueNamed, DescribedEntryNamed}
use Rattle.amqp_de.specs.ReadPairs.{no_value, value_named}
use Rattle.amqp_de.specs.declared.described_structs.Stage.{Stage}
use Rattle.amqp_de.specs.declared.described_structs.Stage.TheVariants.{Before, Elements, Entries}

pub value_refused : {K V : Type 0} (k : Meaning K) (v : Meaning V) (buffers : Bool) (s t : Stage) (key : K) (old mid new : Listing) (e : Error) → t ≡ s → DescribedKey k buffers s old (Ok (Some key)) mid → DescribedValue v buffers t mid (Err e) new → DescribedEntry k v buffers s old (Err e) new
value_refused k v buffers Entries t key old mid new e h p q = no_value key mid p (rw h at q)
value_refused k v buffers Elements t key old mid new e h p q = absurd cc (p.0)
value_refused k v buffers (Before x) t key old mid new e h p q = absurd cc (p.0)

-- and by name
pub named_by_value : {K V : Type 0} (k : Meaning K) (v : Meaning V) (buffers : Bool) (s t : Stage) (key : K) (old mid new : Listing) (e : Error) → t ≡ s → DescribedKey k buffers s old (Ok (Some key)) mid → DescribedValueNamed v buffers t mid new e → DescribedEntryNamed k v buffers s old new e
named_by_value k v buffers Entries t key old mid new e h p n = value_named key mid p (rw h at n)
named_by_value k v buffers Elements t key old mid new e h p n = tt
named_by_value k v buffers (Before x) t key old mid new e h p n = tt
