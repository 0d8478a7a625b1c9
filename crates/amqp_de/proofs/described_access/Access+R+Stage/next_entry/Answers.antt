use Rattle.std.proofs.Common.{rules}
use Rattle.amqp_de.proofs.DescribedEntries.{value_refused, named_by_value}
use Rattle.amqp_de.proofs.described_access.Access+R+Stage.next_entry.Goals as goal

pub returns-in-Err-next_value-clause-next : goal.returns-in-Err-next_value-clause-next
returns-in-Err-next_value-clause-next g c = value_refused g.K.Typed.meaning g.V.Typed.meaning g.R.Read.buffers _ _ c.in-Ok-Some.key _ _ _ _ c.next_key.ensures.stage (search rules) c.in-Err-next_value.ensures.next

pub returns-in-Err-next_value-clause-named : goal.returns-in-Err-next_value-clause-named
returns-in-Err-next_value-clause-named g c = named_by_value g.K.Typed.meaning g.V.Typed.meaning g.R.Read.buffers _ _ c.in-Ok-Some.key _ _ _ _ c.next_key.ensures.stage (search rules) c.in-Err-next_value.ensures.named
