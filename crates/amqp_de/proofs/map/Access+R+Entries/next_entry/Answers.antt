use Rattle.std.proofs.Common.{rules}
use Rattle.amqp_de.specs.ReadPairs.{no_value, value_named}
use Rattle.amqp_de.specs.ReadParts.{open_list}
use Rattle.amqp_de.proofs.map.Access+R+Entries.next_entry.Goals as goal

pub returns-in-Err-next_value-clause-next : goal.returns-in-Err-next_value-clause-next
returns-in-Err-next_value-clause-next g c = no_value c.in-Ok-Some.key (open_list c.next_key.new.self) (search rules) c.in-Err-next_value.ensures.next

pub returns-in-Err-next_value-clause-named : goal.returns-in-Err-next_value-clause-named
returns-in-Err-next_value-clause-named g c = value_named c.in-Ok-Some.key (open_list c.next_key.new.self) (search rules) c.in-Err-next_value.ensures.named
