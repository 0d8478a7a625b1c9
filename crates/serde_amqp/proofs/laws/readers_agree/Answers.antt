use Rattle.serde_amqp.proofs.OverSource.{agree, agree_behind}
use Rattle.serde_amqp.proofs.laws.readers_agree.Goals as goal

pub returns-clause-answers : goal.returns-clause-answers
returns-clause-answers g c = agree g.T.Typed.meaning

pub returns-clause-behind : goal.returns-clause-behind
returns-clause-behind g c = agree_behind g.T.Typed.meaning
