use Rattle.amqp_ser.specs.Compound.{open_parts}
use Rattle.amqp_ser.proofs.Fronts.{closes_behind, closes_refused}
use Rattle.amqp_ser.proofs.serializer.Serializer.close_behind.Goals as goal

pub returns-in-Ok-clause-law : goal.returns-in-Ok-clause-law
returns-in-Ok-clause-law g c = closes_behind c.args.front (λ pairs. open_parts pairs c.args.self.now.state c.args.parts) _ _ c.close_front.result c.in-Ok.ensures.ok c.close_front.ensures.law

pub returns-in-Err-clause-law : goal.returns-in-Err-clause-law
returns-in-Err-clause-law g c = rw (c.renamed.ensures, c.set_ended.ensures) (closes_refused c.args.front (λ pairs. open_parts pairs c.args.self.now.state c.args.parts) _ _ c.in-Err.ensures.err)
