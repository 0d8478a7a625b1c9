use Rattle.std.proofs.Common.{◌∙◌, ap}
use Rattle.std.proofs.lemmas.Result.{on_ok_weaker}
use Rattle.amqp_ser.specs.declared.staged.Encoding.TheVariants as by
use Rattle.amqp_ser.specs.declared.staged.Stage.TheVariants as at
use Rattle.amqp_ser.proofs.Stages.{opened_parts}
use Rattle.amqp_ser.proofs.staged.write_descriptor.Goals as goal

pub returns-in-List-clause-ok : goal.returns-in-List-clause-ok
returns-in-List-clause-ok g c = on_ok_weaker c.open.result (λ k s x a. opened_parts s _ _ x by.List _ c.args.of.now c.open.new.self (c.in-Awaited.is ∙ ap (λ z. at.Awaited z) c.in-List.is) tt k.0 k.1 a) c.open.ensures.ok

pub returns-in-Map-clause-ok : goal.returns-in-Map-clause-ok
returns-in-Map-clause-ok g c = on_ok_weaker c.open-in-Map.result (λ k s x a. opened_parts s _ _ x by.Map _ c.args.of.now c.open-in-Map.new.self (c.in-Awaited.is ∙ ap (λ z. at.Awaited z) c.in-Map.is) tt k.0 k.1 a) c.open-in-Map.ensures.ok
