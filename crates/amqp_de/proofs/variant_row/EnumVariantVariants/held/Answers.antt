use Rattle.std.proofs.Common.{sym, ◌∙◌}
use Rattle.amqp_de.specs.VariantKeys.{key_view}
use Rattle.amqp_de.proofs.VariantsRead.{first_refused}
use Rattle.amqp_de.proofs.variant_row.EnumVariantVariants.held.Goals.{in-Ok, in-Err}
use Rattle.amqp_de.proofs.variant_row.EnumVariantVariants.held.Goals as goal

pub returns-then-is_first-clause-err : goal.returns-then-is_first-clause-err
returns-then-is_first-clause-err g c =
    elim c.match-held.branch [
      | in-Ok w ↦ rw w.result-is tt
      | in-Err w ↦
          rw w.result-is (first_refused c.args.self.now.name.now g.P.Payload.payload (g.Rest.Variants.variants c.args.self.now.rest) (key_view c.args.key) _ _ g.R.Read.buffers _ (sym c.is_first.ensures ∙ c.if-is_first.true) w.in-Err.ensures.err)
    ]
