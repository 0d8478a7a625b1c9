use Rattle.std.proofs.Common.{ap, ◌∙◌}
use Rattle.std.specs.Cmp.{nat_cmp_total, tied_itself}
use Rattle.std.specs.Ordering.{nat_cmp}
use Rattle.law_callers.proofs.one_map.Goals as goal

pub returns : goal.returns
returns c = λ v w same. c.same_entries.ensures (λ k l e. ap (λ n. nat_cmp n l) e ∙ tied_itself nat_cmp_total l) v.entries w.entries same
