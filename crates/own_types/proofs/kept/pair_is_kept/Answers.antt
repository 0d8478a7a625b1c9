-- The search stops at a limit where the type is generic.
use Rattle.own_types.proofs.kept.pair_is_kept.Goals as goal

pub returns : goal.returns
returns c = c.kept.ensures _ _ c.from_slice.ensures.only
