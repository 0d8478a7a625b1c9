-- One law after the other.
use Rattle.law_callers.proofs.written_is_skipped.Goals as goal

pub returns : goal.returns
returns c = λ i b y h t. c.raw_agrees.ensures b i (c.canon_strict.ensures.strict i b h) t y
