use Rattle.law_callers.proofs.strings_are_read_back.Goals as goal

pub returns : goal.returns
returns c = λ v b rest h k. (c.round_trip.ensures v b rest (λ i d j. tt) h k).2
