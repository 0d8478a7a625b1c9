-- The pairs that are taken out of an ordered map.
use Rattle.std.specs.Iterator.Runs.{YieldsInOrder, YieldsInReverse}
use Rattle.std.specs.declared.alloc.Global.{Global}
use Rattle.std.specs.declared.hash.BuildHasherDefault.{BuildHasherDefault}
use Rattle.std.specs.declared.hash.FoldHasher.{FoldHasher}
use Rattle.indexmap.specs.declared.map.drain.Drain.{Drain}
use Rattle.indexmap.specs.Drain.{drain_rest, DrainSteps, DrainStepsBack, DrainKeepsAlong}

module _ {K V : Type 0} where
  -- The `Drain` hands over the pairs that are left, in order or from the back; the others stay.
  abbrev pub HandsOver : Drain K V (BuildHasherDefault FoldHasher) Global FoldHasher → Type 0
  HandsOver d = YieldsInOrder (DrainSteps {K = K} {V = V} {S = BuildHasherDefault FoldHasher} {A = Global} {H = FoldHasher}) drain_rest
      × YieldsInReverse (DrainStepsBack {K = K} {V = V} {S = BuildHasherDefault FoldHasher} {A = Global} {H = FoldHasher}) drain_rest
      × DrainKeepsAlong d
