use Rattle.std.proofs.Common.{◌≡◌, ◌<◌, Some, None, sym, ◌∙◌, subst, arith, length, drop}
use Rattle.std.specs.Prelude.{slice_get}
use Rattle.std.specs.Map.Iter.{deref_pair}
use Rattle.std.proofs.lemmas.Option.{slice_get_within}
use Rattle.std.proofs.lemmas.List.{length-drop}
use Rattle.std.specs.Cmp.Lexicographic.{slice_partial_cmp}
use Rattle.amqp_types.specs.OrderedMaps.{keys_first_partly}
use Rattle.amqp_types.proofs.MapOrder.{turn, second_ends, first_ends, is_less}
use Rattle.amqp_types.proofs.map_order.OrderedMapPartialOrd.partial_cmp.Goals as goal

pub overflow_add-i : goal.overflow_add-i
overflow_add-i g c =
    let one = subst (λ l. Some (deref_pair c.in-Some.one) ≡ slice_get l c.pairs.i) c.as_inner.ensures c.in-Some.ensures.entry in
    let within = slice_get_within c.args.self.now c.pairs.i _ (sym one) in
    omega (arith, within, c.len-len.ensures.len)

pub pairs-preserved : goal.pairs-preserved
pairs-preserved g c =
    let one = subst (λ l. Some (deref_pair c.in-Some.one) ≡ slice_get l c.pairs.i) c.as_inner.ensures c.in-Some.ensures.entry in
    let two = subst (λ l. Some (deref_pair c.in-Some-get_index.two) ≡ slice_get l c.pairs.i) c.as_inner-in-Some.ensures c.in-Some-get_index.ensures.entry in
    let here = slice_get_within c.args.self.now c.pairs.i _ (sym one) in
    let there = slice_get_within c.args.other.now c.pairs.i _ (sym two) in
    record {
      rest = turn c.args.self.now c.args.other.now c.pairs.i _ _ one two (keys_first_partly g.K.PartialOrd.partial_cmp g.V.PartialOrd.partial_cmp) _ _ (rw c.in-Some-Equal.field-0-is at c.in-Some-Equal.ensures) c.pairs.invariant.rest;
      here = omega (arith, here);
      there = omega (arith, there);
    }

pub returns-in-Some-Less : goal.returns-in-Some-Less
returns-in-Some-Less g c =
    let one = subst (λ l. Some (deref_pair c.in-Some.one) ≡ slice_get l c.pairs.i) c.as_inner.ensures c.in-Some.ensures.entry in
    let two = subst (λ l. Some (deref_pair c.in-Some-get_index.two) ≡ slice_get l c.pairs.i) c.as_inner-in-Some.ensures c.in-Some-get_index.ensures.entry in
    turn c.args.self.now c.args.other.now c.pairs.i _ _ one two (keys_first_partly g.K.PartialOrd.partial_cmp g.V.PartialOrd.partial_cmp) _ _ (rw c.in-Some-Less.field-0-is at c.in-Some-Less.ensures) c.pairs.invariant.rest

pub returns-in-Some-Greater : goal.returns-in-Some-Greater
returns-in-Some-Greater g c =
    let one = subst (λ l. Some (deref_pair c.in-Some.one) ≡ slice_get l c.pairs.i) c.as_inner.ensures c.in-Some.ensures.entry in
    let two = subst (λ l. Some (deref_pair c.in-Some-get_index.two) ≡ slice_get l c.pairs.i) c.as_inner-in-Some.ensures c.in-Some-get_index.ensures.entry in
    turn c.args.self.now c.args.other.now c.pairs.i _ _ one two (keys_first_partly g.K.PartialOrd.partial_cmp g.V.PartialOrd.partial_cmp) _ _ (rw c.in-Some-Greater.field-0-is at c.in-Some-Greater.ensures) c.pairs.invariant.rest

pub returns-in-None-partial_cmp : goal.returns-in-None-partial_cmp
returns-in-None-partial_cmp g c =
    let one = subst (λ l. Some (deref_pair c.in-Some.one) ≡ slice_get l c.pairs.i) c.as_inner.ensures c.in-Some.ensures.entry in
    let two = subst (λ l. Some (deref_pair c.in-Some-get_index.two) ≡ slice_get l c.pairs.i) c.as_inner-in-Some.ensures c.in-Some-get_index.ensures.entry in
    turn c.args.self.now c.args.other.now c.pairs.i _ _ one two (keys_first_partly g.K.PartialOrd.partial_cmp g.V.PartialOrd.partial_cmp) _ _ c.in-None-partial_cmp.ensures c.pairs.invariant.rest

pub returns-in-None : goal.returns-in-None
returns-in-None g c =
    let one = subst (λ l. Some (deref_pair c.in-Some.one) ≡ slice_get l c.pairs.i) c.as_inner.ensures c.in-Some.ensures.entry in
    let none = subst (λ l. None ≡ slice_get l c.pairs.i) c.as_inner-in-Some.ensures c.in-None.ensures.entry in
    second_ends (slice_partial_cmp (keys_first_partly g.K.PartialOrd.partial_cmp g.V.PartialOrd.partial_cmp)) c.args.self.now c.args.other.now c.pairs.i _ one none ∙ c.pairs.invariant.rest

pub returns-then-len : goal.returns-then-len
returns-then-len g c =
    let P = keys_first_partly g.K.PartialOrd.partial_cmp g.V.PartialOrd.partial_cmp in
    let ys = c.args.other.now in
    let none = subst (λ l. None ≡ slice_get l c.pairs.i) c.as_inner.ensures c.in_default.ensures.entry in
    let long = length-drop c.pairs.i ys in
    let here = c.pairs.invariant.here in
    let left : 0 < length (drop c.pairs.i ys) = omega (arith, long, here, c.if-len.true, c.len-len.ensures.len, c.len.ensures.len) in
    is_less P (drop c.pairs.i ys) left ∙ (first_ends (slice_partial_cmp P) c.args.self.now ys c.pairs.i none ∙ c.pairs.invariant.rest)
