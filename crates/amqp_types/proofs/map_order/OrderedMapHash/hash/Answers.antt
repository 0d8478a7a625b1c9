use Rattle.std.proofs.Common.{◌≡◌, ◌++◌, Some, sym, ap, ◌∙◌, subst, arith}
use Rattle.std.specs.Prelude.{slice_get, fold}
use Rattle.std.specs.Hash.{fed_then}
use Rattle.std.proofs.hash.Loops.{each_more}
use Rattle.std.proofs.lemmas.Option.{slice_get_within, get_or_from_slice_get}
use Rattle.amqp_types.proofs.map_order.OrderedMapHash.hash.Goals as goal

pub pairs-preserved : goal.pairs-preserved
pairs-preserved g c =
    let xs = c.args.self.now in
    let i = c.pairs.i in
    let x : g.row.K.Denot × g.row.V.Denot = (c.in-Some.key.now, c.in-Some.value.now) in
    let write = g.H.Hasher.write in
    let one = subst (λ l. Some x ≡ slice_get l i) c.as_inner.ensures c.in-Some.ensures.entry in
    let here = slice_get_within xs i x (sym one) in
    let more = each_more write (λ p. g.K.Hash.hash_input p.0 ++ g.V.Hash.hash_input p.1) c.write_usize.new.self xs i x here (sym (get_or_from_slice_get xs i x x (sym one))) in
    let both = fed_then write c.pairs.state c.hash.new.state c.hash-in-Some.new.state (g.K.Hash.hash_input x.0) (g.V.Hash.hash_input x.1) c.hash.ensures c.hash-in-Some.ensures in
    record {
      fed = both ∙ (ap (λ s. fold write s (g.K.Hash.hash_input x.0 ++ g.V.Hash.hash_input x.1)) c.pairs.invariant.fed ∙ sym more);
      here = omega (arith, here);
    }
