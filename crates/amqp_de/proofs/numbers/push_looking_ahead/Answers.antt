-- One number after the other, each behind its own constructor.
use Rattle.std.proofs.Common.{◌+◌, ◌-◌, ◌≤◌, ◌<◌, refl, sym, subst, ◌∙◌, arith, length, drop}
use Rattle.std.proofs.lemmas.List.{get_or-drop, get_or-take, take-take}
use Rattle.amqp_base.specs.Wire.{bare}
use Rattle.amqp_de.specs.Many.{IsElement}
use Rattle.amqp_de.proofs.ManyRead.{put_more}
use Rattle.amqp_de.proofs.numbers.push_looking_ahead.Goals as goal

pub loop-many-preserved : goal.loop-many-preserved
loop-many-preserved g c =
    let k = c.loop-many.many in
    let at = c.loop-many.at in
    let bytes = c.args.bytes.now in
    let v = c.loop-many.invariant in
    let p = c.push_reserved.ensures in
    let n = c.with_next-number.result.1 in
    let rest = length bytes - at in
    let inside : n < rest = omega (arith, c.with_next-number.ensures.few, c.if-bytes-at.true) in
    let few : n ≤ rest = omega (arith, inside) in
    let some : 0 < n = omega (arith, c.if-len-eq0.false) in
    let element = c.with_next-number.ensures.number some in
    record {
      put = put_more _ _ k at n (at + n) bytes _ _ _ c.with_next-number.result.0 v.put refl (subst (λ b. IsElement g.T.Typed.meaning bare b c.with_next-number.result.0) (take-take n rest (drop at bytes) few) element) p.items;
      so_many = omega (arith, p.len, v.so_many);
      room = p.capacity ∙ v.room;
      within = omega (arith, v.within, few);
      few = omega (arith, c.loop-many-test.true);
      code = sym (get_or-take rest (drop at bytes) n 0 inside ∙ get_or-drop at bytes n 0) ∙ c.with_next-number.ensures.next some;
    }
