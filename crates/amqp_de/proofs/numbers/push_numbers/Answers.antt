-- One number after the other, each behind its own constructor.
use Rattle.std.proofs.Common.{◌+◌, ◌-◌, ◌≤◌, refl, subst, ◌∙◌, arith, length, length-take, drop}
use Rattle.std.proofs.lemmas.List.{take-take}
use Rattle.amqp_base.specs.Wire.{bare}
use Rattle.amqp_de.specs.Many.{IsElement}
use Rattle.amqp_de.proofs.ManyRead.{put_more}
use Rattle.amqp_de.proofs.numbers.push_numbers.Goals as goal

pub push_reserved-requires : goal.push_reserved-requires
push_reserved-requires g c = omega (arith, c.loop-many.invariant.so_many, c.loop-many.invariant.room, c.requires.room, c.loop-many-test.true)

pub loop-many-preserved : goal.loop-many-preserved
loop-many-preserved g c =
    let k = c.loop-many.many in
    let at = c.loop-many.at in
    let bytes = c.args.bytes.now in
    let v = c.loop-many.invariant in
    let p = c.push_reserved.ensures in
    let n = c.at_front-number.result.1 in
    let rest = length bytes - at in
    let few : n ≤ rest = let l = length-take rest (drop at bytes) in omega (arith, c.at_front-number.ensures.few, l) in
    let element = c.at_front-number.ensures.number (omega (arith, c.if-len-eq0.false)) in
    record {
      put = put_more _ _ k at n (at + n) bytes _ _ _ c.at_front-number.result.0 v.put refl (subst (λ b. IsElement g.T.Typed.meaning bare b c.at_front-number.result.0) (take-take n rest (drop at bytes) few) element) p.items;
      so_many = omega (arith, p.len, v.so_many);
      room = p.capacity ∙ v.room;
      within = omega (arith, v.within, few);
      few = omega (arith, c.loop-many-test.true);
    }
