-- One string after the other, each behind its own constructor.
use Rattle.std.proofs.Common.{◌+◌, ◌-◌, ◌≤◌, true, string_bytes, refl, subst, ◌∙◌, arith, length, length-take, drop}
use Rattle.std.proofs.lemmas.List.{take-take}
use Rattle.amqp_base.specs.Meaning.{text_of}
use Rattle.amqp_base.specs.Wire.{bare}
use Rattle.amqp_de.specs.Many.{IsElement}
use Rattle.amqp_de.proofs.ManyRead.{put_more}
use Rattle.amqp_de.proofs.strings.StringMany.push_front.Goals as goal

pub push_reserved-requires : goal.push_reserved-requires
push_reserved-requires c = omega (arith, c.loop-many.invariant.so_many, c.loop-many.invariant.room, c.requires, c.loop-many-test.true)

pub loop-many-preserved : goal.loop-many-preserved
loop-many-preserved c =
    let at = c.loop-many.at in
    let bytes = c.args.bytes.now in
    let v = c.loop-many.invariant in
    let p = c.push_reserved.ensures in
    let n = c.in-Some.len in
    let rest = length bytes - at in
    let few : n ≤ rest = let l = length-take rest (drop at bytes) in omega (arith, c.in-Some.ensures.few, l) in
    record {
      put = put_more _ _ c.loop-many.many at n (at + n) bytes _ _ _ c.in-Some.text v.put refl (subst (λ b. IsElement (text_of true string_bytes) bare b c.in-Some.text) (take-take n rest (drop at bytes) few) c.in-Some.ensures.string) p.items;
      so_many = omega (arith, p.len, v.so_many);
      room = p.capacity ∙ v.room;
      within = omega (arith, v.within, few);
      few = omega (arith, c.loop-many-test.true);
    }
