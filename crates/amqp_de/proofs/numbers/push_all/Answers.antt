-- One number after the other.
use Rattle.std.proofs.Common.{◌≡◌, ℕ, ◌+◌, ◌-◌, ◌*◌, ◌⊎◌, inl, inr, refl, sym, ap, subst, ◌∙◌, arith, [], take}
use Rattle.std.proofs.lemmas.List.{append-nil, take_all}
use Rattle.amqp_base.specs.Wire.{under}
use Rattle.amqp_de.specs.Many.{PutBehind}
use Rattle.amqp_de.proofs.ManyRead.{put_more}
use Rattle.amqp_de.proofs.numbers.push_all.Goals as goal

-- the data of one number more
further : (w k : ℕ) → (w ≡ 4) ⊎ (w ≡ 8) → (k + 1) * w ≡ k * w + w
further w k (inl h) = rw h (omega arith)
further w k (inr h) = rw h (omega arith)

pub loop-k-init : goal.loop-k-init
loop-k-init g c = record { put = record { values = []; meant = let z : 0 * g.row.W ≡ 0 = omega arith in ap (λ n. take n c.args.bytes.now) z; many = refl; items = sym (append-nil _) }; so_many = omega arith; room = refl }

pub push_reserved-requires : goal.push_reserved-requires
push_reserved-requires g c = omega (arith, c.loop-k.invariant.so_many, c.loop-k.invariant.room, c.requires.room, c.loop-k-test.true)

pub loop-k-preserved : goal.loop-k-preserved
loop-k-preserved g c =
    let w = g.row.W in
    let k = c.loop-k.k in
    let f = further w k c.requires.width in
    let p = c.push_reserved.ensures in
    record {
      put = put_more _ _ k (k * w) (k * w + w - k * w) ((k + 1) * w) c.args.bytes.now _ _ _ c.of_data.result c.loop-k.invariant.put (let e = f in omega (arith, e)) c.of_data.ensures p.items;
      so_many = omega (arith, p.len, c.loop-k.invariant.so_many);
      room = p.capacity ∙ c.loop-k.invariant.room;
    }

pub returns : goal.returns
returns g c =
    let w = g.row.W in
    let all : c.loop-k.k ≡ c.args.many = omega (arith, c.loop-k-test.false, c.loop-k.auto.k-end) in
    let whole : take (c.loop-k.k * w) c.args.bytes.now ≡ c.args.bytes.now = take_all (c.loop-k.k * w) c.args.bytes.now (let same : c.loop-k.k * w ≡ c.args.many * w = ap (λ n. n * w) all in omega (arith, same, c.requires.whole)) in
    subst (λ b. PutBehind g.T.Typed.meaning (under g.T.Wide.widest) b c.args.many c.args.items.now.items c.loop-k.items.items) whole (subst (λ n. PutBehind g.T.Typed.meaning (under g.T.Wide.widest) (take (c.loop-k.k * w) c.args.bytes.now) n c.args.items.now.items c.loop-k.items.items) all c.loop-k.invariant.put)
