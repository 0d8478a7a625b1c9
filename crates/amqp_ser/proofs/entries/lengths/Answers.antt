-- The texts of a map's entries are as long as those of each together.
use Rattle.std.proofs.Common.{[], ◌∷◌, arith, subst}
use Rattle.std.specs.Iterator.{Yields}
use Rattle.amqp_base.specs.declared.shape.Setting.TheVariants.{Plain}
use Rattle.amqp_ser.specs.State.{unmarked}
use Rattle.amqp_ser.specs.Gathered.{entry_items}
use Rattle.amqp_write.specs.ManyTexts.{HaveTextsOf}
use Rattle.amqp_write.proofs.ManyTexts.{texts_none}
use Rattle.amqp_ser.proofs.Gathered.{lengths_two}
use Rattle.amqp_ser.proofs.MapPairs.{with_pair}
use Rattle.amqp_ser.proofs.entries.lengths.Goals as goal

pub loop-key-init : goal.loop-key-init
loop-key-init g c = record { texts = ([], texts_none unmarked, omega arith) }

pub loop-key-preserved : goal.loop-key-preserved
loop-key-preserved g c =
    let key = λ (k : g.row.K.Denot). g.K.Typed.meaning.item k Plain in
    let value = λ (x : g.row.V.Denot). g.V.Typed.meaning.item x Plain in
    let came = c.loop-key.yielded in
    let k = c.in-Some.key in
    let v = c.in-Some.value in
    record { texts = with_pair key value (λ is. HaveTextsOf unmarked is c.saturating_add-sum.result) came (k, v) (lengths_two unmarked (entry_items g.K.Typed.meaning g.V.Typed.meaning came) (key k.now ∷ value v.now ∷ []) c.loop-key.sum c.in-Some-two_lengths.len c.saturating_add-sum.result c.saturating_add-sum.ensures c.loop-key.invariant.texts c.in-Some-two_lengths.ensures.texts) }

pub returns : goal.returns
returns g c =
    let yielded = subst (λ s. Yields g.I.Iterator.next_gives s c.loop-key.yielded c.loop-key.key-iterator) c.into_iter-key-iterator.ensures.into_iter_gives c.loop-key.yielded_by in
    let step = subst (λ o. g.I.Iterator.next_gives c.loop-key.key-iterator o c.next.new.self) c.in-None.is c.next.ensures.steps in
    record { texts = (c.loop-key.yielded, (c.next.new.self, (c.loop-key.key-iterator, yielded, step)), c.loop-key.invariant.texts) }
