-- Each entry is gathered, or written behind those that were.
use Rattle.std.proofs.Common.{refl, [], ◌∷◌, ◌++◌, ◌∙◌, map, subst}
use Rattle.std.proofs.lemmas.Result.{on_ok_weaker, IfErr-weaker}
use Rattle.std.specs.Iterator.{Yields}
use Rattle.std.specs.Map.Iter.{deref_pair}
use Rattle.amqp_base.specs.declared.shape.Setting.TheVariants.{Plain}
use Rattle.amqp_ser.specs.Compound.{map_state, BeginsWith}
use Rattle.amqp_ser.specs.Gathered.{Gathers, entry_items}
use Rattle.amqp_ser.proofs.Gathered.{gathers_none}
use Rattle.amqp_ser.proofs.MapPairs.{pairs_complete, with_pair, last_pair, yields_more}
use Rattle.amqp_ser.proofs.entries.MapSerializer+W.write_entries.Goals as goal

pub loop-key-init : goal.loop-key-init
loop-key-init g c = record { same_reference = refl; gathers = λ s h. gathers_none s [] (map_state c.args.self.now) c.none-gathered.result _ c.none-gathered.ensures h }

pub loop-key-preserved-in-Some-put : goal.loop-key-preserved-in-Some-put
loop-key-preserved-in-Some-put g c =
    let key = λ (k : g.row.K.Denot). g.K.Typed.meaning.item k Plain in
    let value = λ (x : g.row.V.Denot). g.V.Typed.meaning.item x Plain in
    let came = c.loop-key.yielded in
    record {
      same_reference = c.loop-key.invariant.same_reference;
      gathers = λ s h. with_pair key value (λ is. Gathers s is (map_state c.loop-key.self) c.in-Some-put.more c.put.new.block) came (c.in-Some.key, c.in-Some.value) (c.in-Some-put.ensures.more s (entry_items g.K.Typed.meaning g.V.Typed.meaning came) (map_state c.loop-key.self) (c.loop-key.invariant.gathers s h));
    }

pub loop-key-preserved-in-Some-put-2 : goal.loop-key-preserved-in-Some-put-2
loop-key-preserved-in-Some-put-2 g c =
    let key = λ (k : g.row.K.Denot). g.K.Typed.meaning.item k Plain in
    let value = λ (x : g.row.V.Denot). g.V.Typed.meaning.item x Plain in
    let came = c.loop-key.yielded in
    let items = entry_items g.K.Typed.meaning g.V.Typed.meaning came in
    record {
      same_reference = c.in-Ok.ensures.same_reference ∙ c.loop-key.invariant.same_reference;
      gathers = λ s h. with_pair key value (λ is. Gathers s is (map_state c.hand_on.new.self) c.in-Some-put-2.more c.put-in-loop-key.new.block) came (c.in-Some.key, c.in-Some.value)
          (c.in-Some-put-2.ensures.more s items (map_state c.hand_on.new.self) (gathers_none s items (map_state c.hand_on.new.self) c.none-gathered-in-Ok.result c.put.new.block c.none-gathered-in-Ok.ensures
          (c.in-Ok.ensures.ok s items (c.in-None-put.ensures.none refl s items (map_state c.loop-key.self) (c.loop-key.invariant.gathers s h)))));
    }

pub loop-key-preserved : goal.loop-key-preserved
loop-key-preserved g c =
    let key = λ (k : g.row.K.Denot). g.K.Typed.meaning.item k Plain in
    let value = λ (x : g.row.V.Denot). g.V.Typed.meaning.item x Plain in
    let came = c.loop-key.yielded in
    let items = entry_items g.K.Typed.meaning g.V.Typed.meaning came in
    record {
      same_reference = c.in-Ok-serialize_entry.ensures.same_reference ∙ (c.in-Ok.ensures.same_reference ∙ c.loop-key.invariant.same_reference);
      gathers = λ s h. with_pair key value (λ is. Gathers s is (map_state c.serialize_entry.new.self) c.none-gathered-in-Ok.result c.put-in-loop-key.new.block) came (c.in-Some.key, c.in-Some.value)
          (gathers_none s _ (map_state c.serialize_entry.new.self) c.none-gathered-in-Ok.result c.put-in-loop-key.new.block c.none-gathered-in-Ok.ensures
          (c.in-Ok-serialize_entry.ensures.law.ok s items (c.in-Ok.ensures.ok s items (c.in-None-put.ensures.none refl s items (map_state c.loop-key.self) (c.loop-key.invariant.gathers s h)))));
    }

pub returns-in-Err-clause-err : goal.returns-in-Err-clause-err
returns-in-Err-clause-err g c =
    let came = c.loop-key.yielded in
    let items = entry_items g.K.Typed.meaning g.V.Typed.meaning came in
    let yielded = subst (λ s. Yields g.I.Iterator.next_gives s came c.loop-key.key-iterator) c.into_iter-key-iterator.ensures.into_iter_gives c.loop-key.yielded_by in
    (came, c.loop-key.key-iterator, yielded, λ s all h begins complete. c.in-Err.ensures.err s items all (c.in-None-put.ensures.none refl s items (map_state c.loop-key.self) (c.loop-key.invariant.gathers s h)))

pub returns-in-Err-serialize_entry-clause-err : goal.returns-in-Err-serialize_entry-clause-err
returns-in-Err-serialize_entry-clause-err g c =
    let key = λ (k : g.row.K.Denot). g.K.Typed.meaning.item k Plain in
    let value = λ (x : g.row.V.Denot). g.V.Typed.meaning.item x Plain in
    let came = c.loop-key.yielded in
    let items = entry_items g.K.Typed.meaning g.V.Typed.meaning came in
    let yielded = subst (λ s. Yields g.I.Iterator.next_gives s came c.loop-key.key-iterator) c.into_iter-key-iterator.ensures.into_iter_gives c.loop-key.yielded_by in
    let step = subst (λ o. g.I.Iterator.next_gives c.loop-key.key-iterator o c.next.new.self) c.in-Some.is c.next.ensures.steps in (
      came ++ (c.in-Some.key, c.in-Some.value) ∷ [],
      c.next.new.self,
      yields_more g.I.Iterator.next_gives _ came _ _ (c.in-Some.key, c.in-Some.value) yielded step,
      λ s all h begins complete.
          let held = c.in-Ok.ensures.ok s items (c.in-None-put.ensures.none refl s items (map_state c.loop-key.self) (c.loop-key.invariant.gathers s h)) in
          c.in-Err-serialize_entry.ensures.law.err s items all held (pairs_complete key value (map deref_pair came)) (subst (λ ys. BeginsWith all ys) (last_pair key value came (c.in-Some.key, c.in-Some.value)) begins) complete,
    )

pub returns-clause-ok : goal.returns-clause-ok
returns-clause-ok g c =
    let came = c.loop-key.yielded in
    let items = entry_items g.K.Typed.meaning g.V.Typed.meaning came in
    let yielded = subst (λ s. Yields g.I.Iterator.next_gives s came c.loop-key.key-iterator) c.into_iter-key-iterator.ensures.into_iter_gives c.loop-key.yielded_by in
    let step = subst (λ o. g.I.Iterator.next_gives c.loop-key.key-iterator o c.next.new.self) c.in-None.is c.next.ensures.steps in
    on_ok_weaker c.hand_on-2.result (λ held. (came, (c.next.new.self, (c.loop-key.key-iterator, yielded, step)), λ s h. held s items (c.loop-key.invariant.gathers s h))) c.hand_on-2.ensures.ok

pub returns-clause-err : goal.returns-clause-err
returns-clause-err g c =
    let came = c.loop-key.yielded in
    let items = entry_items g.K.Typed.meaning g.V.Typed.meaning came in
    let yielded = subst (λ s. Yields g.I.Iterator.next_gives s came c.loop-key.key-iterator) c.into_iter-key-iterator.ensures.into_iter_gives c.loop-key.yielded_by in
    IfErr-weaker c.hand_on-2.result _ _ (λ e refused. (came, c.loop-key.key-iterator, yielded, λ s all h begins complete. refused s items all (c.loop-key.invariant.gathers s h))) c.hand_on-2.ensures.err
