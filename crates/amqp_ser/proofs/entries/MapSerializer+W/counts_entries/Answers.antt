-- The entries of a map are counted at once.
use Rattle.std.proofs.Common.{◌≡◌, ◌+◌, ◌*◌, length, refl, inl, sym, ap, ◌∙◌, [], arith, true, false}
use Rattle.amqp_base.specs.declared.shape.Shape.{Shape}
use Rattle.amqp_ser.specs.State.{State, unmarked}
use Rattle.amqp_ser.specs.Compound.{open_as, open_parts, map_state, outer_in}
use Rattle.amqp_ser.specs.Gathered.{entry_items}
use Rattle.amqp_ser.proofs.Compounds.{inner_lives, inner_answers}
use Rattle.amqp_ser.proofs.NumberParts.{numbers_more}
use Rattle.amqp_ser.proofs.Gathered.{counted_answering}
use Rattle.amqp_ser.proofs.MapPairs.{entries_length}
use Rattle.amqp_ser.proofs.entries.MapSerializer+W.counts_entries.Goals as goal

pub returns-clause-counted : goal.returns-clause-counted
unfolding open_as
returns-clause-counted g c = λ _.
    let found = c.in-Some-lengths.ensures.texts in
    let items = entry_items g.K.Typed.meaning g.V.Typed.meaning found.0 in (
      found.0,
      found.1,
      λ all s h.
          let q = c.args.self.now in
          let o = q.ser.now.state in
          let n = c.counts_texts.new.self.state in
          let w : State = record n { ended = false } in
          let t : State = record n { ended = true } in
          let live = c.if-not-only_counts.ensures.direct refl in
          let outside = c.if-not-only_counts.ensures.outside refl in
          let answers : q.parts.buffer.state.ended ≡ false = sym (inner_answers q.parts.opened o q.parts.buffer) ∙ h.run.answers in
          let len : length items ≡ 2 * length found.0 = entries_length g.K.Typed.meaning g.V.Typed.meaning found.0 in
          let count : c.in-Some.count ≡ q.parts.count + length items = omega (arith, c.in-Some.ensures.1, len, all, h.count) in
          let wrote = counted_answering unmarked items o n tt (c.if-not-counts_texts.ensures.counted refl unmarked items found.2) in
          rw c.set_ended.ensures (numbers_more s Shape.Map [] items unmarked (map_state q) (open_parts true t (record q.parts { count = c.in-Some.count })) (outer_in q.parts.outer) o w t tt live (inl (outside, refl)) (inner_lives _ o _ live ∙ ap (λ z. record o { ended = z }) answers) refl wrote refl (inner_lives _ t _ live ∙ ap (λ z. record t { ended = z }) answers) refl refl refl refl count h),
    )
