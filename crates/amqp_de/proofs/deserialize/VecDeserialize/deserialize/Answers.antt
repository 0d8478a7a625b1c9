use Rattle.std.proofs.Common.{rules, ◌||◌, [], true, refl, sym, subst, ◌∙◌, arith}
use Rattle.std.proofs.lemmas.Result.{err_from_is_err_and}
use Rattle.amqp_de.specs.Access.{Listing}
use Rattle.amqp_de.specs.Ahead.{Ahead}
use Rattle.amqp_de.specs.Decoding.{as_ended}
use Rattle.amqp_de.specs.Seq.{listing}
use Rattle.amqp_de.specs.ReadParts.{open_list}
use Rattle.amqp_de.proofs.Sequence.{Sofar, sofar_start, sofar_step, part_missed, push_missed, seq_found}
use Rattle.amqp_de.proofs.ReadSome.{read_some}
use Rattle.amqp_de.proofs.Naming.{named_on}
use Rattle.amqp_de.proofs.NamedParts.{no_room_as, no_end}
use Rattle.amqp_de.proofs.NamedElements.{seq_unopened, reach_start, reach_step, reach_named}
use Rattle.amqp_de.proofs.ReadParts.{missed_on, missed_at, missed_dropped}
use Rattle.amqp_de.proofs.ReceivedAhead.{ahead_start, ahead_more, ahead_part, ahead_refused, ahead_named, ahead_failed, ahead_failed_named, ahead_no_room, ahead_left, sofar_settled, ended_on}
use Rattle.amqp_de.proofs.deserialize.VecDeserialize.deserialize.Goals.{then-some, else-some+in-Ok-Some+in_ok-push-in-Ok-Some, else-some+in-Ok-None}
use Rattle.amqp_de.proofs.deserialize.VecDeserialize.deserialize.Goals as goal

pub returns-in_err-access-clause-err : goal.returns-in_err-access-clause-err
returns-in_err-access-clause-err g c =
    let p = err_from_is_err_and c.from_residual.result c.from_residual.ensures.1 in
    let d = rw c.in_err-access.was at c.deserialize_elements.follows.holds-at-none in
    rw (p.1, p.2) (d.missed g.T.Typed.meaning.takes)

pub items-init : goal.items-init
unfolding open_list
items-init g c =
    let m = g.T.Typed.meaning in
    let from = listing c.in_ok-access.access in
    record {
      same = refl;
      from = from;
      now = from;
      opened = c.in_ok-access.ensures.opened;
      ahead = c.in_default.ensures.ahead;
      sofar = sofar_start m.takes m.means from c.args.de.now c.in_ok-items.items.items c.in_ok-access.ensures.opened.1.opens c.in_ok-items.ensures.items;
      reaches = reach_start m.takes m.refuses from;
    }

-- the source failed before the first element
pub returns-in-Err-clause-err : goal.returns-in-Err-clause-err
unfolding open_list
returns-in-Err-clause-err g c =
    let m = g.T.Typed.meaning in
    let from = listing c.in_ok-access.access in
    let r = listing c.receive_ahead.new.self in
    let opens = c.in_ok-access.ensures.opened.1.opens in
    let s = sofar_start m.takes m.means from c.args.de.now [] opens refl in
    let n = ahead_failed {grows = true} from from r (λ _. refl) (ahead_start from) s.reads.not_ended c.in-Err.ensures.ahead c.in-Err.ensures.why in
    missed_at _ _ (search rules) (part_missed m.takes m.means g.R.Read.buffers c.args.de.now from from [] opens s true (ended_on r) _ n)

-- the source failed meanwhile
pub returns-in-Err-receive_ahead-clause-err : goal.returns-in-Err-receive_ahead-clause-err
unfolding open_list
returns-in-Err-receive_ahead-clause-err g c =
    let m = g.T.Typed.meaning in
    let v = c.items.invariant in
    let r = listing c.receive_ahead-in-items.new.self in
    let n = ahead_failed {grows = true} v.now (listing c.items.access) r (λ _. refl) v.ahead v.sofar.reads.not_ended c.in-Err-receive_ahead.ensures.ahead c.in-Err-receive_ahead.ensures.why in
    missed_at _ _ (search rules) (part_missed m.takes m.means g.R.Read.buffers c.args.de.now v.from v.now c.items.items.items v.opened.1.opens v.sofar true (ended_on r) _ n)

-- no memory was there for many at once
pub returns-in-Err-next_elements-clause-err : goal.returns-in-Err-next_elements-clause-err
unfolding open_list
returns-in-Err-next_elements-clause-err g c =
    let m = g.T.Typed.meaning in
    let v = c.items.invariant in
    let a = ahead_more v.now _ _ v.ahead c.in-Ok.ensures.ahead in
    let r = c.in-Err-next_elements.ensures.read in
    let next = listing c.next_elements.new.list in
    let b = subst (λ (l : Listing). Ahead m.takes v.now l) (sym r.1) a in
    rw r.0 (missed_at _ _ (search rules) (ahead_no_room v.now next b (push_missed m.takes m.means g.R.Read.buffers c.args.de.now v.from v.now _ v.opened.1.opens v.sofar (as_ended v.now.state) refl)))

pub returns-in-Err-next_element-clause-err : goal.returns-in-Err-next_element-clause-err
unfolding open_list
returns-in-Err-next_element-clause-err g c =
    let m = g.T.Typed.meaning in
    let v = c.items.invariant in
    let k = read_some m v.from v.now _ _ (listing c.next_elements.new.list) c.items.items.items _ c.in-Ok-next_elements.some v.ahead c.in-Ok.ensures.ahead v.sofar v.reaches c.in-Ok-next_elements.ensures.read in
    let next = listing c.next_element.new.self in
    let n = ahead_refused k.now (listing c.next_elements.new.list) next k.ahead k.sofar.reads.not_ended c.in-Err-next_element.ensures.next in
    missed_at _ _ (search rules) (missed_dropped (part_missed m.takes m.means g.R.Read.buffers c.args.de.now v.from k.now _ v.opened.1.opens k.sofar (m.grows || g.R.Read.buffers) next _ n))

pub items-smaller : goal.items-smaller
unfolding open_list
items-smaller g c =
    let m = g.T.Typed.meaning in
    let v = c.items.invariant in
    let k = read_some m v.from v.now _ _ (listing c.next_elements.new.list) c.items.items.items _ c.in-Ok-next_elements.some v.ahead c.in-Ok.ensures.ahead v.sofar v.reaches c.in-Ok-next_elements.ensures.read in
    elim c.if-some.branch [
      | then-some w ↦
          let same = ahead_left _ _ c.in-Ok.ensures.ahead in
          let q = rw w.if-some.true at c.in-Ok-next_elements.ensures.read in
          rw w.access-is (omega (arith, q.3, same))
      | else-some+in-Ok-Some+in_ok-push-in-Ok-Some w ↦
          let f = rw w.in-Ok-Some.field-0-is at w.in-Ok-Some.ensures.next in
          let fewer = k.left in
          let one = f.0.left in
          rw w.access-is (omega (arith, fewer, one))
      | else-some+in-Ok-None w ↦ let yes = c.if-this.true in let no = w.value-is in absurd cc
    ]

pub items-preserved : goal.items-preserved
unfolding open_list
items-preserved g c =
    let m = g.T.Typed.meaning in
    let v = c.items.invariant in
    let k = read_some m v.from v.now _ _ (listing c.next_elements.new.list) c.items.items.items _ c.in-Ok-next_elements.some v.ahead c.in-Ok.ensures.ahead v.sofar v.reaches c.in-Ok-next_elements.ensures.read in
    let same = c.in-Ok-next_elements.ensures.same_reference ∙ (c.in-Ok.ensures.same_reference ∙ v.same) in
    elim c.if-some.branch [
      | then-some w ↦ rw (w.access-is, w.items-is) (record { same = same; from = v.from; now = k.now; opened = v.opened; ahead = k.ahead; sofar = k.sofar; reaches = k.reaches })
      | else-some+in-Ok-Some+in_ok-push-in-Ok-Some w ↦
          let f = rw w.in-Ok-Some.field-0-is at w.in-Ok-Some.ensures.next in
          let p = ahead_part k.now (listing c.next_elements.new.list) (listing w.next_element.new.self) k.ahead f.0 in
          rw (w.access-is, w.items-is) (record {
            same = w.in-Ok-Some.ensures.same_reference ∙ same;
            from = v.from;
            now = p.0;
            opened = v.opened;
            ahead = p.2;
            sofar = rw w.in_ok-push-in-Ok-Some.ensures.items (sofar_step m.takes m.means v.from k.now p.0 _ w.in-Ok-Some.item k.sofar p.1);
            reaches = reach_step m.takes m.refuses v.from k.now p.0 k.sofar.reads k.reaches p.1;
          })
      | else-some+in-Ok-None w ↦ let yes = c.if-this.true in let no = w.value-is in absurd cc
    ]

pub returns-clause-ok : goal.returns-clause-ok
unfolding open_list
returns-clause-ok g c =
    let m = g.T.Typed.meaning in
    let v = c.items.invariant in
    let k = read_some m v.from v.now _ _ (listing c.next_elements.new.list) c.items.items.items _ c.in-Ok-next_elements.some v.ahead c.in-Ok.ensures.ahead v.sofar v.reaches c.in-Ok-next_elements.ensures.read in
    elim c.if-some.branch [
      | then-some w ↦ let no = c.if-this.false in let yes = w.value-is in absurd cc
      | else-some+in-Ok-Some+in_ok-push-in-Ok-Some w ↦ let no = c.if-this.false in let yes = w.value-is in absurd cc
      | else-some+in-Ok-None w ↦
          let f = rw w.in-Ok-None.field-0-is at w.in-Ok-None.ensures.next in
          let items = c.next_elements.new.items.items in
          let here = sofar_settled m.takes m.means v.from k.now (listing c.next_elements.new.list) items k.sofar k.ahead f.0 in
          let end = subst (λ (l : Listing). Sofar m.takes m.means v.from l items) (sym f.1) here in
          let ends = rw w.access-is at c.in_ok-end.ensures.ends in
          rw w.items-is (seq_found m.takes m.means g.R.Read.buffers c.args.de.now v.from (listing w.next_element.new.self) items v.opened.1.opens end items _ refl ends.left (search rules))
    ]

-- no memory was there for an element
pub returns-in_err-push-in-Ok-Some-clause-err : goal.returns-in_err-push-in-Ok-Some-clause-err
unfolding open_list
returns-in_err-push-in-Ok-Some-clause-err g c =
    let m = g.T.Typed.meaning in
    let v = c.items.invariant in
    let k = read_some m v.from v.now _ _ (listing c.next_elements.new.list) c.items.items.items _ c.in-Ok-next_elements.some v.ahead c.in-Ok.ensures.ahead v.sofar v.reaches c.in-Ok-next_elements.ensures.read in
    let f = rw c.in-Ok-Some.field-0-is at c.in-Ok-Some.ensures.next in
    let next = listing c.next_element.new.self in
    let p = ahead_part k.now (listing c.next_elements.new.list) next k.ahead f.0 in
    let last = sofar_step m.takes m.means v.from k.now p.0 _ c.in-Ok-Some.item k.sofar p.1 in
    missed_on _ _ _ c.from_residual-in_err-push-in-Ok-Some.ensures.1 (search rules) (ahead_no_room p.0 next p.2 (push_missed m.takes m.means g.R.Read.buffers c.args.de.now v.from p.0 _ v.opened.1.opens last (as_ended p.0.state) refl))

-- ---- refusals by name

pub returns-in_err-access-clause-named : goal.returns-in_err-access-clause-named
returns-in_err-access-clause-named g c =
    let d = rw c.in_err-access.was at c.deserialize_elements.follows.holds-at-none in
    named_on _ _ _ c.from_residual.ensures.1 refl (seq_unopened g.T.Typed.meaning.takes g.T.Typed.meaning.refuses g.R.Read.buffers c.args.de.now _ _ d)

pub returns-in-Err-clause-named : goal.returns-in-Err-clause-named
unfolding open_list
returns-in-Err-clause-named g c =
    let m = g.T.Typed.meaning in
    let from = listing c.in_ok-access.access in
    let r = listing c.receive_ahead.new.self in
    let opened = c.in_ok-access.ensures.opened in
    let s = sofar_start m.takes m.means from c.args.de.now [] opened.1.opens refl in
    let n = ahead_failed {takes = m.takes} {grows = true} from from r (λ _. refl) (ahead_start from) s.reads.not_ended c.in-Err.ensures.ahead c.in-Err.ensures.why in
    reach_named m.takes m.refuses {grows = true} g.R.Read.buffers c.args.de.now _ _ from from (ended_on r) opened s.reads (reach_start m.takes m.refuses from) (n.some_left s.reads.not_ended) (ahead_failed_named from from r (λ _. refl) (ahead_start from) c.in-Err.ensures.why) (search rules)

pub returns-in-Err-receive_ahead-clause-named : goal.returns-in-Err-receive_ahead-clause-named
unfolding open_list
returns-in-Err-receive_ahead-clause-named g c =
    let m = g.T.Typed.meaning in
    let v = c.items.invariant in
    let r = listing c.receive_ahead-in-items.new.self in
    let here = listing c.items.access in
    let n = ahead_failed {takes = m.takes} {grows = true} v.now here r (λ _. refl) v.ahead v.sofar.reads.not_ended c.in-Err-receive_ahead.ensures.ahead c.in-Err-receive_ahead.ensures.why in
    reach_named m.takes m.refuses {grows = true} g.R.Read.buffers c.args.de.now _ _ v.from v.now (ended_on r) v.opened v.sofar.reads v.reaches (n.some_left v.sofar.reads.not_ended) (ahead_failed_named v.now here r (λ _. refl) v.ahead c.in-Err-receive_ahead.ensures.why) (search rules)

pub returns-in-Err-next_elements-clause-named : goal.returns-in-Err-next_elements-clause-named
unfolding open_list
returns-in-Err-next_elements-clause-named g c =
    let r = c.in-Err-next_elements.ensures.read in
    rw r.0 (no_room_as _ g.R.Read.buffers _ _)

pub returns-in-Err-next_element-clause-named : goal.returns-in-Err-next_element-clause-named
unfolding open_list
returns-in-Err-next_element-clause-named g c =
    let m = g.T.Typed.meaning in
    let v = c.items.invariant in
    let k = read_some m v.from v.now _ _ (listing c.next_elements.new.list) c.items.items.items _ c.in-Ok-next_elements.some v.ahead c.in-Ok.ensures.ahead v.sofar v.reaches c.in-Ok-next_elements.ensures.read in
    let next = listing c.next_element.new.self in
    let here = listing c.next_elements.new.list in
    let n = ahead_refused k.now here next k.ahead k.sofar.reads.not_ended c.in-Err-next_element.ensures.next in
    reach_named m.takes m.refuses g.R.Read.buffers c.args.de.now _ _ v.from k.now next v.opened k.sofar.reads k.reaches (n.some_left k.sofar.reads.not_ended) (ahead_named k.now here next k.ahead c.in-Err-next_element.ensures.named) (search rules)

pub returns-in_err-push-in-Ok-Some-clause-named : goal.returns-in_err-push-in-Ok-Some-clause-named
returns-in_err-push-in-Ok-Some-clause-named g c = named_on _ _ _ c.from_residual-in_err-push-in-Ok-Some.ensures.1 refl (no_room_as _ g.R.Read.buffers _ _)

pub returns-in_err-end-clause-named : goal.returns-in_err-end-clause-named
unfolding open_list
returns-in_err-end-clause-named g c =
    let m = g.T.Typed.meaning in
    let v = c.items.invariant in
    let k = read_some m v.from v.now _ _ (listing c.next_elements.new.list) c.items.items.items _ c.in-Ok-next_elements.some v.ahead c.in-Ok.ensures.ahead v.sofar v.reaches c.in-Ok-next_elements.ensures.read in
    elim c.if-some.branch [
      | then-some w ↦ let no = c.if-this.false in let yes = w.value-is in absurd cc
      | else-some+in-Ok-Some+in_ok-push-in-Ok-Some w ↦ let no = c.if-this.false in let yes = w.value-is in absurd cc
      | else-some+in-Ok-None w ↦
          let f = rw w.in-Ok-None.field-0-is at w.in-Ok-None.ensures.next in
          let items = c.next_elements.new.items.items in
          let here = sofar_settled m.takes m.means v.from k.now (listing c.next_elements.new.list) items k.sofar k.ahead f.0 in
          let end = subst (λ (l : Listing). Sofar m.takes m.means v.from l items) (sym f.1) here in
          let ends = rw w.access-is at c.in_err-end.ensures.ends in
          named_on _ _ _ c.from_residual-in_err-end.ensures.1 (search rules) (no_end _ true g.R.Read.buffers c.args.de.now _ _ _ _ v.opened.1.opens end.reads (search rules) ends)
    ]
