use Rattle.std.proofs.Common.{◌≡◌, ◌||◌, false, refl, ap, ◌∙◌}
use Rattle.amqp_de.specs.Access.{Listing}
use Rattle.amqp_de.specs.ReadParts.{open_list}
use Rattle.amqp_de.proofs.LeftOut.{leading_more, leading_missed, leading_had, leading_row_more, leading_row_null, null_meant, null_on, null_missed, none_is}
use Rattle.amqp_de.proofs.NamedLeftOut.{named_had, named_refused, named_behind, named_null}
use Rattle.amqp_de.proofs.PartsRead.{missed_more}
use Rattle.amqp_de.proofs.ReadParts.{or_left, or_right, or_more}
use Rattle.amqp_de.proofs.fields.FieldFields.read_leading.Goals as goal
use Rattle.amqp_de.proofs.fields.FieldFields.read_leading.Goals.{in-Some, in-None+in-Ok-Some, in-None+in-Ok-None+in-Ok}

-- null in the place of an element was refused
pub returns-in-Err-read_null-clause-refused : goal.returns-in-Err-read_null-clause-refused
unfolding open_list
returns-in-Err-read_null-clause-refused g c =
    let n = rw c.in-Ok-None.field-0-is at c.in-Ok-None.ensures.next in
    let grows = or_more g.T.Typed.meaning.grows (g.T.Typed.meaning.grows || g.Rest.Fields.grows) g.R.Read.buffers (or_left _ _) in
    rw c.in-None.is (λ old all rest parts p.
    let q = none_is _ (open_list c.next_element.new.self) n p in
    null_missed (open_list c.next_element.new.self) c.read_null.new.self grows q.0 c.in-Err-read_null.ensures.err q.2)

-- the element was refused
pub returns-in-Err-clause-refused : goal.returns-in-Err-clause-refused
unfolding open_list
returns-in-Err-clause-refused g c = rw c.in-None.is (λ old all rest parts p. missed_more (or_more g.T.Typed.meaning.grows (g.T.Typed.meaning.grows || g.Rest.Fields.grows) g.R.Read.buffers (or_left _ _)) (leading_missed _ (open_list c.next_element.new.self) p _ c.in-Err.ensures.next refl))

pub returns-in-Ok-read_leading-clause-read : goal.returns-in-Ok-read_leading-clause-read
unfolding open_list
returns-in-Ok-read_leading-clause-read g c =
    elim c.match-self.branch [
      | in-Some w ↦
          let behind = rw (w.self-is, w.list-is) at c.in-Ok-read_leading.ensures.read in
          rw (w.self-is, w.in-Some.is) (λ old all rest parts p. leading_had c.args.self.now.name.now g.T.Typed.meaning.takes g.T.Typed.meaning.means _ _ _ old all rest parts _ _ (behind old all rest parts p))
      | in-None+in-Ok-Some w ↦
          let behind = rw (w.self-is, w.list-is, w.put.ensures.before) at c.in-Ok-read_leading.ensures.read in
          let n = rw w.in-Ok-Some.field-0-is at w.in-Ok-Some.ensures.next in
          rw (w.self-is, w.in-None.is, w.put.ensures.named, w.put.ensures.value) (λ old all rest parts p.
          leading_row_more c.args.self.now.name.now g.T.Typed.meaning.takes g.T.Typed.meaning.means _ _ _ old all rest parts _ _ _ n.0 (behind old all rest _ (leading_more _ _ p n.0)))
      | in-None+in-Ok-None+in-Ok w ↦
          let behind = rw (w.self-is, w.list-is, w.put-in-Ok.ensures.before) at c.in-Ok-read_leading.ensures.read in
          let n = rw w.in-Ok-None.field-0-is at w.in-Ok-None.ensures.next in
          rw (w.self-is, w.in-None.is, w.put-in-Ok.ensures.named, w.put-in-Ok.ensures.value) (λ old all rest parts p.
          let q = none_is _ (open_list w.next_element.new.self) n p in
          let mid = record (open_list w.next_element.new.self) { state = w.read_null.new.self } in
          let v = null_meant w.in-Ok.ensures.ok q.1 in
          leading_row_null c.args.self.now.name.now g.T.Typed.meaning.takes g.T.Typed.meaning.means _ _ _ old all rest parts _ mid _ n.0 q.0 v (behind old all rest _ (null_on (open_list w.next_element.new.self) mid w.in-Ok.ensures.ok refl q.0 q.1 q.2)))
    ]

pub returns-in-Err-read_leading-clause-refused : goal.returns-in-Err-read_leading-clause-refused
unfolding open_list
returns-in-Err-read_leading-clause-refused g c =
    let grows = or_more g.Rest.Fields.grows (g.T.Typed.meaning.grows || g.Rest.Fields.grows) g.R.Read.buffers (or_right _ _) in
    elim c.match-self.branch [
      | in-Some w ↦
          let behind = rw (w.self-is, w.list-is) at c.in-Err-read_leading.ensures.refused in
          rw w.in-Some.is (λ old all rest parts p. missed_more grows (behind old all rest parts p))
      | in-None+in-Ok-Some w ↦
          let behind = rw (w.self-is, w.list-is, w.put.ensures.before) at c.in-Err-read_leading.ensures.refused in
          let n = rw w.in-Ok-Some.field-0-is at w.in-Ok-Some.ensures.next in
          rw w.in-None.is (λ old all rest parts p. missed_more grows (behind old all rest _ (leading_more _ _ p n.0)))
      | in-None+in-Ok-None+in-Ok w ↦
          let behind = rw (w.self-is, w.list-is, w.put-in-Ok.ensures.before) at c.in-Err-read_leading.ensures.refused in
          let n = rw w.in-Ok-None.field-0-is at w.in-Ok-None.ensures.next in
          rw w.in-None.is (λ old all rest parts p.
          let q = none_is _ (open_list w.next_element.new.self) n p in
          let mid = record (open_list w.next_element.new.self) { state = w.read_null.new.self } in
          missed_more grows (behind old all rest _ (null_on (open_list w.next_element.new.self) mid w.in-Ok.ensures.ok refl q.0 q.1 q.2)))
    ]

-- ---- refusals by name

pub returns-in-Err-clause-named : goal.returns-in-Err-clause-named
unfolding open_list
returns-in-Err-clause-named g c =
    rw c.in-None.is (named_refused (open_list c.next_element.new.self) c.in-Err.ensures.next.some_left (or_more g.T.Typed.meaning.grows (g.T.Typed.meaning.grows || g.Rest.Fields.grows) g.R.Read.buffers (or_left _ _)) refl c.in-Err.ensures.named)

pub returns-in-Err-read_leading-clause-named : goal.returns-in-Err-read_leading-clause-named
unfolding open_list
returns-in-Err-read_leading-clause-named g c =
    let grows = or_more g.Rest.Fields.grows (g.T.Typed.meaning.grows || g.Rest.Fields.grows) g.R.Read.buffers (or_right _ _) in
    elim c.match-self.branch [
      | in-Some w ↦
          let behind = rw (w.self-is, w.list-is) at c.in-Err-read_leading.ensures.named in
          rw w.in-Some.is (named_had grows behind)
      | in-None+in-Ok-Some w ↦
          let behind = rw (w.self-is, w.list-is, w.put.ensures.before) at c.in-Err-read_leading.ensures.named in
          let n = rw w.in-Ok-Some.field-0-is at w.in-Ok-Some.ensures.next in
          rw w.in-None.is (named_behind _ grows n.0 behind)
      | in-None+in-Ok-None+in-Ok w ↦
          let behind = rw (w.self-is, w.list-is, w.put-in-Ok.ensures.before) at c.in-Err-read_leading.ensures.named in
          let n = rw w.in-Ok-None.field-0-is at w.in-Ok-None.ensures.next in
          let now = open_list w.next_element.new.self in
          let mid = record now { state = w.read_null.new.self } in
          let z : now.left ≡ 0 = ap (λ (l : Listing). l.left) n.1 ∙ n.0 in
          let a : now.state.ended ≡ false = ap (λ (l : Listing). l.state.ended) n.1 ∙ n.2 in
          rw w.in-None.is (named_null (open_list c.args.list.now) now mid grows n.1 z a w.in-Ok.ensures.ok refl behind)
    ]
