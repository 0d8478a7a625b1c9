use Rattle.std.proofs.Common.{rules, ◌||◌, arith}
use Rattle.amqp_de.specs.ReadParts.{open_list}
use Rattle.amqp_de.proofs.ReadParts.{part_read, part_refused, none_left, or_left, or_right, or_more}
use Rattle.amqp_de.proofs.NamedRows.{elements_had, element_refused, element_none, elements_behind}
use Rattle.amqp_de.proofs.PartsRead.{missed_more}
use Rattle.amqp_de.proofs.Slots.{row_had, row_more}
use Rattle.amqp_de.proofs.fields.FieldFields.read_elements.Goals as goal
use Rattle.amqp_de.proofs.fields.FieldFields.read_elements.Goals.{in-Some, in-None+in-Ok-Some}

-- there was no element, or it was refused
pub returns-in-Ok-None-clause-refused : goal.returns-in-Ok-None-clause-refused
returns-in-Ok-None-clause-refused g c =
    let n = rw c.in-Ok-None.field-0-is at c.in-Ok-None.ensures.next in
    rw c.in-None.is (λ old all rest parts p. none_left _ _ p n.0 n.1)

pub returns-in-Err-clause-refused : goal.returns-in-Err-clause-refused
returns-in-Err-clause-refused g c = rw c.in-None.is (λ old all rest parts p. missed_more (or_more g.T.Typed.meaning.grows (g.T.Typed.meaning.grows || g.Rest.Fields.grows) g.R.Read.buffers (or_left _ _)) (part_refused _ _ p c.in-Err.ensures.next))

-- the field had its value before, or its element was read
pub returns-in-Ok-clause-read : goal.returns-in-Ok-clause-read
returns-in-Ok-clause-read g c =
    elim c.match-self.branch [
      | in-Some w ↦
          let behind = rw (w.self-is, w.list-is) at c.in-Ok.ensures.read in
          rw (w.self-is, w.in-Some.is) (λ old all rest parts p. row_had c.args.self.now.name.now g.T.Typed.meaning.takes g.T.Typed.meaning.means _ _ _ old all rest parts _ (behind old all rest parts p))
      | in-None+in-Ok-Some w ↦
          let behind = rw (w.self-is, w.list-is, w.put.ensures.before) at c.in-Ok.ensures.read in
          let n = rw w.in-Ok-Some.field-0-is at w.in-Ok-Some.ensures.next in
          rw (w.self-is, w.in-None.is, w.put.ensures.named, w.put.ensures.value) (λ old all rest parts p.
          let more = part_read _ p n.0 in
          row_more c.args.self.now.name.now g.T.Typed.meaning.takes g.T.Typed.meaning.means _ _ _ old all rest _ parts _ _ more (behind old all rest _ more.more))
    ]

pub returns-in-Err-read_elements-clause-refused : goal.returns-in-Err-read_elements-clause-refused
returns-in-Err-read_elements-clause-refused g c =
    let grows = or_more g.Rest.Fields.grows (g.T.Typed.meaning.grows || g.Rest.Fields.grows) g.R.Read.buffers (or_right _ _) in
    elim c.match-self.branch [
      | in-Some w ↦
          let behind = rw (w.self-is, w.list-is) at c.in-Err-read_elements.ensures.refused in
          rw w.in-Some.is (λ old all rest parts p. missed_more grows (behind old all rest parts p))
      | in-None+in-Ok-Some w ↦
          let behind = rw (w.self-is, w.list-is, w.put.ensures.before) at c.in-Err-read_elements.ensures.refused in
          let n = rw w.in-Ok-Some.field-0-is at w.in-Ok-Some.ensures.next in
          rw w.in-None.is (λ old all rest parts p. missed_more grows (behind old all rest _ (part_read _ p n.0).more))
    ]

-- ---- refusals by name

pub returns-in-Ok-None-clause-named : goal.returns-in-Ok-None-clause-named
returns-in-Ok-None-clause-named g c =
    let n = rw c.in-Ok-None.field-0-is at c.in-Ok-None.ensures.next in
    rw c.in-None.is (element_none n.0)

pub returns-in-Err-clause-named : goal.returns-in-Err-clause-named
unfolding open_list
returns-in-Err-clause-named g c = rw c.in-None.is (element_refused _ (or_more g.T.Typed.meaning.grows (g.T.Typed.meaning.grows || g.Rest.Fields.grows) g.R.Read.buffers (or_left _ _)) (search rules) c.in-Err.ensures.named)

pub returns-in-Err-read_elements-clause-named : goal.returns-in-Err-read_elements-clause-named
returns-in-Err-read_elements-clause-named g c =
    let grows = or_more g.Rest.Fields.grows (g.T.Typed.meaning.grows || g.Rest.Fields.grows) g.R.Read.buffers (or_right _ _) in
    elim c.match-self.branch [
      | in-Some w ↦
          let behind = rw (w.self-is, w.list-is) at c.in-Err-read_elements.ensures.named in
          rw w.in-Some.is (elements_had grows behind)
      | in-None+in-Ok-Some w ↦
          let behind = rw (w.self-is, w.list-is, w.put.ensures.before) at c.in-Err-read_elements.ensures.named in
          let n = rw w.in-Ok-Some.field-0-is at w.in-Ok-Some.ensures.next in
          rw w.in-None.is (elements_behind _ grows n.0 behind)
    ]

-- ---- how many elements are left

pub returns-in-Ok-clause-counted : goal.returns-in-Ok-clause-counted
returns-in-Ok-clause-counted g c =
    elim c.match-self.branch [
      | in-Some w ↦
          let behind = rw (w.self-is, w.list-is) at c.in-Ok.ensures.counted in
          rw w.in-Some.is behind
      | in-None+in-Ok-Some w ↦
          let behind = rw (w.self-is, w.list-is, w.put.ensures.before) at c.in-Ok.ensures.counted in
          let n = rw w.in-Ok-Some.field-0-is at w.in-Ok-Some.ensures.next in
          rw w.in-None.is (omega (arith, n.0.left, behind))
    ]
