use Rattle.std.proofs.Common.{rules, refl, sym, ◌∙◌, ◌||◌}
use Rattle.amqp_de.proofs.Naming.{named_on, named_dropped}
use Rattle.amqp_de.proofs.NamedParts.{no_end}
use Rattle.amqp_de.proofs.NamedRows.{row_unopened, row_of_others, row_named, none_behind}
use Rattle.amqp_de.specs.ReadParts.{open_list}
use Rattle.amqp_de.proofs.ReadParts.{missed_by, or_right, found_at, found_meant, fields_unopened, end_answered, end_refused, missed_dropped}
use Rattle.amqp_de.proofs.StructForms.{row_opened, other_row, unread}
use Rattle.amqp_de.proofs.deserializer.Deserializer.deserialize_row.Goals as goal

-- no list was opened
pub returns-in_err-list-clause-err : goal.returns-in_err-list-clause-err
returns-in_err-list-clause-err g c =
    let none = rw c.in_err-list.was at c.deserialize_list.follows.holds-at-none in
    missed_by _ _ _ (or_right g.S.Fields.grows g.R.Read.buffers) c.from_residual.ensures.1 refl (fields_unopened (g.S.Fields.slots c.args.fields).kinds _ _ _ _ _ none)

-- it has another number of elements
pub returns-then-not-are-clause-err : goal.returns-then-not-are-clause-err
unfolding open_list
returns-then-not-are-clause-err g c = other_row _ g.R.Read.buffers _ _ _ c.in_ok-list.ensures.opened (g.S.Fields.slots c.args.fields).kinds (c.are.ensures.no c.if-not-are.true) (search rules)

-- an element was refused
pub returns-in_err-read_elements-clause-err : goal.returns-in_err-read_elements-clause-err
returns-in_err-read_elements-clause-err g c =
    missed_by _ _ _ (λ h. h) c.from_residual-in_err-read_elements.ensures.1 (search rules)
    (missed_dropped (c.in_err-read_elements.ensures.refused _ _ _ _ (row_opened _ _ c.in_ok-list.ensures.opened (g.S.Fields.slots c.args.fields).kinds)))

-- a field has no value, though every element was read
pub returns-in_default-clause-err : goal.returns-in_default-clause-err
returns-in_default-clause-err g c =
    let row = c.in_ok-read_elements.ensures.read _ _ _ _ (row_opened _ _ c.in_ok-list.ensures.opened (g.S.Fields.slots c.args.fields).kinds) in
    absurd (unread _ (c.take_values.ensures.none c.in_default.is) row.full)

-- the end was refused
pub returns-in_err-end-clause-err : goal.returns-in_err-end-clause-err
returns-in_err-end-clause-err g c =
    let row = c.in_ok-read_elements.ensures.read _ _ _ _ (row_opened _ _ c.in_ok-list.ensures.opened (g.S.Fields.slots c.args.fields).kinds) in
    missed_by _ _ _ (λ h. h) c.from_residual-in_err-end.ensures.1 (search rules) (end_refused _ {grows = g.S.Fields.grows || g.R.Read.buffers} row.progress c.in_err-end.ensures.ends)

pub returns-clause-ok : goal.returns-clause-ok
returns-clause-ok g c =
    let row = c.in_ok-read_elements.ensures.read _ _ _ _ (row_opened _ _ c.in_ok-list.ensures.opened (g.S.Fields.slots c.args.fields).kinds) in
    let values = c.take_values.ensures.some _ c.in-Some.is in
    found_at _ _ (search rules) (found_meant _ _ _ _ _ (end_answered _ row.progress c.in_ok-end.ensures.ends) (row.meant _ values.holds).1)

-- ---- refusals by name

pub returns-in_err-list-clause-named : goal.returns-in_err-list-clause-named
returns-in_err-list-clause-named g c =
    let none = rw c.in_err-list.was at c.deserialize_list.follows.holds-at-none in
    named_on _ _ _ c.from_residual.ensures.1 refl (row_unopened (g.S.Fields.slots c.args.fields).awaited g.S.Fields.takes g.S.Fields.refuses _ _ _ _ _ (or_right g.S.Fields.grows g.R.Read.buffers) none)

pub returns-then-not-are-clause-named : goal.returns-then-not-are-clause-named
unfolding open_list
returns-then-not-are-clause-named g c =
    let s = g.S.Fields.slots c.args.fields in
    row_of_others s.awaited g.S.Fields.takes g.S.Fields.refuses _ _ _ _ _ c.in_ok-list.ensures.exact (λ k. c.are.ensures.no c.if-not-are.true (s.counted ∙ sym k))

pub returns-in_err-read_elements-clause-named : goal.returns-in_err-read_elements-clause-named
unfolding open_list
returns-in_err-read_elements-clause-named g c =
    let s = g.S.Fields.slots c.args.fields in
    let o = c.in_ok-list.ensures in
    named_on _ _ _ c.from_residual-in_err-read_elements.ensures.1 (search rules) (named_dropped (row_named s.awaited g.S.Fields.takes g.S.Fields.refuses _ _ _ _ _ _ o.opened o.exact o.plain (sym (c.are.ensures.yes c.if-not-are.false) ∙ s.counted) c.in_err-read_elements.ensures.named))

pub returns-in_default-clause-named : goal.returns-in_default-clause-named
returns-in_default-clause-named g c =
    let row = c.in_ok-read_elements.ensures.read _ _ _ _ (row_opened _ _ c.in_ok-list.ensures.opened (g.S.Fields.slots c.args.fields).kinds) in
    absurd (unread _ (c.take_values.ensures.none c.in_default.is) row.full)

pub returns-in_err-end-clause-named : goal.returns-in_err-end-clause-named
unfolding open_list
returns-in_err-end-clause-named g c =
    let row = c.in_ok-read_elements.ensures.read _ _ _ _ (row_opened _ _ c.in_ok-list.ensures.opened (g.S.Fields.slots c.args.fields).kinds) in
    let p = row.progress in
    let none = none_behind _ _ _ c.in_ok-read_elements.ensures.counted (c.are.ensures.yes c.if-not-are.false) in
    named_on _ _ _ c.from_residual-in_err-end.ensures.1 (search rules) (no_end _ _ _ _ _ _ _ _ p.opened p.reads none c.in_err-end.ensures.ends)
