use Rattle.std.proofs.Common.{rules, refl, arith}
use Rattle.amqp_de.specs.ReadParts.{open_list}
use Rattle.amqp_de.proofs.LeftOut.{leading_unopened, leading_surplus, leading_opened, leading_values, no_leading_end}
use Rattle.amqp_de.proofs.NamedLeftOut.{leading_unopened_as, leading_of_more, leading_named}
use Rattle.amqp_de.proofs.Naming.{named_on, named_dropped}
use Rattle.amqp_de.proofs.ReadParts.{missed_by, or_right, found_at, missed_dropped}
use Rattle.amqp_de.proofs.deserializer.Deserializer.deserialize_leading.Goals as goal

-- no list was opened
pub returns-in_err-list-clause-err : goal.returns-in_err-list-clause-err
returns-in_err-list-clause-err g c =
    let none = rw c.in_err-list.was at c.deserialize_list.follows.holds-at-none in
    missed_by _ _ _ (or_right g.S.Fields.grows g.R.Read.buffers) c.from_residual.ensures.1 refl (leading_unopened (g.S.Fields.slots c.args.fields.now).kinds _ _ _ _ _ none)

pub returns-in_err-list-clause-named : goal.returns-in_err-list-clause-named
returns-in_err-list-clause-named g c =
    let none = rw c.in_err-list.was at c.deserialize_list.follows.holds-at-none in
    named_on _ _ _ c.from_residual.ensures.1 refl (leading_unopened_as (g.S.Fields.slots c.args.fields.now).awaited g.S.Fields.takes g.S.Fields.refuses _ _ _ _ _ (or_right g.S.Fields.grows g.R.Read.buffers) none)

-- it has more elements than there are fields
pub returns-then-not-hold-clause-err : goal.returns-then-not-hold-clause-err
unfolding open_list
returns-then-not-hold-clause-err g c = leading_surplus _ g.R.Read.buffers _ _ _ c.in_ok-list.ensures.opened (g.S.Fields.slots c.args.fields.now).kinds (c.hold.ensures.no c.if-not-hold.true) (search rules)

pub returns-then-not-hold-clause-named : goal.returns-then-not-hold-clause-named
unfolding open_list
returns-then-not-hold-clause-named g c =
    let s = g.S.Fields.slots c.args.fields.now in
    leading_of_more s.awaited g.S.Fields.takes g.S.Fields.refuses _ _ _ _ _ c.in_ok-list.ensures.exact (let n = c.hold.ensures.no c.if-not-hold.true in omega (arith, n, s.counted))

-- a field was refused
pub returns-in_err-read_leading-clause-err : goal.returns-in_err-read_leading-clause-err
returns-in_err-read_leading-clause-err g c =
    missed_by _ _ _ (λ h. h) c.from_residual-in_err-read_leading.ensures.1 (search rules)
    (missed_dropped (c.in_err-read_leading.ensures.refused _ _ _ _ (leading_opened _ _ c.in_ok-list.ensures.opened (g.S.Fields.slots c.args.fields.now).kinds)))

pub returns-in_err-read_leading-clause-named : goal.returns-in_err-read_leading-clause-named
unfolding open_list
returns-in_err-read_leading-clause-named g c =
    let s = g.S.Fields.slots c.args.fields.now in
    let o = c.in_ok-list.ensures in
    let y = c.hold.ensures.yes c.if-not-hold.false in
    named_on _ _ _ c.from_residual-in_err-read_leading.ensures.1 (search rules) (named_dropped (leading_named s.awaited g.S.Fields.takes g.S.Fields.refuses _ _ _ _ _ _ o.opened o.exact o.plain (omega (arith, y, s.counted)) c.in_err-read_leading.ensures.named))

-- the end isn't refused, as all was read
pub returns-in_err-end-clause-err : goal.returns-in_err-end-clause-err
unfolding open_list
returns-in_err-end-clause-err g c =
    let row = c.in_ok-read_leading.ensures.read _ _ _ _ (leading_opened _ _ c.in_ok-list.ensures.opened (g.S.Fields.slots c.args.fields.now).kinds) in
    absurd (no_leading_end _ _ row (c.hold.ensures.yes c.if-not-hold.false) c.in_err-end.ensures.ends)

pub returns-in_err-end-clause-named : goal.returns-in_err-end-clause-named
unfolding open_list
returns-in_err-end-clause-named g c =
    let row = c.in_ok-read_leading.ensures.read _ _ _ _ (leading_opened _ _ c.in_ok-list.ensures.opened (g.S.Fields.slots c.args.fields.now).kinds) in
    absurd (no_leading_end _ _ row (c.hold.ensures.yes c.if-not-hold.false) c.in_err-end.ensures.ends)

pub returns-clause-ok : goal.returns-clause-ok
unfolding open_list
returns-clause-ok g c =
    let row = c.in_ok-read_leading.ensures.read _ _ _ _ (leading_opened _ _ c.in_ok-list.ensures.opened (g.S.Fields.slots c.args.fields.now).kinds) in
    record {
      full = row.full;
      values = λ vs h. found_at _ _ (search rules) (leading_values _ _ _ _ row (row.meant vs h).1 (c.hold.ensures.yes c.if-not-hold.false) c.in_ok-end.ensures.ends);
    }
