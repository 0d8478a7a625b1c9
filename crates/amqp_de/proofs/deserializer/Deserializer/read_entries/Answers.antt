use Rattle.std.proofs.Common.{rules, true, refl, ◌∙◌}
use Rattle.amqp_de.proofs.ReadParts.{missed_on, missed_at, missed_dropped, found_at}
use Rattle.amqp_de.proofs.Naming.{named_on}
use Rattle.amqp_de.proofs.NamedParts.{reaches_start, unopened_as, no_room_as, no_end}
use Rattle.amqp_de.proofs.NamedPairs.{reaches_pair, pair_named, some_left}
use Rattle.amqp_de.proofs.Pairs.{entries_start, entries_step, entries_found, pair_read, pair_refused, pairs_end, insert_missed}
use Rattle.amqp_de.specs.ReadParts.{open_list}
use Rattle.amqp_de.proofs.deserializer.Deserializer.read_entries.Goals as goal

-- no map was opened
pub returns-in_err-access-clause-err : goal.returns-in_err-access-clause-err
returns-in_err-access-clause-err g c =
    let none = rw c.in_err-access.was at c.deserialize_map.follows.holds-at-none in
    missed_on _ _ _ c.from_residual.ensures.1 refl (none.missed g.K.Typed.meaning.takes g.V.Typed.meaning.takes)

pub pairs-init : goal.pairs-init
pairs-init g c = record {
  same = refl;
  sofar = entries_start g.K.Typed.meaning.means g.V.Typed.meaning.means g.M.PutsEntry.placed _ _ _ _ _ (c.in_ok-access.ensures.pairs _ _) (search rules);
  reaches = reaches_start _ _ c.in_ok-access.ensures.plain;
}

-- a pair was refused
pub returns-in-Err-clause-err : goal.returns-in-Err-clause-err
unfolding open_list
returns-in-Err-clause-err g c = missed_at _ _ (search rules) (missed_dropped (pair_refused c.pairs.invariant.sofar.reads c.in-Err.ensures.next))

pub pairs-preserved : goal.pairs-preserved
pairs-preserved g c =
    let v = c.pairs.invariant in
    let m = pair_read v.sofar.reads (rw c.in-Some.is at c.in-Ok.ensures.next) in
    record {
      same = c.in-Ok.ensures.same_reference ∙ v.same;
      sofar = entries_step g.K.Typed.meaning.means g.V.Typed.meaning.means g.M.PutsEntry.placed _ _ _ _ _ _ _ _ _ v.sofar m (search rules);
      reaches = reaches_pair _ _ _ _ _ _ _ v.reaches (rw c.in-Some.is at c.in-Ok.ensures.next);
    }

pub returns-clause-ok : goal.returns-clause-ok
unfolding open_list
returns-clause-ok g c =
    let s = c.pairs.invariant.sofar in
    let n = rw c.in_default.is at c.in-Ok.ensures.next in
    found_at _ _ (search rules) (entries_found g.K.Typed.meaning.means g.V.Typed.meaning.means g.M.PutsEntry.placed _ s.pairs _ _ _ (pairs_end s.reads n.1 c.in_ok-end.ensures.ends) s.meant)

-- no memory was there for a pair
pub returns-then-not-put-clause-err : goal.returns-then-not-put-clause-err
unfolding open_list
returns-then-not-put-clause-err g c =
    let m = pair_read c.pairs.invariant.sofar.reads (rw c.in-Some.is at c.in-Ok.ensures.next) in
    insert_missed _ _ _ _ _ m.more _ _ (search rules)

-- ---- refusals by name

pub returns-in_err-access-clause-named : goal.returns-in_err-access-clause-named
returns-in_err-access-clause-named g c =
    let none = rw c.in_err-access.was at c.deserialize_map.follows.holds-at-none in
    named_on _ _ _ c.from_residual.ensures.1 refl (unopened_as _ _ true g.R.Read.buffers c.args.self.now _ _ (λ _. refl) none.not_opened)

pub returns-in-Err-clause-named : goal.returns-in-Err-clause-named
unfolding open_list
returns-in-Err-clause-named g c =
    let v = c.pairs.invariant in
    let a = c.in_ok-access.ensures in
    pair_named g.K.Typed.meaning.takes g.K.Typed.meaning.refuses g.V.Typed.meaning.takes g.V.Typed.meaning.refuses g.R.Read.buffers c.args.self.now _ _ _ a.opened a.exact _ _ v.sofar.reads v.reaches (some_left v.sofar.reads c.in-Err.ensures.next) (search rules) c.in-Err.ensures.named

pub returns-then-not-put-clause-named : goal.returns-then-not-put-clause-named
returns-then-not-put-clause-named g c = no_room_as _ g.R.Read.buffers _ _

pub returns-in_err-end-clause-named : goal.returns-in_err-end-clause-named
unfolding open_list
returns-in_err-end-clause-named g c =
    let s = c.pairs.invariant.sofar.reads in
    let n = rw c.in_default.is at c.in-Ok.ensures.next in
    let ends = rw n.1 at c.in_err-end.ensures.ends in
    named_on _ _ _ c.from_residual-in_err-end.ensures.1 (search rules) (no_end _ true g.R.Read.buffers c.args.self.now _ _ _ _ s.opened s.reads n.0 ends)
