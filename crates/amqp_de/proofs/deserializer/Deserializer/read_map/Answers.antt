use Rattle.std.proofs.Common.{rules, refl, ap, ◌∙◌, true, false}
use Rattle.amqp_de.specs.Access.{Listing, behind_end}
use Rattle.amqp_de.specs.ReadParts.{open_list}
use Rattle.amqp_data.proofs.FixedWidth.{custom_device}
use Rattle.amqp_de.proofs.ReadParts.{missed_on, missed_at, missed_dropped, found_at}
use Rattle.amqp_de.proofs.Naming.{named_on}
use Rattle.amqp_de.proofs.NamedParts.{reaches_start, unopened_as, no_end, taken_since}
use Rattle.amqp_de.proofs.NamedFields.{reaches_name, reaches_value, key_named, value_named, missing_named}
use Rattle.amqp_de.proofs.StructRead.{struct_start, name_read, field_read, map_unopened, key_missed, field_missed, missing, struct_found}
use Rattle.amqp_de.proofs.deserializer.Deserializer.read_map.Goals as goal

-- no map was opened
pub returns-in_err-map-clause-err : goal.returns-in_err-map-clause-err
returns-in_err-map-clause-err g c =
    let none = rw c.in_err-map.was at c.deserialize_map.follows.holds-at-none in
    missed_on _ _ _ c.from_residual.ensures.1 refl (map_unopened _ _ none.not_opened)

pub pairs-init : goal.pairs-init
pairs-init g c = record {
  same = refl;
  sofar = struct_start _ _ (λ _. false) (λ _. false) _ (c.in_ok-map.ensures.pairs _ _);
  names = refl;
  reaches = reaches_start _ _ c.in_ok-map.ensures.plain;
}

-- a key was refused
pub returns-in-Err-clause-err : goal.returns-in-Err-clause-err
unfolding open_list
returns-in-Err-clause-err g c = missed_at _ _ (search rules) (missed_dropped (key_missed _ _ _ _ c.pairs.invariant.sofar _ _ _ _ c.in-Err.ensures.next))

-- a field was refused
pub returns-in-Err-read_field-clause-err : goal.returns-in-Err-read_field-clause-err
unfolding open_list
returns-in-Err-read_field-clause-err g c =
    let n = rw c.in-Some.is at c.in-Ok.ensures.next in
    let refused = rw c.as_str.ensures.value at c.in-Err-read_field.ensures.refused in
    missed_at _ _ (search rules) (missed_dropped (field_missed _ _ _ _ _ (name_read _ _ _ _ c.pairs.invariant.sofar c.in-Some.name _ n.0) _ _ _ refused))

pub pairs-preserved : goal.pairs-preserved
unfolding open_list
pairs-preserved g c =
    let v = c.pairs.invariant in
    let n = rw c.in-Some.is at c.in-Ok.ensures.next in
    let more = rw c.as_str.ensures.value at c.in-Ok-read_field.ensures.read in
    let picked = rw c.as_str.ensures.value at c.in-Ok-read_field.ensures.picked in
    record {
      same = c.read_field.ensures.same_reference ∙ (c.next_key.ensures.same_reference ∙ v.same);
      sofar = field_read _ _ _ _ _ _ _ (name_read _ _ _ _ v.sofar c.in-Some.name _ n.0) more;
      names = picked.names ∙ v.names;
      reaches = reaches_value _ _ _ _ _ _ _ _ _ _ v.names (reaches_name _ _ _ _ _ c.in-Some.name _ _ _ v.reaches n.0) picked;
    }

-- a field is missing
pub returns-in_default-take_values-clause-err : goal.returns-in_default-take_values-clause-err
unfolding open_list
returns-in_default-take_values-clause-err g c =
    let n = rw c.in_default.is at c.in-Ok.ensures.next in
    missing _ _ _ _ c.pairs.invariant.sofar n.0 (c.take_values.ensures.none c.in_default-take_values.is) g.R.Read.buffers _ _ (custom_device _ _ c.custom.ensures) (search rules)

pub returns-clause-ok : goal.returns-clause-ok
unfolding open_list
returns-clause-ok g c =
    let values = c.take_values.ensures.some _ c.in-Some-take_values.is in
    let n = rw c.in_default.is at c.in-Ok.ensures.next in
    found_at _ _ (search rules) (struct_found _ _ _ _ c.pairs.invariant.sofar _ values _ n.0 (c.in_ok-end.ensures.ends.is ∙ ap (λ (l : Listing). behind_end l) n.1))

-- ---- refusals by name

pub returns-in_err-map-clause-named : goal.returns-in_err-map-clause-named
returns-in_err-map-clause-named g c =
    let none = rw c.in_err-map.was at c.deserialize_map.follows.holds-at-none in
    named_on _ _ _ c.from_residual.ensures.1 refl (unopened_as _ _ true g.R.Read.buffers _ _ _ (λ _. refl) none.not_opened)

pub returns-in-Err-clause-named : goal.returns-in-Err-clause-named
unfolding open_list
returns-in-Err-clause-named g c =
    let v = c.pairs.invariant in
    let s = v.sofar in
    key_named _ _ _ g.R.Read.buffers _ _ _ c.in_ok-map.ensures.exact _ _ _ _ (taken_since s.opened s.reads) v.reaches s.reads.not_ended s.turn ((c.in-Err.ensures.next.refused s.turn).some_left s.reads.not_ended) (search rules) c.in-Err.ensures.named

pub returns-in-Err-read_field-clause-named : goal.returns-in-Err-read_field-clause-named
unfolding open_list
returns-in-Err-read_field-clause-named g c =
    let v = c.pairs.invariant in
    let n = rw c.in-Some.is at c.in-Ok.ensures.next in
    let refused = rw c.as_str.ensures.value at c.in-Err-read_field.ensures.named in
    let s = name_read _ _ _ _ v.sofar c.in-Some.name _ n.0 in
    value_named _ _ _ g.R.Read.buffers _ _ _ c.in_ok-map.ensures.exact _ _ _ _ _ v.names (taken_since s.opened s.reads) (reaches_name _ _ _ _ _ c.in-Some.name _ _ _ v.reaches n.0) s.reads.not_ended s.turn (search rules) refused

pub returns-in_default-take_values-clause-named : goal.returns-in_default-take_values-clause-named
unfolding open_list
returns-in_default-take_values-clause-named g c =
    let n = rw c.in_default.is at c.in-Ok.ensures.next in
    let v = c.pairs.invariant in
    let s = v.sofar in
    missing_named _ _ _ g.R.Read.buffers _ _ _ _ c.in_ok-map.ensures.exact _ (g.S.Fields.slots c.pairs.slots) _ (taken_since s.opened s.reads) v.reaches n.0 (c.take_values.ensures.none c.in_default-take_values.is) c.custom.ensures

pub returns-in_err-end-clause-named : goal.returns-in_err-end-clause-named
unfolding open_list
returns-in_err-end-clause-named g c =
    let s = c.pairs.invariant.sofar in
    let n = rw c.in_default.is at c.in-Ok.ensures.next in
    let ends = rw n.1 at c.in_err-end.ensures.ends in
    named_on _ _ _ c.from_residual-in_err-end.ensures.1 (search rules) (no_end _ true g.R.Read.buffers _ _ _ _ _ s.opened s.reads n.0 ends)
