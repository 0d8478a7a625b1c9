use Rattle.std.proofs.Common.{◌≡◌, ◌-◌, suc, true, arith, refl, ap}
use Rattle.amqp_de.specs.Decoding.{Decoding}
use Rattle.amqp_de.specs.Ignored.{nested, ignored_refusal, anything, none_passed, one_passed}
use Rattle.amqp_de.proofs.DescribedRead.{described_missed, undescribed, described_named, undescribed_named}
use Rattle.amqp_de.proofs.IgnoredParts.{elements_found, elements_missed, elements_named, entries_found, entries_missed, entries_named}
use Rattle.amqp_de.proofs.IgnoredRead.{scalar_found, scalar_missed, scalar_named, inside_found, inside_missed, inside_named, deep_missed, deep_named, any_unseen, any_unseen_named, value_found}
use Rattle.amqp_de.proofs.NamedElements.{seq_unopened}
use Rattle.amqp_de.proofs.NamedParts.{unopened_as}
use Rattle.amqp_de.proofs.Naming.{named_dropped}
use Rattle.amqp_de.proofs.PartsRead.{missed_more, over_long}
use Rattle.amqp_de.proofs.ReadParts.{missed_dropped}
use Rattle.amqp_de.proofs.deserializer.Deserializer.+ignored.Goals as goal

-- ---- an item

pub pass_over-returns-then-depth-eq0 : goal.pass_over-returns-then-depth-eq0
pass_over-returns-then-depth-eq0 g t c = record {
  ok = tt;
  err = rw c.stop.ensures (missed_dropped (deep_missed c.args.depth c.if-depth-eq0.true g.R.Read.buffers _ _ c.in-Ok.code c.in-Ok.ensures.ok c.in-Some.inside c.in-Some.ensures));
  named = rw c.stop.ensures (named_dropped (deep_named c.args.depth c.if-depth-eq0.true g.R.Read.buffers _ _ c.in-Ok.code c.in-Ok.ensures.ok c.in-Some.inside c.in-Some.ensures));
}

pub pass_over-returns-in-Ok-pass_scalar : goal.pass_over-returns-in-Ok-pass_scalar
pass_over-returns-in-Ok-pass_scalar g t c = record { ok = scalar_found c.args.depth g.R.Read.buffers _ _ _ c.in-Ok.code c.in-Ok.ensures.ok c.in-Ok-pass_scalar.ensures.ok; err = tt; named = tt }

pub pass_over-returns-in-Err-pass_scalar : goal.pass_over-returns-in-Err-pass_scalar
pass_over-returns-in-Err-pass_scalar g t c =
    let r = c.in-Err-pass_scalar.ensures in
    record {
      ok = tt;
      err = scalar_missed c.args.depth g.R.Read.buffers _ _ _ c.in-Ok.code c.in-Ok.ensures.ok _ c.in-None.ensures r.err;
      named = scalar_named c.args.depth g.R.Read.buffers _ _ _ c.in-Ok.code c.in-Ok.ensures.ok _ c.in-None.ensures r.named;
    }

pub pass_over-returns-in-Ok-pass_inside : goal.pass_over-returns-in-Ok-pass_inside
pass_over-returns-in-Ok-pass_inside g t c =
    let deeper : c.args.depth ≡ suc (c.args.depth - 1) = omega (arith, c.if-depth-eq0.false) in
    record { ok = inside_found (c.args.depth - 1) g.R.Read.buffers _ _ _ c.in-Ok.code c.in-Ok.ensures.ok c.args.depth deeper c.in-Some.inside c.in-Ok-pass_inside.ensures.ok; err = tt; named = tt }

pub pass_over-returns-in-Err-pass_inside : goal.pass_over-returns-in-Err-pass_inside
pass_over-returns-in-Err-pass_inside g t c =
    let deeper : c.args.depth ≡ suc (c.args.depth - 1) = omega (arith, c.if-depth-eq0.false) in
    let r = c.in-Err-pass_inside.ensures in
    record {
      ok = tt;
      err = inside_missed (c.args.depth - 1) g.R.Read.buffers _ _ _ c.in-Ok.code c.in-Ok.ensures.ok c.args.depth deeper c.in-Some.inside _ c.in-Some.ensures r.err;
      named = inside_named (c.args.depth - 1) g.R.Read.buffers _ _ _ c.in-Ok.code c.in-Ok.ensures.ok c.args.depth deeper c.in-Some.inside _ c.in-Some.ensures r.named;
    }

pub pass_over-returns-in-Err : goal.pass_over-returns-in-Err
pass_over-returns-in-Err g t c = record { ok = tt; err = any_unseen c.args.depth g.R.Read.buffers _ _ _ c.in-Err.ensures.err; named = any_unseen_named c.args.depth g.R.Read.buffers _ _ _ c.in-Err.ensures.err }

-- ---- a value behind a descriptor

pub pass_described-returns-in-Ok-pass_over : goal.pass_described-returns-in-Ok-pass_over
pass_described-returns-in-Ok-pass_over g t c = record { ok = value_found c.args.depth _ _ _ _ c.in-Ok.ensures.ok c.in-Ok-pass_over.ensures.ok; err = tt; named = tt }

pub pass_described-returns-in-Ok : goal.pass_described-returns-in-Ok
pass_described-returns-in-Ok g t c =
    let r = c.in-Err-pass_over.ensures in
    record {
      ok = tt;
      err = described_missed (nested c.args.depth) true g.R.Read.buffers _ _ _ _ _ c.in-Ok.ensures.ok r.err;
      named = described_named (ignored_refusal c.args.depth) true g.R.Read.buffers _ _ _ _ _ c.in-Ok.ensures.ok r.named;
    }

pub pass_described-returns : goal.pass_described-returns
pass_described-returns g t c = record {
  ok = tt;
  err = undescribed (nested c.args.depth) g.R.Read.buffers _ _ _ c.in-Err.ensures.err;
  named = undescribed_named (ignored_refusal c.args.depth) g.R.Read.buffers _ _ _ c.in-Err.ensures.err;
}

-- ---- a list or an array

pub pass_elements-returns-in-Ok-close : goal.pass_elements-returns-in-Ok-close
pass_elements-returns-in-Ok-close g t c =
    let p = c.in-Ok-pass_parts.ensures in
    record {
      ok = elements_found (nested c.args.depth) (ignored_refusal c.args.depth) g.R.Read.buffers _ _ c.in-Ok.ensures.ok _ _ p.ok p.all c.in-Ok-close.ensures.ends.is;
      err = tt;
      named = tt;
    }

pub pass_elements-returns-in-Err-pass_parts : goal.pass_elements-returns-in-Err-pass_parts
pass_elements-returns-in-Err-pass_parts g t c =
    let n = c.in-Err-pass_parts.ensures.err in
    record {
      ok = tt;
      err = elements_missed (nested c.args.depth) (ignored_refusal c.args.depth) g.R.Read.buffers _ _ c.in-Ok.ensures.ok _ _ n;
      named = elements_named (nested c.args.depth) (ignored_refusal c.args.depth) g.R.Read.buffers _ _ c.in-Ok.ensures.ok _ _ n;
    }

pub pass_elements-returns-in-Err : goal.pass_elements-returns-in-Err
pass_elements-returns-in-Err g t c =
    let n = c.in-Err.ensures.err in
    record { ok = tt; err = n.missed (nested c.args.depth); named = seq_unopened (nested c.args.depth) (ignored_refusal c.args.depth) g.R.Read.buffers _ _ _ n }

-- ---- a map

pub pass_entries-returns-in-Ok-close : goal.pass_entries-returns-in-Ok-close
pass_entries-returns-in-Ok-close g t c =
    let p = c.in-Ok-pass_parts.ensures in
    record {
      ok = entries_found (nested c.args.depth) (ignored_refusal c.args.depth) g.R.Read.buffers _ _ c.in-Ok.ensures.ok _ _ p.ok p.all c.in-Ok-close.ensures.ends.is;
      err = tt;
      named = tt;
    }

pub pass_entries-returns-in-Err-pass_parts : goal.pass_entries-returns-in-Err-pass_parts
pass_entries-returns-in-Err-pass_parts g t c =
    let n = c.in-Err-pass_parts.ensures.err in
    let o = c.in-Ok.ensures in
    record {
      ok = tt;
      err = entries_missed (nested c.args.depth) (ignored_refusal c.args.depth) g.R.Read.buffers _ _ o.ok _ _ n;
      named = entries_named (nested c.args.depth) (ignored_refusal c.args.depth) g.R.Read.buffers _ _ o.ok _ _ o.exact o.plain n;
    }

pub pass_entries-returns-in-Err : goal.pass_entries-returns-in-Err
pass_entries-returns-in-Err g t c =
    let n = c.in-Err.ensures.err in
    record { ok = tt; err = missed_more (λ _. refl) (n.missed (nested c.args.depth) (nested c.args.depth)); named = unopened_as _ _ true g.R.Read.buffers _ _ _ (λ _. refl) n.not_opened }

-- ---- the parts

pub pass_part-returns-then-not-within-clause-err : goal.pass_part-returns-then-not-within-clause-err
pass_part-returns-then-not-within-clause-err g t c =
    let r = ap (λ (d : Decoding). d.reading) c.stop.ensures in
    let q = ap (λ (d : Decoding). d.ended) c.stop.ensures in
    let b = ap (λ (d : Decoding). d.begun) c.stop.ensures in
    let no = rw c.bytes_consumed-consumed.ensures at c.is_within-within.ensures.no c.if-not-within.true in
    over_long (nested c.args.depth) anything true g.R.Read.buffers _ _ c.pass_over.new.self c.requires.0 c.requires.1 c.in-Ok.ensures.ok no q r b

pub pass_parts-parts-init : goal.pass_parts-parts-init
pass_parts-parts-init g t c = record { passed = none_passed; not_ended = c.requires }

pub pass_parts-parts-preserved : goal.pass_parts-parts-preserved
pass_parts-parts-preserved g t c = record { passed = one_passed _ _ c.parts.invariant.passed c.in-Ok.ensures.ok; not_ended = c.in-Ok.ensures.ok.front.not_ended }
