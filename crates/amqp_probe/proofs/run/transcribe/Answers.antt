use Rattle.std.proofs.Common.{◌∙◌, arith, refl}
use Rattle.amqp_probe.proofs.Transcripts.{weighs_more, answered_more, bad_prints, end_prints}
use Rattle.amqp_probe.proofs.Writes.{extends_more}
use Rattle.amqp_probe.proofs.run.transcribe.Goals as goal

pub returns-in-Ok-Some-clause-prints : goal.returns-in-Ok-Some-clause-prints
returns-in-Ok-Some-clause-prints g c =
    let i = c.lines.invariant.0 in
    let next = rw c.in-Some.is at c.in_ok-line.ensures.next in
    let puts = rw (c.as_slice.ensures.value, c.in-Ok-Some.field-0-is) at c.in-Ok-Some.ensures.ok in
    let none = c.in_ok-pass_on-in-Ok-Some.ensures.all refl in
    bad_prints _ _ _ _ _ _ c.lines.number _ _ _ _ _ i.answered next refl puts c.in_ok-pass_on-in-Ok-Some.ensures.kept none

pub lines-preserved : goal.lines-preserved
lines-preserved g c =
    let i = c.lines.invariant.0 in
    let next = rw c.in-Some.is at c.in_ok-line.ensures.next in
    let puts = rw (c.as_slice.ensures.value, c.in-Ok-None.field-0-is) at c.in-Ok-None.ensures.ok in
    let progress = rw c.in-Some.is at c.in_ok-line.ensures.progress in
    let number = i.numbered in (
      record {
        answered = answered_more _ _ _ _ _ _ c.lines.number _ _ _ _ i.answered next puts c.in_ok-pass_on-in-Ok-None.ensures.kept;
        weighs = weighs_more _ _ _ _ _ _ i.weighs c.in_ok-line.ensures.weighs;
        numbered = omega arith;
      },
      c.in_ok-line.ensures.faults ∙ c.lines.invariant.1,
      c.in_ok-pass_on-in-Ok-None.ensures.same ∙ c.lines.invariant.2,
      extends_more _ _ _ c.lines.invariant.3 c.pass_on.ensures.extends,
    )

pub returns-clause-prints : goal.returns-clause-prints
returns-clause-prints g c =
    let i = c.lines.invariant.0 in
    let none = c.in_ok-pass_on.ensures.all refl in
    end_prints _ _ _ _ _ c.lines.number _ _ i.answered (rw c.in_default.is at c.in_ok-line.ensures.next) c.in_ok-pass_on.ensures.kept none
