use Rattle.std.proofs.Common.{◌∙◌, arith, sym}
use Rattle.std.proofs.lemmas.Bool.{eqb-true, eqb-false}
use Rattle.std.proofs.lemmas.List.{nil_from_length}
use Rattle.amqp_probe.proofs.Cuts.{kept, consumes_piece, clean_piece, next_ended, next_long, next_last, next_none}
use Rattle.amqp_probe.proofs.lines.Lines.next_line.Goals as goal
use Rattle.amqp_probe.proofs.lines.Lines.next_line.Goals.{then-is_empty, else-is_empty, then-ended-via-then-ended, then-ended-via-else-ended+then-len-gt-LIMIT}

pub pieces-smaller : goal.pieces-smaller
pieces-smaller g c =
    let p = c.in_ok-ended.ensures.progress in
    let t = c.in_ok-fill.ensures.taken in
    let r = c.pieces.self.countable in
    let r2 = c.take_into.new.self.countable in
    omega arith

pub pieces-preserved : goal.pieces-preserved
pieces-preserved g c =
    let i = c.pieces.invariant in
    let m = rw c.if-ended.false at c.in_ok-ended.ensures.moved in
    let n = rw c.if-ended.false at c.in_ok-ended.ensures.counted in
    let t = c.in_ok-fill.ensures.taken in
    let short = c.if-len-gt-LIMIT.false in
    let len = c.len.ensures in
    let size = c.take_into.new.line.ok.0 in
    let so_far = i.counted in
    record {
      known = consumes_piece _ _ _ _ _ _ (kept _ _ _ _ c.in_ok-fill.ensures.bytes i.known) m;
      clean = clean_piece _ _ _ _ _ i.clean m;
      short = omega arith;
      counted = omega arith;
      same = c.in_ok-fill.ensures.faults ∙ i.same;
    }

pub returns-then-ended-clause-next : goal.returns-then-ended-clause-next
returns-then-ended-clause-next g c =
    let i = c.pieces.invariant in
    let known = kept _ _ _ _ c.in_ok-fill.ensures.bytes i.known in
    elim c.then-ended.branch [
      | then-ended-via-then-ended w ↦
          let m = rw w.if-ended.true at c.in_ok-ended.ensures.moved in
          next_ended _ _ _ _ _ _ known i.clean m
      | then-ended-via-else-ended+then-len-gt-LIMIT w ↦
          let m = rw w.if-ended.false at c.in_ok-ended.ensures.moved in
          let long = w.if-len-gt-LIMIT.true in
          let len = w.len.ensures in
          let size = c.take_into.new.line.ok.0 in
          next_long _ _ _ _ _ _ known i.clean m (omega arith)
    ]

pub returns-clause-next : goal.returns-clause-next
returns-clause-next g c =
    let i = c.pieces.invariant in
    let known = kept _ _ _ _ c.in_ok-fill.ensures.bytes i.known in
    let end = c.in_ok-fill.ensures.end c.if-branch.false in
    let size = c.pieces.line.ok.0 in
    elim c.if-is_empty.branch [
      | then-is_empty w ↦
          let none = eqb-true _ _ (sym w.if-is_empty.ensures) in
          rw w.result-is (next_none _ _ _ known end (nil_from_length c.pieces.line.items (omega arith)))
      | else-is_empty w ↦
          let some = eqb-false _ _ (sym w.if-is_empty.ensures) in
          rw w.result-is (next_last _ _ _ known end i.clean i.short (omega arith))
    ]
