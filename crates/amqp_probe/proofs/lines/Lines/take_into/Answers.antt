use Rattle.std.proofs.Common.{◌-◌, take, drop, arith}
use Rattle.amqp_probe.proofs.Pieces.{moved_line, moved_all}
use Rattle.amqp_probe.proofs.Split.{splits, without}
use Rattle.amqp_probe.proofs.lines.Lines.take_into.Goals as goal

pub returns-in_ok-extend_from_slice-in-Some-clause-moved : goal.returns-in_ok-extend_from_slice-in-Some-clause-moved
returns-in_ok-extend_from_slice-in-Some-clause-moved c =
    let self = c.args.self.now in
    let line = c.args.line.now in
    let stop = c.min-stop.result in
    let some = c.requires.some in
    let order = self.in_order in
    let bound = self.in_block in
    let size = self.block.ok.0 in
    let long = line.ok.0 in
    let f = rw c.deref.ensures.value at c.in-Some.ensures in
    moved_line self.block.items line.items _ self.start self.end stop c.in-Some.n (omega arith) (omega arith) (omega arith)
    (splits 10 (take (stop - self.start) (drop self.start self.block.items)) c.in-Some.n f) (omega arith)
    (rw c.deref.ensures.value at c.in_ok-extend_from_slice-in-Some.ensures.items)

pub returns-in_ok-extend_from_slice-in-None-clause-moved : goal.returns-in_ok-extend_from_slice-in-None-clause-moved
returns-in_ok-extend_from_slice-in-None-clause-moved c =
    let self = c.args.self.now in
    let line = c.args.line.now in
    let stop = c.min-stop.result in
    let some = c.requires.some in
    let order = self.in_order in
    let bound = self.in_block in
    let size = self.block.ok.0 in
    let long = line.ok.0 in
    let f = rw c.deref.ensures.value at c.in-None.ensures in
    moved_all self.block.items line.items _ self.start self.end stop (omega arith) (omega arith) (omega arith)
    (without 10 (take (stop - self.start) (drop self.start self.block.items)) f) (omega arith)
    (rw c.deref.ensures.value at c.in_ok-extend_from_slice-in-None.ensures.items)
