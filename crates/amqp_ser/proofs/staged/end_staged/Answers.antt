use Rattle.std.proofs.Common.{false}
use Rattle.amqp_ser.proofs.Compounds.{kept_itself}
use Rattle.amqp_ser.proofs.Stages.{plain_wrote, plain_end_refused, behind_wrote, behind_end_refused, ends_held}
use Rattle.amqp_ser.proofs.staged.end_staged.Goals as goal

pub returns-in-Plain-clause-ok : goal.returns-in-Plain-clause-ok
returns-in-Plain-clause-ok g c = plain_wrote c.end_plain.result _ _ c.args.of c.in-Plain.is c.end_plain.ensures

pub returns-in-Plain-clause-err : goal.returns-in-Plain-clause-err
returns-in-Plain-clause-err g c = plain_end_refused c.end_plain.result _ _ c.args.of c.in-Plain.is c.end_plain.ensures

pub returns-in-Behind-clause-ok : goal.returns-in-Behind-clause-ok
returns-in-Behind-clause-ok g c = behind_wrote c.close_behind.result _ _ c.args.of c.in-Behind.is c.close_behind.ensures.law

pub returns-in-Behind-clause-err : goal.returns-in-Behind-clause-err
returns-in-Behind-clause-err g c = behind_end_refused c.close_behind.result _ _ c.args.of c.in-Behind.is c.close_behind.ensures.law

pub returns-in-Plain-clause-kept : goal.returns-in-Plain-clause-kept
returns-in-Plain-clause-kept g c = let w = c.end_plain.ensures false in ends_held _ c.end_plain.result _ w.kept w.stays_ended

pub returns-else-more-clause-kept : goal.returns-else-more-clause-kept
returns-else-more-clause-kept g c =
    let k = kept_itself c.args.ser.now.state in
    rw c.set_ended.ensures (record { kept = record { bytes = k.bytes; faults = k.faults; grows = k.grows }; held = tt })
