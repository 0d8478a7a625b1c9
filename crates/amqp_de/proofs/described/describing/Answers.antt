use Rattle.std.proofs.Common.{rules}
use Rattle.amqp_de.proofs.BehindDescriptor.{no_first, other_first, no_name}
use Rattle.amqp_de.proofs.described.describing.Goals as goal

pub returns-then-first-ne-DESCRIBED_TYPE-clause-err : goal.returns-then-first-ne-DESCRIBED_TYPE-clause-err
returns-then-first-ne-DESCRIBED_TYPE-clause-err g c = λ custom s. other_first custom g.R.Read.buffers c.in-Ok.first _ _ (λ h. c.if-first-ne-DESCRIBED_TYPE.true h) c.in-Ok.ensures.ok

pub returns-in-Err-descriptor-clause-err : goal.returns-in-Err-descriptor-clause-err
returns-in-Err-descriptor-clause-err g c = λ custom s. no_name custom g.R.Read.buffers c.in-Ok.first _ _ _ _ (search rules) c.in-Ok.ensures.ok (c.in-Err-descriptor.ensures.err custom s)

pub returns-in-Err-clause-err : goal.returns-in-Err-clause-err
returns-in-Err-clause-err g c = λ custom s. no_first custom g.R.Read.buffers _ _ _ c.in-Err.ensures.err
