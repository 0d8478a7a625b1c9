use Rattle.std.proofs.Common.{refl, rules}
use Rattle.amqp_types.specs.Descriptors.{descriptor_of}
use Rattle.amqp_de.specs.Identifies.{identifier_of}
use Rattle.amqp_de.proofs.Identified.{shows_described, exact_described, exact_unseen, missed_unseen_descriptor, exact_code, ignored_unlooked, missed_unlooked}
use Rattle.amqp_de.proofs.deserializer.Deserializer.deserialize_ignored_any.Goals as goal

pub returns-in-Ok-look_descriptor-clause-ok : goal.returns-in-Ok-look_descriptor-clause-ok
returns-in-Ok-look_descriptor-clause-ok g c = rw c.described_by.ensures (shows_described (descriptor_of c.in-Ok-look_descriptor.descriptor) _ _ _ (rw c.in-DescribedType.is at c.in-Ok.ensures.ok) c.in-Ok-look_descriptor.ensures.ok)

pub returns-in-Ok-look_descriptor-clause-exact : goal.returns-in-Ok-look_descriptor-clause-exact
returns-in-Ok-look_descriptor-clause-exact g c = λ a. exact_described c.described_by.result (descriptor_of c.in-Ok-look_descriptor.descriptor) g.R.Read.buffers _ _ _ c.described_by.ensures (rw c.in-DescribedType.is at c.in-Ok.ensures.ok) c.in-Ok-look_descriptor.ensures.ok

pub returns-in-Err-look_descriptor-clause-err : goal.returns-in-Err-look_descriptor-clause-err
returns-in-Err-look_descriptor-clause-err g c = missed_unseen_descriptor g.R.Read.buffers _ _ _ c.in-Err-look_descriptor.e (rw c.in-DescribedType.is at c.in-Ok.ensures.ok) c.in-Err-look_descriptor.ensures.err

pub returns-in-Err-look_descriptor-clause-exact : goal.returns-in-Err-look_descriptor-clause-exact
returns-in-Err-look_descriptor-clause-exact g c = λ a. exact_unseen identifier_of g.R.Read.buffers _ _ _ c.in-Err-look_descriptor.e (rw c.in-DescribedType.is at c.in-Ok.ensures.ok) c.in-Err-look_descriptor.ensures.err

pub returns-in_default : goal.returns-in_default
returns-in_default g c = record {
  ok = c.in-Ok.ensures.ok;
  err = tt;
  exact = λ a. exact_code c.in-Ok.code g.R.Read.buffers _ _ _ refl c.in_default.not-DescribedType c.in-Ok.ensures.ok;
  stops = search rules;
}

pub returns-in-Err-clause-err : goal.returns-in-Err-clause-err
returns-in-Err-clause-err g c = missed_unlooked g.R.Read.buffers _ _ c.in-Err.e c.in-Err.ensures.err

pub returns-in-Err-clause-exact : goal.returns-in-Err-clause-exact
returns-in-Err-clause-exact g c = λ a. ignored_unlooked identifier_of g.R.Read.buffers _ _ c.in-Err.e a c.in-Err.ensures.err
