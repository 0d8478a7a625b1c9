use Rattle.std.proofs.Common.{subst}
use Rattle.amqp_types.specs.Descriptors.{descriptor_of}
use Rattle.amqp_ser.specs.Law.{Refused}
use Rattle.amqp_ser.proofs.Stages.{struct_is}
use Rattle.amqp_base.specs.Structs.{fields_parts}
use Rattle.amqp_ser.specs.Staged.{behind, shape_under, shape_behind, HasFields, AwaitsDescriptor}
use Rattle.amqp_ser.proofs.staged.StagedCompound+W+F.serialize_descriptor.Goals as goal

pub returns-in-Ok-clause-law : goal.returns-in-Ok-clause-law
unfolding HasFields AwaitsDescriptor
returns-in-Ok-clause-law g c =
    let w = c.in-Ok.ensures in
    record {
      ok = w.ok;
      err = tt;
      uncalled = λ s b fs h. w.uncalled s b (fields_parts (shape_under b) fs) h;
      stops = w.stops;
    }

pub returns-in-Err-clause-law : goal.returns-in-Err-clause-law
unfolding HasFields AwaitsDescriptor
returns-in-Err-clause-law g c =
    let w = c.in-Err.ensures in
    record {
      ok = tt;
      err = λ s x fs a. subst (λ i. Refused s i c.in-Err.e c.write_descriptor.new.ser.state) (struct_is (behind x (descriptor_of c.args.descriptor.now)) fs) (w.err s x (fields_parts (shape_behind x) fs) a);
      uncalled = λ s b fs h. w.uncalled s b (fields_parts (shape_under b) fs) h;
      stops = w.stops;
    }
