use Rattle.amqp_ser.specs.State.{unmarked}
use Rattle.amqp_ser.specs.Gathered.{entry_items}
use Rattle.amqp_write.specs.ManyTexts.{HaveTextsOf}
use Rattle.amqp_ser.proofs.entries.lengths.Given as goal

abbrev pub invariant-loop-key : goal.invariant-loop-key
invariant-loop-key g l = record {
  texts : HaveTextsOf unmarked (entry_items g.K.Typed.meaning g.V.Typed.meaning l.yielded) l.sum;
}
