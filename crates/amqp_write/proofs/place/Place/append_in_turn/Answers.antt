-- Strings, by blocks and one by one.
use Rattle.std.proofs.Common.{[], arith}
use Rattle.std.specs.Prelude.{string_bytes}
use Rattle.amqp_base.specs.Item.{scalar, string}
use Rattle.amqp_write.specs.State.{stand, unmarked}
use Rattle.amqp_write.proofs.Bytes.{measure_start}
use Rattle.amqp_write.proofs.ManyTexts.{written_none}
use Rattle.amqp_write.proofs.StringTexts.{written_next, written_some, written_till, refused_some}
use Rattle.amqp_write.proofs.place.Place.append_in_turn.Goals as goal

pub loop-done-init : goal.loop-done-init
unfolding stand
loop-done-init g c = record { few = omega arith; written = written_none unmarked _ (measure_start _ _) }

pub loop-done-preserved-in-Ok : goal.loop-done-preserved-in-Ok
unfolding stand
loop-done-preserved-in-Ok g c = record {
  few = omega (arith, c.loop-done-test.true);
  written = written_next unmarked (λ t. scalar (string (string_bytes t))) c.args.values.now c.loop-done.done c.index-values-done.result _ _ _ c.append_string.result _ c.loop-done-test.true c.index-values-done.is c.loop-done.invariant.written c.in-Ok.is (rw c.as_str-text.ensures.value at c.append_string.ensures.law);
}

pub returns-in-Err-clause-law : goal.returns-in-Err-clause-law
unfolding stand
returns-in-Err-clause-law g c = written_till unmarked _ [] _ _ _ _ c.append_string.result c.in-Err.e c.loop-done.invariant.written c.in-Err.is c.append_string.ensures.law

pub loop-done-preserved : goal.loop-done-preserved
unfolding stand
loop-done-preserved g c = record {
  few = omega (arith, c.put_some-count.ensures.few, c.loop-done.invariant.few);
  written = written_some unmarked (λ t. scalar (string (string_bytes t))) c.args.values.now c.loop-done.done c.put_some-count.result.0 _ _ _ _ c.append.result _ c.loop-done.invariant.written c.put_some-count.ensures.texts.texts c.in-Ok-append.is c.append.ensures;
}

pub returns-in-Err-append-clause-law : goal.returns-in-Err-append-clause-law
unfolding stand
returns-in-Err-append-clause-law g c = refused_some unmarked _ [] _ _ _ _ c.append.result c.in-Err-append.e c.loop-done.invariant.written c.in-Err-append.is c.append.ensures
