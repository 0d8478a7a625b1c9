use Rattle.std.proofs.Common.{◌≡◌, ◌+◌, arith, false, Some, Ok, Err, refl, length, ap, ◌∙◌}
use Rattle.amqp_base.specs.Wire.{bare}
use Rattle.amqp_read.specs.Reading.{Reading}
use Rattle.amqp_de.specs.Decoding.{Decoding}
use Rattle.amqp_de.specs.Law.{Found}
use Rattle.serde_amqp.proofs.Whole.{consumed, left_behind, all_read, with_rest, without_rest}
use Rattle.serde_amqp.proofs.rest.from_slice_with_rest.Goals as goal

pub returns-in-Ok-clause-found : goal.returns-in-Ok-clause-found
returns-in-Ok-clause-found g c =
    let m = g.T.Typed.meaning in
    let new : Decoding = c.deserialize-result.new.de in
    let begins = c.new-de.ensures ∙ ap (λ r. record { reading = r; ended = false; inherited = bare; described = false; begun = 0 }) c.new.ensures in
    let found : Found m.takes (λ i. m.means i c.in-Ok.value) _ new = rw begins at c.in-Ok.ensures.ok in
    let x = found.front refl in
    let rest = consumed (Some c.args.slice.now) new.reading.to_come c.args.slice.now x.text refl x.step.to_come in
    let told : c.bytes_consumed-taken.result ≡ 0 + length x.text = c.bytes_consumed-taken.ensures ∙ ap (λ (z : Reading). z.taken) c.into_reader.ensures ∙ x.step.taken in
    let taken : c.bytes_consumed-taken.result ≡ length x.text = omega (arith, told) in
    record {
      item = x.item;
      text = x.text;
      spelled = x.spelled;
      taken = x.taken;
      value = x.value;
      left = left_behind c.args.slice.now x.text c.bytes_consumed-taken.result rest.0 rest.1 taken;
    }

pub returns-in-Ok-clause-only : goal.returns-in-Ok-clause-only
returns-in-Ok-clause-only g c =
    let m = g.T.Typed.meaning in
    with_rest m.takes m.means m.grows c.args.slice.now c.in-Ok.value _
    (all_read m.takes m.means m.grows c.args.slice.now _ _ (Ok c.in-Ok.value) (c.new-de.ensures ∙ ap (λ r. record { reading = r; ended = false; inherited = bare; described = false; begun = 0 }) c.new.ensures) c.in-Ok.ensures.ok c.in-Ok.ensures.err)

pub returns-in-Err-clause-only : goal.returns-in-Err-clause-only
returns-in-Err-clause-only g c =
    let m = g.T.Typed.meaning in
    without_rest m.takes m.means m.grows c.args.slice.now c.in-Err.e
    (all_read m.takes m.means m.grows c.args.slice.now _ _ (Err c.in-Err.e) (c.new-de.ensures ∙ ap (λ r. record { reading = r; ended = false; inherited = bare; described = false; begun = 0 }) c.new.ensures) c.in-Err.ensures.ok c.in-Err.ensures.err)
