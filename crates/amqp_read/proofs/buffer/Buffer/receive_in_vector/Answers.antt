use Rattle.std.proofs.Common.{◌≡◌, ◌≤◌, ◌+◌, ◌++◌, List, ℕ, length, take, drop, arith, ap, ◌∙◌, sym, append_assoc, length-append}
use Rattle.std.proofs.lemmas.List.{length-take-le}
use Rattle.std.proofs.lemmas.Grind.{common_steps}
use Rattle.amqp_read.specs.Streaming.{Buffered}
use Rattle.amqp_read.proofs.Streams.{cut_behind, received_stays}
use Rattle.amqp_read.proofs.buffer.Buffer.receive_in_vector.Goals as goal

pub returns-in-Ok-clause-asked : goal.returns-in-Ok-clause-asked
returns-in-Ok-clause-asked g c =
    let old = c.self.inside.bytes.items in
    let read = c.read_behind.new.bytes in
    let front : take c.len-have.result read ≡ old = grind (arith, common_steps) in
    let cut : c.truncate.new.self.items ≡ take (c.len-have.result + c.in-Ok.got) read = grind (arith, common_steps) in
    let given = take c.in-Ok.got (drop c.len-have.result read) in
    let few = c.self.inside.few.bytes in
    let unread : few ++ drop c.self.inside.start old ≡ c.args.self.now.unread = ap (λ (z : Buffered). z.unread) c.self.view_is ∙ c.make_room.ensures.front.unread in
    let have : c.len-have.result ≡ length old = grind (arith, common_steps) in
    let within : c.self.inside.start ≤ c.len-have.result = omega arith in
    let kept : few ++ drop c.self.inside.start c.truncate.new.self.items ≡ c.args.self.now.unread ++ given =
    rw cut (ap (λ (z : List ℕ). few ++ z) (cut_behind old read _ _ c.in-Ok.got front have within) ∙ sym (append_assoc few (drop c.self.inside.start old) given) ∙ ap (λ (z : List ℕ). z ++ given) unread) in
    let got : c.in-Ok.got ≤ length (drop c.len-have.result read) = grind (arith, common_steps) in
    rw kept (record {
      stays = received_stays _ _ _ _ _ _ _ _ _ _ _ _ _ c.in-Ok.ensures.read.0 c.in-Ok.ensures.counts c.in-Ok.ensures.honest c.in-Ok.ensures.origin;
      few = grind (arith, common_steps);
      len = omega (arith, length-append c.args.self.now.unread given, length-take-le c.in-Ok.got (drop c.len-have.result read) got);
      kept = tt;
      why = tt;
    })
