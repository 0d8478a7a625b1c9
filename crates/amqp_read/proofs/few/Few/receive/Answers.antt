use Rattle.std.proofs.Common.{◌≡◌, ◌≤◌, ◌+◌, ◌-◌, ◌∙◌, ap, refl, take, drop, length, length-append, arith}
use Rattle.std.proofs.lemmas.Grind.{common_steps}
use Rattle.std.proofs.lemmas.List.{length-take-le, take-take}
use Rattle.amqp_read.specs.Streaming.{InPlace}
use Rattle.amqp_read.proofs.InPlace.{part_longer, part_kept}
use Rattle.amqp_read.proofs.Streams.{received_stays, fault_stays, fault_fails}
use Rattle.amqp_read.proofs.few.Few.receive.Goals as goal

pub returns-in-Ok-clause-asked : goal.returns-in-Ok-clause-asked
returns-in-Ok-clause-asked g c =
    let i = c.self.inside in
    let read = c.read_behind.new.bytes in
    let before : take (i.end - i.start) (drop i.start i.bytes) ≡ c.args.self.now.bytes = ap (λ (z : InPlace). z.bytes) c.self.view_is in
    let room : i.end + c.args.n ≤ length i.bytes = grind (arith, common_steps) in
    let front : take i.end read ≡ take i.end i.bytes = c.in-Ok.ensures.front ∙ take-take i.end (i.end + c.args.n) i.bytes (omega arith) in
    let len : length read ≡ i.end + c.args.n = c.in-Ok.ensures.len ∙ length-take-le (i.end + c.args.n) i.bytes room in
    let bound : c.in-Ok.got ≤ c.args.n = grind (arith, common_steps) in
    let given = take c.in-Ok.got (drop i.end read) in
    let all : length given ≡ c.in-Ok.got = length-take-le c.in-Ok.got (drop i.end read) (grind (arith, common_steps)) in
    rw (part_longer i.start i.end c.in-Ok.got i.bytes read _ c.self.invariant.0 (omega arith) (omega arith) front, before) (record {
      stays = received_stays _ _ _ _ _ _ _ _ _ _ _ _ _ c.in-Ok.ensures.read.0 c.in-Ok.ensures.counts c.in-Ok.ensures.honest c.in-Ok.ensures.origin;
      few = bound;
      len = omega (arith, all, length-append c.args.self.now.bytes given);
      kept = tt;
      why = tt;
    })

pub returns-in-Err-clause-asked : goal.returns-in-Err-clause-asked
returns-in-Err-clause-asked g c =
    let i = c.self.inside in
    let read = c.read_behind.new.bytes in
    let before : take (i.end - i.start) (drop i.start i.bytes) ≡ c.args.self.now.bytes = ap (λ (z : InPlace). z.bytes) c.self.view_is in
    let room : i.end + c.args.n ≤ length i.bytes = grind (arith, common_steps) in
    let front : take i.end read ≡ take i.end i.bytes = c.in-Err.ensures.front ∙ take-take i.end (i.end + c.args.n) i.bytes (omega arith) in
    let len : length read ≡ i.end + c.args.n = c.in-Err.ensures.len ∙ length-take-le (i.end + c.args.n) i.bytes room in
    rw (part_kept i.start i.end i.bytes read _ c.self.invariant.0 (omega arith) front, before) (record {
      stays = fault_stays _ _ _ _ _ _ _ _ _ _ _ _ c.in-Err.ensures.read (grind (arith, common_steps)) c.in-Err.ensures.honest c.in-Err.ensures.origin;
      few = tt;
      len = tt;
      kept = refl;
      why = fault_fails _ refl c.in-Err.ensures.counts c.in-Err.ensures.kind;
    })
