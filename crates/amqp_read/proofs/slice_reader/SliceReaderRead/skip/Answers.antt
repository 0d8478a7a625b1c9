use Rattle.std.proofs.Common.{ℕ, arith, List, [], ◌∷◌, refl, Option, Some, None}
use Rattle.std.specs.Io.KnownBytes.{Consumes}
use Rattle.amqp_read.specs.Reading.{Reading, Agree}
use Rattle.amqp_read.specs.Steps.{PassesSome}
use Rattle.amqp_read.proofs.slice_reader.SliceReaderRead.skip.Goals as goal

consumes_none : (known : Option (List ℕ)) → Consumes known known []
consumes_none None = tt
consumes_none (Some s) = refl

agrees_none : (received : List ℕ) → Agree received []
agrees_none [] = tt
agrees_none (x ∷ xs) = tt

none_passed : (n : ℕ) (r : Reading) → PassesSome n r r
none_passed n r = record {
  bytes = [];
  few = omega arith;
  step = record {
    to_come = consumes_none r.to_come;
    taken = omega arith;
    received = refl;
    agrees = agrees_none r.received;
    steady = record { honest = refl; origin = refl; faults = omega arith; taken = omega arith };
  };
}

pub returns-in-Err-clause-err : goal.returns-in-Err-clause-err
returns-in-Err-clause-err c = rw c.in-Err.ensures.err.2 (none_passed c.args.n c.args.self.now)
