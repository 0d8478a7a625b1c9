use Rattle.std.proofs.Common.{◌≡◌, ℕ, ◌*◌, ◌≤◌, false, List, Option, Some, None, arith, ap, subst, Bool}
use Rattle.amqp_read.specs.Reading.{Reading}
use Rattle.amqp_read.specs.Steps.{HasBytes, HasJust, AtHand}
use Rattle.amqp_de.specs.Decoding.{Decoding}
use Rattle.amqp_data.specs.Places.{least_width}
use Rattle.amqp_de.proofs.deserializer.Deserializer.room.Goals as goal

-- so many bytes are at hand
there : (k : Option (List ℕ)) (n m : ℕ) → HasJust n k → m ≤ n → HasBytes m k
there None n m h l = tt
there (Some s) n m h l = omega (arith, h, l)

all_of_slice : (buffers : Bool) (n m : ℕ) (r : Reading) → buffers ≡ false → AtHand buffers n r → m ≤ n → HasBytes m r.to_come
all_of_slice buffers n m r b h l = let a : AtHand false n r = subst (λ (x : Bool). AtHand x n r) b h in there r.to_come n m a l

pub returns-clause-there : goal.returns-clause-there
returns-clause-there g c = λ b.
    let l : c.min.result * least_width c.args.self.now.inherited ≤ c.at_hand.result = grind arith in
    all_of_slice g.R.Read.buffers c.at_hand.result (c.min.result * least_width c.args.self.now.inherited) c.args.self.now.reading b (subst (λ (r : Reading). AtHand g.R.Read.buffers c.at_hand.result r) (ap (λ (d : Decoding). d.reading) c.self.view_is) c.at_hand.ensures) l
