-- A front that was found is one of what is wider, too.
use Rattle.std.proofs.Common.{Bool, IsTrue}
use Rattle.amqp_base.specs.Item.{Item}
use Rattle.amqp_de.specs.Decoding.{Decoding}
use Rattle.amqp_de.specs.Law.{Front, Found}

pub found_of : (takes some : Item → Bool) (means same : Item → Type 0) (old new : Decoding) → ((o : Front takes means old new) → IsTrue (some o.item) × same o.item) → Found takes means old new → Found some same old new
found_of takes some means same old new h f = record {
  front = λ a. let o = f.front a in let p = h o in record {
    item = o.item;
    text = o.text;
    spelled = o.spelled;
    taken = p.0;
    value = p.1;
    step = o.step;
    not_ended = o.not_ended;
    inherited = o.inherited;
    described = o.described;
    begun = o.begun;
  };
  spent = f.spent;
  steady = f.steady;
}

-- the same, whatever the bytes were
pub found_as : (takes some : Item → Bool) (means same : Item → Type 0) (old new : Decoding) → ((i : Item) → IsTrue (takes i) → means i → IsTrue (some i) × same i) → Found takes means old new → Found some same old new
found_as takes some means same old new h = found_of takes some means same old new (λ o. h o.item o.taken o.value)
