-- Elements of a list that were read at once, where bytes of it had been received ahead.
use Rattle.std.proofs.Common.{◌≡◌, ◌++◌, ◌≤◌, Bool, List, [], true, false, Ok, sym, subst, ◌∙◌, arith}
use Rattle.std.proofs.lemmas.List.{append-nil}
use Rattle.amqp_base.specs.Meaning.{Meaning}
use Rattle.amqp_de.specs.Access.{Listing}
use Rattle.amqp_de.specs.Ahead.{Ahead}
use Rattle.amqp_de.specs.Many.{AreRead, ReadsMany}
use Rattle.amqp_de.proofs.ManyRead.{sofar_many, reach_many}
use Rattle.amqp_de.proofs.NamedElements.{Reach}
use Rattle.amqp_de.proofs.ReceivedAhead.{ahead_more, ahead_many, ahead_left, many_left}
use Rattle.amqp_de.proofs.Sequence.{Sofar}

-- Where the access stands behind them, as if nothing had been received ahead, and what was read since it was opened; no more
-- parts are left than before.
pub record ReadSome {T : Type 0} (m : Meaning T) (from old new : Listing) (items : List T) : Type 0 where
  pub now : Listing
  pub ahead : Ahead m.takes now new
  pub sofar : Sofar m.takes m.means from now items
  pub reaches : Reach m.takes m.refuses from now
  pub left : new.left ≤ old.left

-- the elements, if there were such
elements : {T : Type 0} (m : Meaning T) (old new : Listing) (before after : List T) (some : Bool) → ReadsMany m old before (Ok some) new after →
    (vs : List T) × AreRead m old vs new × (after ≡ before ++ vs)
elements m old new before after true h = (h.0, h.1, h.2)
elements m old new before after false h = ([], h.0, h.1 ∙ sym (append-nil before))

pub read_some : {T : Type 0} (m : Meaning T) (from now old mid new : Listing) (before after : List T) (some : Bool) → Ahead m.takes now old → Ahead m.takes old mid → Sofar m.takes m.means from now before
    → Reach m.takes m.refuses from now → ReadsMany m mid before (Ok some) new after → ReadSome m from old new after
read_some m from now old mid new before after some a b s reaches h =
    let r = elements m mid new before after some h in
    let k = ahead_many m now mid new r.0 (ahead_more now old mid a b) r.1 in
    let same = ahead_left old mid b in
    let fewer = many_left m mid new r.0 r.1 in
    record {
      now = k.0;
      ahead = k.2;
      sofar = subst (λ (xs : List _). Sofar m.takes m.means from k.0 xs) (sym r.2) (sofar_many m from now k.0 before r.0 s k.1);
      reaches = reach_many m from now k.0 before r.0 s reaches k.1;
      left = omega (arith, same, fewer);
    }
