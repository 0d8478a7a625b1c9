-- Where an item is cut short, no item stands.
use Rattle.std.proofs.Common.{◌≡◌, ℕ, ◌++◌, length, take, drop, List, sym, ap, ◌∙◌, arith, append_assoc}
use Rattle.std.proofs.lemmas.List.{length-take, take-append-drop}
use Rattle.amqp_base.specs.Wire.{Rules}
use Rattle.amqp_base.specs.Laws.{CutShort}
use Rattle.amqp_base.proofs.OneFront.{same_wire}

-- cut twice, with what was cut off
three : (k m : ℕ) (s : List ℕ) → take k (take m s) ++ (drop k (take m s) ++ drop m s) ≡ s
three k m s =
    sym (append_assoc (take k (take m s)) (drop k (take m s)) (drop m s)) ∙ ap (λ (t : List ℕ). t ++ drop m s) (take-append-drop k (take m s)) ∙ take-append-drop m s

pub cut_short : (r : Rules) → CutShort r
cut_short r c s i j n m k f l g =
    let t = same_wire f.spelled g.spelled (drop n s) (drop k (take m s) ++ drop m s) (take-append-drop n s ∙ sym (three k m s)) in
    let e : length (take n s) ≡ length (take k (take m s)) = ap (λ (u : List ℕ). length u) t.0 in
    absurd (omega (arith, f.within, g.within, e, l, length-take n s, length-take m s, length-take k (take m s)))
