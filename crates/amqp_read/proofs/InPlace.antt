-- Bytes that stand in a part of an array.
use Rattle.std.proofs.Common.{◌≡◌, ◌≤◌, ◌+◌, ◌-◌, ◌++◌, ◌∙◌, ap, sym, take, drop, length, arith, List, ℕ}
use Rattle.std.proofs.lemmas.List.{drop-take, length-take-le, take-append-le}
use Rattle.amqp_read.proofs.Streams.{cut_behind}

-- the part from s to e, as what is left behind the first s of the first e
part : (s e : ℕ) (xs : List ℕ) → s ≤ e → take (e - s) (drop s xs) ≡ drop s (take e xs)
part s e xs front =
    let all : s + (e - s) ≡ e = omega arith in
    sym (drop-take s (e - s) xs) ∙ ap (λ (k : ℕ). drop s (take k xs)) all

-- where the first e bytes of an array stay, so does the part, and behind it stand those behind them
pub part_longer : (s e got : ℕ) (xs w rest : List ℕ) → s ≤ e → e ≤ length xs → e + got ≤ length w → take e w ≡ take e xs → take (e + got - s) (drop s (w ++ rest)) ≡ take (e - s) (drop s xs) ++ take got (drop e w)
part_longer s e got xs w rest front room within stays =
    part s (e + got) (w ++ rest) (omega arith)
    ∙ ap (λ (z : List ℕ). drop s z) (take-append-le (e + got) w rest within)
    ∙ cut_behind (take e xs) w s e got stays (sym (length-take-le e xs room)) front
    ∙ ap (λ (z : List ℕ). z ++ take got (drop e w)) (sym (part s e xs front))

pub part_kept : (s e : ℕ) (xs w rest : List ℕ) → s ≤ e → e ≤ length w → take e w ≡ take e xs → take (e - s) (drop s (w ++ rest)) ≡ take (e - s) (drop s xs)
part_kept s e xs w rest front within stays =
    part s e (w ++ rest) front
    ∙ ap (λ (z : List ℕ). drop s z) (take-append-le e w rest within ∙ stays)
    ∙ sym (part s e xs front)
