-- Bytes that go from a block to a line.
use Rattle.std.proofs.Common.{◌≡◌, ℕ, zero, suc, ◌+◌, ◌-◌, ◌<◌, ◌≤◌, List, [], ◌∷◌, ◌++◌, length, take, drop, sym, ap, ◌∙◌, arith, true, false, add-one}
use Rattle.std.proofs.lemmas.List.{take-take, drop-take, drop-drop, take-append-drop, length-take, length-append}
use Rattle.amqp_probe.specs.Pieces.{Without, Moved}
use Rattle.amqp_probe.proofs.Split.{Splits}

-- what is left behind the first k of the bytes from start to end
left : (b : List ℕ) (start end k : ℕ) → start + k ≤ end → drop k (take (end - start) (drop start b)) ≡ take (end - (start + k)) (drop (start + k) b)
left b start end k h =
    let whole : end - start ≡ k + (end - (start + k)) = omega arith in
    rw whole (drop-take k (end - (start + k)) (drop start b) ∙ ap (take (end - (start + k))) (drop-drop k start b))

-- the first place of a front is that of the whole
longer : (c b n : ℕ) (xs : List ℕ) → Splits c (take b xs) n → Splits c xs n
longer c zero n xs s = let w = s.within in absurd (omega arith)
longer c (suc b) n [] s = let w = s.within in absurd (omega arith)
longer c (suc b) zero (x ∷ xs) s =
    let e : x ∷ take b xs ≡ c ∷ take b xs = s.parts in
    let h : x ≡ c = cc e in
    record { parts = ap (λ (y : ℕ). y ∷ xs) h; before = tt; within = omega arith }
longer c (suc b) (suc n) (x ∷ xs) s =
    let e : x ∷ take b xs ≡ x ∷ (take n (take b xs) ++ c ∷ drop (suc n) (take b xs)) = s.parts in
    let h : take b xs ≡ take n (take b xs) ++ c ∷ drop (suc n) (take b xs) = cc e in
    let inside : n < length (take b xs) = let w = s.within in omega arith in
    let ih = longer c b n xs (record { parts = h; before = s.before.1; within = inside }) in
    record { parts = ap (λ (ys : List ℕ). x ∷ ys) ih.parts; before = (s.before.0, ih.before); within = let w = ih.within in omega arith }

-- up to a line feed
pub moved_line : (b line grown : List ℕ) (start end stop n : ℕ) → start ≤ stop → stop ≤ end → end ≤ length b
    → Splits 10 (take (stop - start) (drop start b)) n → length line + (stop - start) ≤ 65537
    → grown ≡ line ++ take n (take (stop - start) (drop start b))
    → Moved (take (end - start) (drop start b)) (take (end - (start + (n + 1))) (drop (start + (n + 1)) b)) line grown true
moved_line b line grown start end stop n low mid high s room e =
    let d : List ℕ = drop start b in
    let inside : n < length (take (stop - start) d) = s.within in
    let len = length-take (stop - start) d in
    let short : n < stop - start = omega arith in
    let nested : take (stop - start) (take (end - start) d) ≡ take (stop - start) d = take-take (stop - start) (end - start) d (omega arith) in
    let piece : take n (take (stop - start) d) ≡ take n d = take-take n (stop - start) d (omega arith) in
    let piece2 : take n (take (end - start) d) ≡ take n d = take-take n (end - start) d (omega arith) in
    let whole = longer 10 (stop - start) n (take (end - start) d) (rw nested s) in
    let behind : drop (suc n) (take (end - start) d) ≡ take (end - (start + (n + 1))) (drop (start + (n + 1)) b) =
    rw (← add-one n) (left b start end (n + 1) (omega arith)) in
    let pl = length-take n (take (stop - start) d) in
    record {
      piece = take n (take (stop - start) d);
      clean = s.before;
      grown = e;
      rest = whole.parts ∙ ap (λ (p : List ℕ). p ++ 10 ∷ drop (suc n) (take (end - start) d)) (piece2 ∙ sym piece)
          ∙ ap (λ (q : List ℕ). take n (take (stop - start) d) ++ 10 ∷ q) behind;
      short = rw e (omega (arith, length-append line (take n (take (stop - start) d)), pl));
    }

-- all that is looked at
pub moved_all : (b line grown : List ℕ) (start end stop : ℕ) → start ≤ stop → stop ≤ end → end ≤ length b
    → Without 10 (take (stop - start) (drop start b)) → length line + (stop - start) ≤ 65537
    → grown ≡ line ++ take (stop - start) (drop start b)
    → Moved (take (end - start) (drop start b)) (take (end - stop) (drop stop b)) line grown false
moved_all b line grown start end stop low mid high clean room e =
    let d : List ℕ = drop start b in
    let k : ℕ = stop - start in
    let nested : take (stop - start) (take (end - start) d) ≡ take (stop - start) d = take-take (stop - start) (end - start) d (omega arith) in
    let at : start + (stop - start) ≡ stop = omega arith in
    let rest : drop (stop - start) (take (end - start) d) ≡ take (end - stop) (drop stop b) =
    rw at at (left b start end (stop - start) (omega arith)) in
    let pl = length-take (stop - start) d in
    record {
      piece = take (stop - start) d;
      clean = clean;
      grown = e;
      rest = sym (take-append-drop (stop - start) (take (end - start) d)) ∙ ap (λ (p : List ℕ). p ++ drop (stop - start) (take (end - start) d)) nested
          ∙ ap (λ (q : List ℕ). take (stop - start) d ++ q) rest;
      short = rw e (omega (arith, length-append line (take (stop - start) d), pl));
    }
