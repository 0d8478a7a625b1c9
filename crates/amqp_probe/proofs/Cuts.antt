-- A line that is cut out of the bytes to come.
use Rattle.std.proofs.Common.{◌≡◌, ℕ, ◌<◌, ◌≤◌, ◌==◌, List, [], ◌∷◌, ◌++◌, length, Option, Some, None, refl, sym, ap, ◌∙◌, arith, true, false, Bool, append_assoc, append-nil, length-append}
use Rattle.std.proofs.lemmas.List.{take_all, take_at}
use Rattle.std.specs.Prelude.{IfSome}
use Rattle.std.specs.Io.KnownBytes.{Consumes, Keeps, IsAtEnd, prepend_known}
use Rattle.amqp_probe.specs.Lines.{first_line, behind, IsNext}
use Rattle.amqp_probe.specs.Pieces.{Without, Moved}

without_append : (c : ℕ) (xs ys : List ℕ) → Without c xs → Without c ys → Without c (xs ++ ys)
without_append c [] ys h k = k
without_append c (x ∷ xs) ys h k = (h.0, without_append c xs ys h.1 k)

test_fails : (x c : ℕ) → (x ≡ c → ⊥) → (x == c) ≡ false
test_fails x c h = grind arith

first_clean : (xs ys : List ℕ) → Without 10 xs → first_line (xs ++ ys) ≡ xs ++ first_line ys
first_clean [] ys h = refl
first_clean (x ∷ xs) ys h = rw (test_fails x 10 h.0) (ap (λ (l : List ℕ). x ∷ l) (first_clean xs ys h.1))

behind_clean : (xs ys : List ℕ) → Without 10 xs → behind (xs ++ ys) ≡ behind ys
behind_clean [] ys h = refl
behind_clean (x ∷ xs) ys h = rw (test_fails x 10 h.0) (behind_clean xs ys h.1)

pub kept : (x0 x y : Option (List ℕ)) (line : List ℕ) → Keeps x y → Consumes x0 x line → Consumes x0 y line
kept None x y line k h = tt
kept (Some xs) None y line k h = absurd h
kept (Some xs) (Some ys) None line k h = absurd k
kept (Some xs) (Some ys) (Some zs) line k h = h ∙ ap (λ (l : List ℕ). line ++ l) (sym k)

consumed : (x0 : Option (List ℕ)) (old new rest line piece : List ℕ) → Consumes x0 (Some (old ++ rest)) line → old ≡ piece ++ new → Consumes x0 (Some (new ++ rest)) (line ++ piece)
consumed None old new rest line piece h e = tt
consumed (Some xs) old new rest line piece h e = rw (h, e) (simp append_assoc)

-- the line goes on
pub consumes_piece : (x0 rem : Option (List ℕ)) (old new line longer : List ℕ) → Consumes x0 (prepend_known old rem) line → Moved old new line longer false → Consumes x0 (prepend_known new rem) longer
consumes_piece None rem old new line longer h m = tt
consumes_piece (Some xs) None old new line longer h m = absurd h
consumes_piece (Some xs) (Some rest) old new line longer h m = rw m.grown (consumed (Some xs) old new rest line m.piece h m.rest)

pub clean_piece : (old new line longer : List ℕ) (ended : Bool) → Without 10 line → Moved old new line longer ended → Without 10 longer
clean_piece old new line longer ended h m = rw m.grown (without_append 10 line m.piece h m.clean)

-- a line feed was met
pub next_ended : (x0 rem : Option (List ℕ)) (old new line longer : List ℕ) → Consumes x0 (prepend_known old rem) line → Without 10 line
    → Moved old new line longer true → IfSome x0 (λ input. IsNext input longer (prepend_known new rem))
next_ended None rem old new line longer h w m = tt
next_ended (Some xs) None old new line longer h w m = absurd h
next_ended (Some xs) (Some rest) old new line longer h w m =
    let c : Without 10 longer = clean_piece old new line longer true w m in
    let e : xs ≡ longer ++ 10 ∷ (new ++ rest) = rw (h, m.rest, m.grown) (simp append_assoc) in
    let f : first_line xs ≡ longer = rw e (first_clean longer (10 ∷ (new ++ rest)) c ∙ append-nil longer) in
    let b : behind xs ≡ new ++ rest = rw e (behind_clean longer (10 ∷ (new ++ rest)) c) in
    let size : 0 < length xs = rw e (omega (arith, length-append longer (10 ∷ (new ++ rest)))) in
    (size, rw f (sym (take_all 65537 longer m.short)), λ s. rw b refl)

-- the line is above the limit
pub next_long : (x0 rem : Option (List ℕ)) (old new line longer : List ℕ) → Consumes x0 (prepend_known old rem) line → Without 10 line
    → Moved old new line longer false → 65536 < length longer → IfSome x0 (λ input. IsNext input longer (prepend_known new rem))
next_long None rem old new line longer h w m long = tt
next_long (Some xs) None old new line longer h w m long = absurd h
next_long (Some xs) (Some rest) old new line longer h w m long =
    let c : Without 10 longer = clean_piece old new line longer false w m in
    let e : xs ≡ longer ++ (new ++ rest) = rw (h, m.rest, m.grown) (simp append_assoc) in
    let f : first_line xs ≡ longer ++ first_line (new ++ rest) = rw e (first_clean longer (new ++ rest) c) in
    let most = m.short in
    let n : length longer ≡ 65537 = omega arith in
    let size : 0 < length xs = rw e (omega (arith, length-append longer (new ++ rest))) in
    (size, rw f (sym (take_at longer (first_line (new ++ rest)) 65537 n)), λ s. absurd (omega arith))

-- the last line has no line feed
pub next_last : (x0 left : Option (List ℕ)) (line : List ℕ) → Consumes x0 left line → IsAtEnd left → Without 10 line → length line ≤ 65536
    → 0 < length line → IfSome x0 (λ input. IsNext input line left)
next_last None left line h a w short some = tt
next_last (Some xs) None line h a w short some = absurd h
next_last (Some xs) (Some ys) line h a w short some =
    let e : xs ≡ line ++ [] = h ∙ ap (λ (l : List ℕ). line ++ l) a in
    let f : first_line xs ≡ line = rw e (first_clean line [] w ∙ append-nil line) in
    let b : behind xs ≡ [] = rw e (behind_clean line [] w) in
    let size : 0 < length xs = rw (e, append-nil line) some in
    (size, rw f (sym (take_all 65537 line (omega arith))), λ s. rw (a, b) refl)

pub next_none : (x0 left : Option (List ℕ)) (line : List ℕ) → Consumes x0 left line → IsAtEnd left → line ≡ [] → IfSome x0 (λ input. input ≡ [])
next_none None left line h a e = tt
next_none (Some xs) None line h a e = absurd h
next_none (Some xs) (Some ys) line h a e = rw (h, a, e) refl
