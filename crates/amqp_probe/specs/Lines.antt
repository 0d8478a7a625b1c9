-- An input's lines, and what has been taken of it.
use Rattle.std.specs.Prelude.{◌≡◌, ℕ, ◌+◌, ◌-◌, ◌^◌, ◌≤◌, ◌<◌, ◌==◌, if◌then◌else◌, List, [], ◌∷◌, length, take, drop, Option, None, Some, ⊤, IfSome, MatchOption}
use Rattle.std.specs.Io.KnownBytes.{prepend_known}
use Rattle.std.specs.declared.vec.Vec.{Vec}
use Rattle.std.specs.declared.alloc.Global.{Global}
use Rattle.amqp_probe.specs.declared.lines.Lines.{Lines}

-- the bytes before the first line feed (10), or all where there is none
abbrev pub first_line : List ℕ → List ℕ
first_line [] = []
first_line (b ∷ bs) = if b == 10 then [] else b ∷ first_line bs

-- the bytes behind the first line feed, or none where there is none
abbrev pub behind : List ℕ → List ℕ
behind [] = []
behind (b ∷ bs) = if b == 10 then bs else behind bs

-- the bytes that were read and not yet taken
abbrev pub unread : Lines → List ℕ
unread lines = take (lines.end - lines.start) (drop lines.start lines.block.items)

-- how many bytes were taken
abbrev pub taken : Lines → ℕ
taken lines = lines.read - (lines.end - lines.start)

-- the bytes still to come, where the source tells them
abbrev pub to_come : Lines → Option (List ℕ) → Option (List ℕ)
to_come lines left = prepend_known (unread lines) left

-- The next line of the bytes to come. Of one above the limit one byte more than the limit is given, and the rest
-- stays; behind another one its line feed goes too.
abbrev pub IsNext : List ℕ → List ℕ → Option (List ℕ) → Type 0
IsNext input line left = (0 < length input) × (line ≡ take 65537 (first_line input)) × (length line ≤ 65536 → left ≡ Some (behind input))

abbrev pub IsNextIfAny : List ℕ → Option (Vec ℕ Global) → Option (List ℕ) → Type 0
IsNextIfAny input line left = MatchOption line (input ≡ []) (λ line. IsNext input line.items left)

-- what was taken is no longer to come
abbrev pub Weighs : Option (List ℕ) → ℕ → Option (List ℕ) → ℕ → Type 0
Weighs None m new n = ⊤
Weighs (Some xs) m None n = ⊥
Weighs (Some xs) m (Some ys) n = m + length xs ≡ n + length ys

-- more bytes than can be counted
abbrev pub TooMany : Option (List ℕ) → ℕ → Type 0
TooMany input taken = IfSome input (λ input. 2 ^ 64 ≤ taken + length input)
