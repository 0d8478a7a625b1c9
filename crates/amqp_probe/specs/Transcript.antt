-- What a run prints.
use Rattle.std.specs.Prelude.{◌≡◌, ℕ, zero, suc, ◌+◌, ◌<◌, Bool, true, false, List, [], ◌∷◌, ◌++◌, length, take, codes, decimal, Option, None, Some, ⊤, ◌≤◌}
use Rattle.std.specs.Io.KnownBytes.{Appends}
use Rattle.amqp_probe.specs.Answer.{Answers, IsBad}
use Rattle.amqp_probe.specs.Lines.{first_line, behind, Weighs}
use Rattle.amqp_probe.specs.Why.{Explains}
use Rattle.amqp_probe.specs.declared.why.BadLine.{BadLine}
use Rattle.amqp_probe.specs.declared.why.Why.{Why}

-- what is printed for a bad line
abbrev pub bad_line : ℕ → List ℕ
bad_line n = codes "bad line " ++ (decimal n ++ 10 ∷ [])

-- What is printed for an input whose first line has the number n, and whether no line is bad. Each text ends in one
-- line feed; behind a bad line nothing is answered.
pub data Transcript : ℕ → List ℕ → List ℕ → Bool → Type 0 where
  ended : (n : ℕ) → Transcript n [] [] true
  answered : (n : ℕ) (input text texts : List ℕ) (good : Bool) → 0 < length input → Answers (first_line input) text
      → Transcript (suc n) (behind input) texts good → Transcript n input (text ++ 10 ∷ texts) good
  bad : (n : ℕ) (input : List ℕ) → 0 < length input → IsBad (first_line input)
      → Transcript n input (bad_line n) false

-- the whole transcript of an input went to the end of what a writer holds
pub record Prints (input : List ℕ) (good : Bool) (old new : Option (List ℕ)) : Type 0 where
  pub text : List ℕ
  pub transcript : Transcript 1 input text good
  pub appended : Appends old new text

-- the input behind its first n lines
abbrev pub behind_lines : ℕ → List ℕ → List ℕ
behind_lines zero input = input
behind_lines (suc n) input = behind (behind_lines n input)

-- the line of that number is the bad one, cut one byte above the limit
pub record IsBadLine (input : List ℕ) (bad_line : BadLine) : Type 0 where
  pub before : ℕ
  pub number : bad_line.number ≡ before + 1
  pub why : Explains bad_line.why (take 65537 (first_line (behind_lines before input)))

-- the transcript of an input went to the end of what a writer holds, and which line was bad
abbrev pub Transcribes : List ℕ → Option BadLine → Option (List ℕ) → Option (List ℕ) → Type 0
Transcribes input None old new = Prints input true old new
Transcribes input (Some bad_line) old new = Prints input false old new × IsBadLine input bad_line

-- a good line's answer, or that the line of this number is bad, stands behind the texts
abbrev pub Puts : List ℕ → ℕ → Option Why → List ℕ → List ℕ → Type 0
Puts line number None old new = (text : List ℕ) × Answers line text × (new ≡ old ++ (text ++ 10 ∷ []))
Puts line number (Some why) old new = IsBad line × Explains why line × (new ≡ old ++ bad_line number)

-- The first n lines were answered: what is printed for the rest goes behind what was printed.
pub record Answered (input : List ℕ) (left : Option (List ℕ)) (n : ℕ) (old new : Option (List ℕ)) : Type 0 where
  pub rest : List ℕ
  pub known : left ≡ Some rest
  pub place : rest ≡ behind_lines n input
  pub printed : List ℕ
  pub appended : Appends old new printed
  pub goes_on : (text : List ℕ) (good : Bool) → Transcript (suc n) rest text good → Transcript 1 input (printed ++ text) good

abbrev pub AnsweredIfKnown : Option (List ℕ) → Option (List ℕ) → ℕ → Option (List ℕ) → Option (List ℕ) → Type 0
AnsweredIfKnown None left n old new = ⊤
AnsweredIfKnown (Some input) left n old new = Answered input left n old new

-- the state of a run between two lines, where the texts to be written stand behind what the output holds
pub record Running (input left old new : Option (List ℕ)) (n taken : ℕ) : Type 0 where
  pub answered : AnsweredIfKnown input left n old new
  pub weighs : Weighs input 0 left taken
  pub numbered : n ≤ taken

-- the state of a writer that takes a text
pub record Writing (bytes rest : List ℕ) (old new : Option (List ℕ)) (faults faults_now : ℕ) : Type 0 where
  pub front : List ℕ
  pub split : bytes ≡ front ++ rest
  pub appended : Appends old new front
  pub same : faults_now ≡ faults
