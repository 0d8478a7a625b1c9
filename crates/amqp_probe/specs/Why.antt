-- Why a line is bad.
use Rattle.std.specs.Prelude.{◌≡◌, ◌≢◌, ℕ, ◌+◌, ◌-◌, ◌%◌, ◌<◌, ◌==◌, List, length, take, position, Option, None, Some}
use Rattle.amqp_probe.specs.Answer.{type_name}
use Rattle.amqp_probe.specs.declared.kind.Kind.{Kind}
use Rattle.amqp_probe.specs.declared.why.Why.{Why}
use Rattle.amqp_probe.specs.declared.why.Why.TheVariants.{TooLong, NoSpace, UnknownType, OddDigits, NoDigit}

-- the place of the first space (32)
abbrev space : List ℕ → Option ℕ
space line = position (λ b. b == 32) line

-- how many bytes stand behind the place n
abbrev behind : List ℕ → ℕ → ℕ
behind line n = length line - (n + 1)

-- a type's name stands before the place n
abbrev NamesType : List ℕ → ℕ → Type 0
NamesType line n = (kind : Kind) × (take n line ≡ type_name kind)

-- The reason is true of the line. A line may break several rules: which of them is told isn't said here.
abbrev pub Explains : Why → List ℕ → Type 0
Explains TooLong line = 65536 < length line
Explains NoSpace line = space line ≡ None
Explains UnknownType line = (n : ℕ) × (space line ≡ Some n) × ((kind : Kind) → take n line ≢ type_name kind)
Explains OddDigits line = (n : ℕ) × (space line ≡ Some n) × NamesType line n × (behind line n % 2 ≡ 1)
Explains NoDigit line = (n : ℕ) × (space line ≡ Some n) × NamesType line n × (behind line n % 2 ≡ 0)
