-- The numbers of the priorities.
use Rattle.std.specs.Prelude.{ℕ, Bool, nat_lt, IsTrue}
use Rattle.std.proofs.Common.{refl}
use Rattle.own_types.specs.declared.priority.Priority.{Priority}
use Rattle.own_types.specs.declared.priority.Priority.TheVariants.{Low, Normal, High}

abbrev pub number_of : Priority → ℕ
number_of Low = 0
number_of Normal = 1
number_of High = 2

abbrev pub is_priority : ℕ → Bool
is_priority n = nat_lt n 3

pub has_number : (p : Priority) → IsTrue (is_priority (number_of p))
has_number Low = refl
has_number Normal = refl
has_number High = refl
