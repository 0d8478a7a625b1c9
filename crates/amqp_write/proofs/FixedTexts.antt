-- Items whose text is the code and data of a fixed width.
use Rattle.std.proofs.Common.{◌≡◌, ℕ, zero, suc, ◌+◌, List, [], ◌∷◌, ◌++◌, length, get_or, drop, drop-cons, append-nil, sym, refl, arith, Some}
use Rattle.std.proofs.lemmas.List.{drop_all}
use Rattle.amqp_base.specs.declared.format_code.EncodingCodes.{EncodingCodes}
use Rattle.amqp_base.specs.Codes.{row}
use Rattle.amqp_base.specs.Wire.{under}
use Rattle.amqp_write.specs.State.{Mark, unmarked, first, other}
use Rattle.amqp_write.specs.Law.{placed}
use Rattle.amqp_write.specs.Appending.{fixed_at}

pub fixed_placed : (m : Mark) (e : EncodingCodes) (d : List ℕ) → (m ≡ unmarked → ⊥) → fixed_at m e d ≡ placed m (Some (under e)) (Some (d ++ []))
unfolding fixed_at
fixed_placed unmarked e d h = absurd (h refl)
fixed_placed first e d h = rw append-nil refl
fixed_placed (other c) e d h = rw append-nil refl

pub fixed_unmarked : (e : EncodingCodes) (d : List ℕ) → fixed_at unmarked e d ≡ Some ((row e).byte ∷ d)
unfolding fixed_at
fixed_unmarked e d = refl

-- the bytes from place k, by index
abbrev listed : ℕ → ℕ → List ℕ → List ℕ
listed zero k b = []
listed (suc n) k b = get_or b k 0 ∷ listed n (suc k) b

listed_from : (n k : ℕ) (b : List ℕ) → k + n ≡ length b → listed n k b ≡ drop k b
listed_from zero k b h = sym (drop_all k b (omega arith))
listed_from (suc n) k b h = rw (listed_from n (suc k) b (omega arith)) (sym (drop-cons b k 0 (omega arith)))

pub sixteen_listed : (b : List ℕ) → length b ≡ 16 → listed 16 0 b ≡ b
sixteen_listed b h = listed_from 16 0 b (omega arith)
