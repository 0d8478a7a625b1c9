use Rattle.std.proofs.Common.{rules, ◌≡◌, ◌∙◌, ◌++◌, ◌∷◌, [], List, ℕ, length, take, slice_set, arith, sym, refl}
use Rattle.amqp_base.proofs.fault.RefSliceU8Source.read_some.Goals as goal

one : (block rest : List ℕ) (byte : ℕ) → length block ≡ 1 → take 1 (slice_set block 0 byte) ++ rest ≡ byte ∷ rest
one [] rest byte len = absurd (omega arith)
one (x ∷ xs) rest byte len = refl

pub returns-in-Some-clause-bytes : goal.returns-in-Some-clause-bytes
returns-in-Some-clause-bytes c =
    let whole : c.args.self.now.now ≡ c.in-Some.first.now ∷ c.in-Some.rest.now = search rules in
    (whole ∙ sym (one c.args.buf.now c.in-Some.rest.now c.in-Some.first.now c.if-buf-eq1.true), λ none. absurd (omega arith))
