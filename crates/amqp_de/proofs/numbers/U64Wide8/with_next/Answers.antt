-- The number's own constructor, its data, and the byte behind them.
use Rattle.std.proofs.Common.{◌≡◌, ◌*◌, ◌∙◌, inl, inr, refl, arith, slice_index_or}
use Rattle.std.proofs.lemmas.Bool.Decides.{eqb_tells}
use Rattle.amqp_base.specs.Codes.{row, code_of}
use Rattle.amqp_base.specs.SameKind.{same_kind, place}
use Rattle.amqp_base.specs.Item.{ulong}
use Rattle.amqp_base.specs.Value.{payload, read}
use Rattle.amqp_base.specs.declared.format_code.EncodingCodes.TheVariants.{Ulong, SmallUlong, Ulong0}
use Rattle.amqp_data.proofs.ByteNumbers.{number_1}
use Rattle.amqp_de.proofs.ManyRead.{behind_code, one_byte, no_byte, other_byte}
use Rattle.amqp_de.proofs.numbers.U64Wide8.with_next.Goals.{then-is_wide, else-is_wide}
use Rattle.amqp_de.proofs.numbers.U64Wide8.with_next.Goals as goal

pub returns-clause-number : goal.returns-clause-number
unfolding row code_of payload read same_kind place
returns-clause-number c =
    let n = slice_index_or c.args.bytes.now 1 0 in
    elim c.if-is_wide.branch [
      | then-is_wide w ↦
          let is = w.if-is_wide.true in
          rw (c.behind_form-len.ensures.len, w.number-is, is) (λ _. behind_code _ Ulong 8 128 c.args.bytes.now c.of_data-wide.result refl (c.requires.code ∙ is) (omega (arith, c.requires.room)) c.of_data-wide.ensures)
      | else-is_wide w ↦ elim (eqb_tells c.args.code 83) [
        | inl small ↦
            let same : n * 1 ≡ n = omega arith in
            rw (c.behind_form-len.ensures.len, w.number-is, small.1, same) (λ _. one_byte _ SmallUlong 83 (ulong n) n c.args.bytes.now refl (c.requires.code ∙ small.1) (omega (arith, c.requires.room)) refl (rw (number_1 n) refl) refl refl)
        | inr other ↦ elim (eqb_tells c.args.code 68) [
          | inl zero ↦
              let same : n * 0 ≡ 0 = omega arith in
              rw (c.behind_form-len.ensures.len, w.number-is, zero.1, same) (λ _. no_byte _ Ulong0 68 (ulong 0) 0 c.args.bytes.now refl (c.requires.code ∙ zero.1) (omega (arith, c.requires.room)) refl refl refl refl)
          | inr none ↦ rw (c.behind_form-len.ensures.len, other.0, none.0, other_byte c.args.code 128 w.if-is_wide.false) (λ h. absurd (omega (arith, h)))
        ]
      ]
    ]
