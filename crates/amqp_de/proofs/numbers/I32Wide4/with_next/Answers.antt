-- The number's own constructor, its data, and the byte behind them.
use Rattle.std.proofs.Common.{inl, inr, [], ◌∷◌, ◌∙◌, refl, rules, arith, slice_index_or, to_z, of_z, w8, w32}
use Rattle.std.proofs.lemmas.Int.{to_z-of_z}
use Rattle.std.proofs.lemmas.Bool.Decides.{eqb_tells}
use mir.Val.{SFits}
use Rattle.amqp_base.specs.Codes.{row, code_of}
use Rattle.amqp_base.specs.SameKind.{same_kind, place}
use Rattle.amqp_base.specs.Item.{int}
use Rattle.amqp_base.specs.Value.{payload, read}
use Rattle.amqp_base.specs.declared.format_code.EncodingCodes.TheVariants.{Int, SmallInt}
use Rattle.amqp_data.proofs.ByteNumbers.{be_widened}
use Rattle.amqp_de.proofs.ManyRead.{behind_code, one_byte, other_byte}
use Rattle.amqp_de.proofs.numbers.I32Wide4.with_next.Goals.{then-is_wide, else-is_wide}
use Rattle.amqp_de.proofs.numbers.I32Wide4.with_next.Goals as goal

pub returns-clause-number : goal.returns-clause-number
unfolding row code_of payload read same_kind place
returns-clause-number c = elim c.if-is_wide.branch [
  | then-is_wide w ↦
      let is = w.if-is_wide.true in
      let v = c.of_data-wide.result in
      let f : SFits w32 v = search rules in
      rw (c.behind_form-len.ensures.len, w.number-is, to_z-of_z w32 v f, is) (λ _. behind_code _ Int 4 113 c.args.bytes.now v refl (c.requires.code ∙ is) (omega (arith, c.requires.room)) c.of_data-wide.ensures)
  | else-is_wide w ↦ elim (eqb_tells c.args.code 84) [
    | inl small ↦
        let z = c.from_be_bytes-small.result in
        let f : SFits w8 z = search rules in
        let n = slice_index_or c.args.bytes.now 1 0 in
        let v = to_z w32 (of_z w32 (to_z w8 (of_z w8 z))) in
        rw (c.behind_form-len.ensures.len, w.number-is, small.1) (λ _. one_byte _ SmallInt 84 (int v) v c.args.bytes.now refl (c.requires.code ∙ small.1) (omega (arith, c.requires.room)) refl
        (rw (be_widened w32 (n ∷ []) z refl c.from_be_bytes-small.ensures f) refl) refl refl)
    | inr other ↦ rw (c.behind_form-len.ensures.len, other.0, other_byte c.args.code 113 w.if-is_wide.false) (λ h. absurd (omega (arith, h)))
  ]
]
