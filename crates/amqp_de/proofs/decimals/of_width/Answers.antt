use Rattle.std.proofs.Common.{◌≡◌, ℕ, arith, refl, subst, ◌∙◌, inl, inr, ◌⊎◌}
use Rattle.amqp_base.specs.Codes.{row}
use Rattle.amqp_de.specs.Decimals.{is_decimal}
use Rattle.amqp_data.specs.Decimals.{decimal}
use Rattle.amqp_de.proofs.DecimalNames.{named_other, named_unseen, named_width}
use Rattle.amqp_de.proofs.DecimalRead.{IsDecimalByte, of_decimal, other_width, own_width, by_byte, width_read, width_found}
use Rattle.amqp_de.proofs.LookedFirst.{missed_behind, missed_look, missed_custom}
use Rattle.amqp_de.proofs.decimals.of_width.Goals.{else-byte-2-via-then-byte-2+else-byte-3, else-byte-2-via-else-byte-2}
use Rattle.amqp_de.proofs.decimals.of_width.Goals as goal

one_of : (b : ℕ) → (b ≡ 0x74) ⊎ (((b ≡ 0x74 → ⊥) × (b ≡ 0x84)) ⊎ ((b ≡ 0x74 → ⊥) × (b ≡ 0x84 → ⊥) × (b ≡ 0x94))) → IsDecimalByte b
one_of b (inl h) = inl h
one_of b (inr (inl h)) = inr (inl h.1)
one_of b (inr (inr h)) = inr (inr h.2)

pub returns-then-byte-3 : goal.returns-then-byte-3
returns-then-byte-3 g c =
    let n : (row c.in-Ok.code).byte ≡ (row c.args.wanted).byte → ⊥ = λ h. absurd (omega (arith, h, c.byte.ensures, c.byte-byte.ensures, c.if-byte-3.true)) in
    let k = other_width c.args.wanted c.in-Ok.code c.requires.0 c.requires.1 n in
    let d = by_byte c.in-Ok.code (subst IsDecimalByte c.byte-byte.ensures (one_of c.byte-byte.result c.if-byte-2.either)) in
    record {
      ok = tt;
      width = tt;
      err = missed_custom (row c.args.wanted).kind g.R.Read.buffers _ _ c.in-Ok.code _ _ c.in-Ok.ensures.ok k c.custom.ensures;
      named = named_other (row c.args.wanted).kind g.R.Read.buffers _ _ c.in-Ok.code _ _ c.in-Ok.ensures.ok d k c.custom.ensures;
    }

pub returns-in-Ok-deserialize_decimal : goal.returns-in-Ok-deserialize_decimal
returns-in-Ok-deserialize_decimal g c =
    let v = decimal c.in-Ok-deserialize_decimal.value in
    let h = own_width c.args.wanted c.in-Ok.code c.byte-byte.result c.byte-byte.ensures (elim c.else-byte-2.branch [ else-byte-2-via-then-byte-2+else-byte-3 w ↦ inl (w.if-byte-3.false ∙ w.byte.ensures) | else-byte-2-via-else-byte-2 w ↦ inr w.if-byte-2.false ]) in
    let q = width_read (row c.args.wanted).kind v _ _ _ c.in-Ok.code h c.in-Ok.ensures.ok c.in-Ok-deserialize_decimal.ensures.ok in
    record { ok = width_found (row c.args.wanted).kind v _ _ _ c.in-Ok.code q c.in-Ok.ensures.ok c.in-Ok-deserialize_decimal.ensures.ok; width = q; err = tt; named = tt }

pub returns-in-Err-deserialize_decimal : goal.returns-in-Err-deserialize_decimal
returns-in-Err-deserialize_decimal g c =
    let h = own_width c.args.wanted c.in-Ok.code c.byte-byte.result c.byte-byte.ensures (elim c.else-byte-2.branch [ else-byte-2-via-then-byte-2+else-byte-3 w ↦ inl (w.if-byte-3.false ∙ w.byte.ensures) | else-byte-2-via-else-byte-2 w ↦ inr w.if-byte-2.false ]) in
    record {
      ok = tt;
      width = tt;
      err = missed_behind is_decimal _ g.R.Read.buffers _ g.R.Read.buffers _ _ _ c.in-Ok.code _ (λ h. refl) (λ i t. of_decimal (row c.args.wanted).kind i c.requires.1 t) c.in-Ok.ensures.ok c.in-Err-deserialize_decimal.ensures.err;
      named = named_width (row c.args.wanted).kind g.R.Read.buffers _ _ _ c.in-Ok.code _ c.requires.1 h c.in-Ok.ensures.ok c.in-Err-deserialize_decimal.ensures.exact;
    }

pub returns-in-Err : goal.returns-in-Err
returns-in-Err g c =
    record { ok = tt; width = tt; err = missed_look (row c.args.wanted).kind g.R.Read.buffers _ _ _ c.in-Err.ensures.err; named = named_unseen (row c.args.wanted).kind g.R.Read.buffers _ _ _ c.in-Err.ensures.err }
