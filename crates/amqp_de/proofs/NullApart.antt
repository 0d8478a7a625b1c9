-- A value of an item that isn't null.
use Rattle.std.proofs.Common.{◌≡◌, ℕ, Bool, false, ◌||◌, IsTrue, List, Some, Ok, Err, refl, sym, ap, ◌∙◌, arith, inl, inr, ◌⊎◌}
use Rattle.amqp_base.specs.declared.error.Error.{Error}
use Rattle.amqp_base.specs.declared.error.Error.TheVariants.{InvalidFormatCode}
use Rattle.amqp_base.specs.declared.format_code.EncodingCodes.{EncodingCodes}
use Rattle.amqp_base.specs.declared.format_code.EncodingCodes.TheVariants.{Null}
use Rattle.amqp_base.specs.Codes.{Kind, row}
use Rattle.amqp_base.specs.Item.{Item, null, scalar, list, map, array, described}
use Rattle.amqp_base.specs.Parse.{code_at}
use Rattle.amqp_base.specs.Refusing.{Refusing}
use Rattle.amqp_base.specs.Typing.{is_null}
use Rattle.amqp_base.specs.Wire.{Wire, lenient}
use Rattle.amqp_data.specs.Excuses.{Excused}
use Rattle.amqp_data.proofs.Readings.{excused_more, stayed}
use Rattle.amqp_data.proofs.Received.{may_taken, may_known, keeps_known}
use Rattle.amqp_de.specs.Decoding.{Decoding, stands_under}
use Rattle.amqp_de.specs.Law.{Front, Found, Missed, Named}
use Rattle.amqp_de.specs.Look.{item_kind, Looks, LooksNot}
use Rattle.amqp_de.specs.NotNull.{not_null, NullThere, not_null_refusal}
use Rattle.amqp_de.proofs.LookedFirst.{same_place, found_behind, missed_behind, missed_unseen}
use Rattle.amqp_de.proofs.Naming.{named_behind}
use Rattle.amqp_de.proofs.Nulls.{other_kind, null_kind}
use Rattle.amqp_de.proofs.PartsRead.{right_of}
use Rattle.amqp_de.proofs.ReadParts.{or_right}
use Rattle.amqp_de.proofs.Weaker.{found_of}

kept : (takes : Item → Bool) (i : Item) → is_null i ≡ false → IsTrue (takes i) → IsTrue (not_null takes i)
kept takes i n t = rw n t

value_of : (takes : Item → Bool) (i : Item) → IsTrue (not_null takes i) → IsTrue (takes i)
value_of takes i t = right_of _ (takes i) t

pub value_found : (takes : Item → Bool) (means : Item → Type 0) (old mid new : Decoding) (x : EncodingCodes) → (x ≡ Null → ⊥) → Looks old mid x → Found takes means mid new → Found (not_null takes) means old new
value_found takes means old mid new x n l f = found_behind (not_null takes) means old mid new x l (found_of takes (not_null takes) means means mid new here f)
  where
    here : (o : Front takes means mid new) → IsTrue (not_null takes o.item) × means o.item
    here o =
        let w : Wire lenient (stands_under old) o.text o.item = rw (same_place old mid x l) at (o.spelled) in
        (kept takes o.item (other_kind x o.item n (l.kind o.item o.text w (may_taken mid.reading new.reading o.text o.step))) o.taken, o.value)

pub value_missed : (takes : Item → Bool) (grows buffers : Bool) (old mid new : Decoding) (x : EncodingCodes) (e : Error) → Looks old mid x → Missed takes grows buffers mid new e → Missed (not_null takes) grows buffers old new e
value_missed takes grows buffers old mid new x e l m = missed_behind takes (not_null takes) grows grows buffers old mid new x e (λ h. h) (value_of takes) l m

null_there : (takes : Item → Bool) (i : Item) → Kind.null ≡ item_kind i → IsTrue (not_null takes i) → ⊥
null_there takes (scalar null) k t = absurd cc
null_there takes (scalar _) k t = absurd cc
null_there takes (list is) k t = absurd cc
null_there takes (map ps) k t = absurd cc
null_there takes (array is) k t = absurd cc
null_there takes (described d v) k t = absurd cc

pub null_missed : (takes : Item → Bool) (grows buffers : Bool) (old mid : Decoding) (x : EncodingCodes) → x ≡ Null → Looks old mid x → Missed (not_null takes) grows buffers old mid InvalidFormatCode
null_missed takes grows buffers old mid x z l = record {
  why = λ a i t rest w q at h. absurd (null_there takes i (sym (ap (λ (c : EncodingCodes). (row c).kind) z ∙ null_kind) ∙ l.kind i t w (may_known mid.reading t rest (keeps_known old.reading.to_come mid.reading.to_come _ l.looked.stays.to_come at))) q);
  spent = λ a. record { most = omega (arith, l.begun, l.looked.stays.taken) };
  steady = stayed l.looked.stays;
  device = λ d. absurd d;
  memory = λ m. absurd cc;
}

pub unseen_missed : (takes : Item → Bool) (grows buffers : Bool) (old new : Decoding) (e : Error) → LooksNot buffers old new e → Missed (not_null takes) (grows || buffers) buffers old new e
unseen_missed takes grows buffers old new e n = missed_unseen (not_null takes) (grows || buffers) buffers old new e (or_right grows buffers) n

-- ---- refusals by name

pub value_named : (refuses : Refusing) (grows buffers : Bool) (old mid new : Decoding) (x : EncodingCodes) (e : Error) → Looks old mid x → Named refuses grows buffers mid new e → Named (not_null_refusal refuses) grows buffers old new e
unfolding not_null_refusal
value_named refuses grows buffers old mid new x e l n =
    let m = named_behind refuses grows buffers old mid new x e l n in
    record { why = λ a s at h. tell s (m.why a s at h) }
  where
    tell : (s : List ℕ) → refuses (stands_under old) s e ⊎ Excused grows buffers old.reading new.reading e → not_null_refusal refuses (stands_under old) s e ⊎ Excused grows buffers old.reading new.reading e
    tell s (inl p) = inl (inr (inr p))
    tell s (inr y) = inr y

null_code_at : (old mid : Decoding) (x : EncodingCodes) (s : List ℕ) → x ≡ Null → Looks old mid x → old.reading.to_come ≡ Some s → NullThere (stands_under old) s InvalidFormatCode
null_code_at old mid x s z l at = let k = l.exact s at in record { rest = k.0; code = k.1 ∙ ap (λ (c : EncodingCodes). Ok (c, k.0)) z; named = refl }

pub null_named : (refuses : Refusing) (grows buffers : Bool) (old mid : Decoding) (x : EncodingCodes) → x ≡ Null → Looks old mid x → Named (not_null_refusal refuses) grows buffers old mid InvalidFormatCode
unfolding not_null_refusal
null_named refuses grows buffers old mid x z l = record { why = λ a s at h. inl (inr (inl (null_code_at old mid x s z l at))) }

pub unseen_named : (refuses : Refusing) (grows buffers : Bool) (old new : Decoding) (e : Error) → LooksNot buffers old new e → Named (not_null_refusal refuses) (grows || buffers) buffers old new e
unfolding not_null_refusal
unseen_named refuses grows buffers old new e n = record { why = λ a s at h. tell s ((n.rejects a).why s at h) }
  where
    tell : (s : List ℕ) → (code_at (stands_under old) s ≡ Err e) ⊎ Excused buffers buffers old.reading new.reading e → not_null_refusal refuses (stands_under old) s e ⊎ Excused (grows || buffers) buffers old.reading new.reading e
    tell s (inl p) = inl (inl p)
    tell s (inr y) = inr (excused_more old.reading new.reading e (or_right grows buffers) y)
