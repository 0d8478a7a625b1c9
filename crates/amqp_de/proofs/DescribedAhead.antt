-- A look at a described item, whose descriptor comes first.
use Rattle.std.proofs.Common.{◌≡◌, ℕ, Bool, false, List, ◌++◌, Result, Err, refl, ◌∙◌, arith, inl, inr, ◌⊎◌, IsTrue}
use Rattle.amqp_base.specs.declared.error.Error.{Error}
use Rattle.amqp_base.specs.declared.error.Error.TheVariants.{InvalidValue, InvalidFormatCode}
use Rattle.amqp_base.specs.declared.format_code.EncodingCodes.{EncodingCodes}
use Rattle.amqp_base.specs.declared.format_code.EncodingCodes.TheVariants.{DescribedType}
use Rattle.amqp_base.specs.Codes.{Kind, row}
use Rattle.amqp_base.specs.Describing.{is_described}
use Rattle.amqp_base.specs.Item.{Item, scalar, list, map, array, described}
use Rattle.amqp_base.specs.Parse.{item_at, code_at}
use Rattle.amqp_data.specs.Excuses.{Excused}
use Rattle.amqp_data.proofs.Readings.{stayed}
use Rattle.amqp_data.proofs.Received.{keeps_known, may_known}
use Rattle.amqp_de.specs.Decoding.{Decoding, stands_under, as_ended}
use Rattle.amqp_de.specs.Forms.{described_data, NoneDescribed}
use Rattle.amqp_de.specs.Look.{item_kind, Looks, LooksNot}
use Rattle.amqp_de.proofs.FormsOpened.{item_none}
use Rattle.amqp_de.proofs.LookedFirst.{missed_unseen}
use Rattle.amqp_de.proofs.Naming.{by_code}

pub described_code : (x : EncodingCodes) → (row x).kind ≡ Kind.described → x ≡ DescribedType
unfolding row
described_code DescribedType h = refl
described_code _ h = absurd cc

pub described_kind : (i : Item) → IsTrue (is_described i) → item_kind i ≡ Kind.described
described_kind (described d v) t = refl
described_kind (scalar v) t = absurd cc
described_kind (list is) t = absurd cc
described_kind (map ps) t = absurd cc
described_kind (array is) t = absurd cc

other_data : (x : EncodingCodes) (s : List ℕ) → (x ≡ DescribedType → ⊥) → described_data x s ≡ Err InvalidFormatCode
unfolding described_data
other_data DescribedType s n = absurd (n refl)
other_data _ s n = refl

-- another code stands there
pub none_described : (buffers : Bool) (old mid : Decoding) (x : EncodingCodes) → (x ≡ DescribedType → ⊥) → old.ended ≡ false → Looks old mid x → NoneDescribed buffers old (as_ended mid) InvalidFormatCode
none_described buffers old mid x n a l = record {
  if_ended = λ h. absurd cc (a, h);
  rejects = λ _. record {
    why = λ s at h. let k = l.exact s at in inl (by_code described_data (stands_under old) s k.0 x k.1 ∙ other_data x k.0 n);
    steady = stayed l.looked.stays;
    device = λ d. absurd d;
    memory = λ m. absurd cc;
  };
  ended = refl;
  missed = record {
    why = λ _ i t rest w q at h. absurd (n (described_code x (l.kind i t w (may_known mid.reading t rest (keeps_known old.reading.to_come mid.reading.to_come (t ++ rest) l.looked.stays.to_come at)) ∙ described_kind i q)));
    spent = λ _. record { most = omega (arith, l.begun, l.looked.stays.taken) };
    steady = stayed l.looked.stays;
    device = λ d. absurd d;
    memory = λ m. absurd cc;
  };
}

apart : {A : Type 0} (e f : Error) → (let r : Result A Error = Err e in r) ≡ Err f → e ≡ f
apart e f h = cc

-- no code stands there
pub unseen_described : {A : Type 0} (buffers : Bool) (old new : Decoding) (e : Error) → LooksNot buffers old new e → IsTrue new.ended → (IsTrue old.ended → ((let r : Result A Error = Err e in r) ≡ Err InvalidValue) × (new ≡ old)) → NoneDescribed buffers old new e
unseen_described buffers old new e n z s = record {
  if_ended = λ h. let p = s h in (apart e InvalidValue p.0, p.1);
  rejects = λ a. let r = n.rejects a in record { why = λ s at h. tell s (r.why s at h); steady = r.steady; device = r.device; memory = r.memory };
  ended = z;
  missed = missed_unseen is_described buffers buffers old new e (λ b. b) n;
}
  where
    tell : (s : List ℕ) → (code_at (stands_under old) s ≡ Err e) ⊎ Excused buffers buffers old.reading new.reading e → (item_at described_data (stands_under old) s ≡ Err e) ⊎ Excused buffers buffers old.reading new.reading e
    tell s (inl p) = inl (item_none described_data (stands_under old) s e p)
    tell s (inr y) = inr y
