-- Reading the key of a variant.
use Rattle.std.proofs.Common.{◌≡◌, ℕ, Bool, true, false, IsTrue, List, ◌++◌, Ok, Err, refl, sym, ap, subst, ◌∙◌, arith, inl, inr, ◌⊎◌}
use Rattle.amqp_base.specs.declared.error.Error.{Error}
use Rattle.amqp_base.specs.declared.error.Error.TheVariants.{InvalidFormatCode}
use Rattle.amqp_base.specs.declared.format_code.EncodingCodes.{EncodingCodes}
use Rattle.amqp_base.specs.declared.format_code.EncodingCodes.TheVariants.{Uint, SmallUint, Uint0, Ulong, SmallUlong, Ulong0, Str8, Str32, Sym8, Sym32}
use Rattle.amqp_base.specs.Canon.{kind_of}
use Rattle.amqp_base.specs.Codes.{Kind, row}
use Rattle.amqp_base.specs.Enums.{is_key}
use Rattle.amqp_base.specs.Item.{Item, Scalar, scalar, list, map, array, described, uint, ulong, string, symbol}
use Rattle.amqp_base.specs.Parse.{code_at}
use Rattle.amqp_base.specs.ReadBack.{of_own_kind}
use Rattle.amqp_base.specs.Refusing.{scalar_refusal}
use Rattle.amqp_base.specs.Typing.{is_of}
use Rattle.amqp_base.specs.VariantItems.{key_in, by_key, is_key_kind, key_refusal, no_code, no_key, bad_key}
use Rattle.amqp_data.specs.Excuses.{Excused}
use Rattle.amqp_data.proofs.Readings.{excused_more, stayed}
use Rattle.amqp_data.proofs.Received.{may_known, keeps_known}
use Rattle.amqp_de.specs.Decoding.{Decoding, stands_under}
use Rattle.amqp_de.specs.Law.{Missed, Named}
use Rattle.amqp_de.specs.Look.{item_kind, Looks, LooksNot}
use Rattle.amqp_de.proofs.LookedFirst.{missed_of_kind, missed_unseen}
use Rattle.amqp_de.proofs.Naming.{named_behind}

-- ---- codes and kinds

pub other_code : (x : EncodingCodes) → (x ≡ Uint → ⊥) → (x ≡ SmallUint → ⊥) → (x ≡ Uint0 → ⊥) → (x ≡ Ulong → ⊥) → (x ≡ SmallUlong → ⊥) → (x ≡ Ulong0 → ⊥)
    → (x ≡ Str8 → ⊥) → (x ≡ Str32 → ⊥) → (x ≡ Sym8 → ⊥) → (x ≡ Sym32 → ⊥) → is_key_kind (row x).kind ≡ false
unfolding row
other_code Uint a b c d e f g h i j = absurd (a refl)
other_code SmallUint a b c d e f g h i j = absurd (b refl)
other_code Uint0 a b c d e f g h i j = absurd (c refl)
other_code Ulong a b c d e f g h i j = absurd (d refl)
other_code SmallUlong a b c d e f g h i j = absurd (e refl)
other_code Ulong0 a b c d e f g h i j = absurd (f refl)
other_code Str8 a b c d e f g h i j = absurd (g refl)
other_code Str32 a b c d e f g h i j = absurd (h refl)
other_code Sym8 a b c d e f g h i j = absurd (i refl)
other_code Sym32 a b c d e f g h i j = absurd (j refl)
other_code _ a b c d e f g h i j = refl

scalar_kind : (v : Scalar) → IsTrue (by_key (key_in v) (λ k. true)) → is_key_kind (kind_of v) ≡ true
scalar_kind (uint n) t = refl
scalar_kind (ulong n) t = refl
scalar_kind (string b) t = refl
scalar_kind (symbol b) t = refl
scalar_kind _ t = absurd cc

key_kind : (i : Item) → IsTrue (is_key i) → is_key_kind (item_kind i) ≡ true
key_kind (scalar v) t = scalar_kind v t
key_kind (list is) t = absurd cc
key_kind (map ps) t = absurd cc
key_kind (array is) t = absurd cc
key_kind (described d v) t = absurd cc

of_its_kind : (k : Kind) (i : Item) → k ≡ item_kind i → IsTrue (is_key i) → IsTrue (is_of k i)
of_its_kind k (scalar v) h t = rw h (of_own_kind v)
of_its_kind k (list is) h t = absurd cc
of_its_kind k (map ps) h t = absurd cc
of_its_kind k (array is) h t = absurd cc
of_its_kind k (described d v) h t = absurd cc

-- ---- the law

pub key_missed : (k : Kind) (more buffers : Bool) (old mid new : Decoding) (x : EncodingCodes) (e : Error) → (row x).kind ≡ k → Looks old mid x → Missed (is_of k) more buffers mid new e → Missed is_key true buffers old new e
key_missed k more buffers old mid new x e h l m = missed_of_kind (is_of k) is_key more true buffers old mid new x e (λ _. refl) (λ i p t. of_its_kind k i (sym h ∙ p) t) l m

pub other_missed : (buffers : Bool) (old new : Decoding) (x : EncodingCodes) → is_key_kind (row x).kind ≡ false → Looks old new x → Missed is_key true buffers old new InvalidFormatCode
other_missed buffers old new x h l = record {
  why = λ a i t rest w q at f.
      let p = l.kind i t w (may_known new.reading t rest (keeps_known old.reading.to_come new.reading.to_come (t ++ rest) l.looked.stays.to_come at)) in
      absurd cc (sym h ∙ (ap is_key_kind p ∙ key_kind i q));
  spent = λ a. record { most = omega (arith, l.begun, l.looked.stays.taken) };
  steady = stayed l.looked.stays;
  device = λ d. absurd d;
  memory = λ m. absurd cc;
}

pub unseen_missed : (buffers : Bool) (old new : Decoding) (e : Error) → LooksNot buffers old new e → Missed is_key true buffers old new e
unseen_missed buffers old new e n = missed_unseen is_key true buffers old new e (λ _. refl) n

-- ---- refusals by name

pub key_named : (k : Kind) (more buffers : Bool) (old mid new : Decoding) (x : EncodingCodes) (e : Error) → (row x).kind ≡ k → Looks old mid x → Named (scalar_refusal k) more buffers mid new e → Named key_refusal true buffers old new e
key_named k more buffers old mid new x e h l n =
    let m = named_behind (scalar_refusal k) more buffers old mid new x e l n in
    record { why = λ a s at q. let y = l.exact s at in tell s y.0 y.1 (m.why a s at q) }
  where
    tell : (s rest : List ℕ) → code_at (stands_under old) s ≡ Ok (x, rest) → scalar_refusal k (stands_under old) s e ⊎ Excused more buffers old.reading new.reading e → key_refusal (stands_under old) s e ⊎ Excused true buffers old.reading new.reading e
    tell s rest c (inl p) = inl (bad_key x rest c (subst (λ (z : Kind). scalar_refusal z (stands_under old) s e) (sym h) p))
    tell s rest c (inr y) = inr (excused_more old.reading new.reading e (λ _. refl) y)

pub other_named : (buffers : Bool) (old new : Decoding) (x : EncodingCodes) → is_key_kind (row x).kind ≡ false → Looks old new x → Named key_refusal true buffers old new InvalidFormatCode
other_named buffers old new x h l = record { why = λ a s at q. let y = l.exact s at in inl (no_key x y.0 y.1 h refl) }

pub unseen_named : (buffers : Bool) (old new : Decoding) (e : Error) → LooksNot buffers old new e → Named key_refusal true buffers old new e
unseen_named buffers old new e n = record { why = λ a s at q. tell s ((n.rejects a).why s at q) }
  where
    tell : (s : List ℕ) → (code_at (stands_under old) s ≡ Err e) ⊎ Excused buffers buffers old.reading new.reading e → key_refusal (stands_under old) s e ⊎ Excused true buffers old.reading new.reading e
    tell s (inl p) = inl (no_code p)
    tell s (inr y) = inr (excused_more old.reading new.reading e (λ _. refl) y)
