-- Refusals of decimals by the names that the bytes call for.
use Rattle.std.proofs.Common.{◌≡◌, ℕ, Bool, true, false, ◌&&◌, not, List, Result, Ok, Err, refl, sym, ap, ◌∙◌, inl, inr, ◌⊎◌}
use Rattle.amqp_base.specs.declared.error.Error.{Error}
use Rattle.amqp_base.specs.declared.error.Error.TheVariants.{Message, OutOfMemory, Io}
use Rattle.amqp_base.specs.declared.format_code.EncodingCodes.{EncodingCodes}
use Rattle.amqp_base.specs.Codes.{Kind, row}
use Rattle.amqp_base.specs.SameKind.{same_kind, is_decimal_kind}
use Rattle.amqp_base.specs.Wire.{Constructor}
use Rattle.amqp_base.specs.Parse.{Parsed, ◌>>=◌, byte_under, any_code, with_rest, behind_byte, item_at, code_at, data_at}
use Rattle.amqp_base.specs.Refusals.{IsCustom, IsMessage}
use Rattle.amqp_base.specs.Refusing.{one_or_other, scalar_refusal, is_other_width, decimal_refusal}
use Rattle.amqp_base.proofs.KindPlaces.{same_kind_is, kind_same}
use Rattle.amqp_data.specs.Decimals.{decimal_at, decimal}
use Rattle.amqp_de.specs.Decoding.{Decoding, stands_under}
use Rattle.amqp_data.specs.Excuses.{Excused, no_memory}
use Rattle.amqp_de.specs.Law.{Named}
use Rattle.amqp_de.specs.Look.{Looks, LooksNot}
use Rattle.amqp_de.specs.Steps.{Exact}
use Rattle.amqp_de.proofs.LookedFirst.{excused_kept, same_place}
use Rattle.amqp_de.proofs.Naming.{by_code}
use Rattle.amqp_data.proofs.Readings.{excused_more}
use Rattle.amqp_data.proofs.Received.{keeps_known}

the_one : (A B : Type 0) (b : Bool) → b ≡ true → A → one_or_other b A B
the_one A B b h a = rw h a

the_other : (A B : Type 0) (b : Bool) → b ≡ false → B → one_or_other b A B
the_other A B b h a = rw h a

-- a code of another width stands there
custom_says : (text : List ℕ) (e : Error) → IsCustom text e → IsMessage e ⊎ (e ≡ OutOfMemory)
custom_says text (Message s) c = inl tt
custom_says text OutOfMemory c = inr refl
custom_says text (Io k) c = absurd c
custom_says text _ c = absurd c

is_other : (k : Kind) (p : Parsed EncodingCodes) (x : EncodingCodes) (rest : List ℕ) → p ≡ Ok (x, rest) → is_decimal_kind (row x).kind ≡ true → ((row x).kind ≡ k → ⊥) → is_other_width k p ≡ true
is_other k p x rest h d n = tell (same_kind (row x).kind k) refl
  where
    tell : (t : Bool) → same_kind (row x).kind k ≡ t → is_other_width k p ≡ true
    tell true q = absurd (n (same_kind_is (row x).kind k q))
    tell false q = rw (h, d, q) refl

pub named_other : (k : Kind) (buffers : Bool) (old new : Decoding) (x : EncodingCodes) (text : List ℕ) (e : Error) → Looks old new x → is_decimal_kind (row x).kind ≡ true → ((row x).kind ≡ k → ⊥) → IsCustom text e → Named (decimal_refusal k) true buffers old new e
unfolding decimal_refusal
named_other k buffers old new x text e l d n c = record { why = λ a s at h. let y = l.exact s at in tell s (is_other k (code_at (stands_under old) s) x y.0 y.1 d n) (custom_says text e c) }
  where
    tell : (s : List ℕ) → is_other_width k (code_at (stands_under old) s) ≡ true → IsMessage e ⊎ (e ≡ OutOfMemory)
        → one_or_other (is_other_width k (code_at (stands_under old) s)) (IsMessage e) (scalar_refusal k (stands_under old) s e) ⊎ Excused true buffers old.reading new.reading e
    tell s p (inl m) = inl (the_one _ _ _ p m)
    tell s p (inr m) = inr (no_memory m refl)

-- no code stands there
no_code : {A : Type 0} (f : EncodingCodes → List ℕ → Parsed A) (s : List ℕ) (r : Result EncodingCodes Error) (e : Error) → (with_rest s r >>= λ x. Ok (x.0, x.1)) ≡ Err e → (with_rest s r >>= λ x. f x.0 x.1) ≡ Err e
no_code f s (Ok x) e h = absurd cc
no_code f s (Err y) e h = let p : y ≡ e = cc in ap Err p

no_byte : {A : Type 0} (f : EncodingCodes → List ℕ → Parsed A) (p : Parsed ℕ) (e : Error) → (p >>= λ b. behind_byte (λ x t. Ok (x, t)) b.0 b.1) ≡ Err e → (p >>= λ b. behind_byte f b.0 b.1) ≡ Err e
no_byte f (Ok b) e h = no_code f b.1 (any_code b.0) e h
no_byte f (Err y) e h = let p : y ≡ e = cc in ap Err p

no_item : {A : Type 0} (f : EncodingCodes → List ℕ → Parsed A) (c : Constructor) (s : List ℕ) (e : Error) → code_at c s ≡ Err e → item_at f c s ≡ Err e
no_item f c s e h = no_byte f (byte_under c s) e h

not_other : (k : Kind) (p : Parsed EncodingCodes) (e : Error) → p ≡ Err e → is_other_width k p ≡ false
not_other k p e h = rw h refl

pub named_unseen : (k : Kind) (buffers : Bool) (old new : Decoding) (e : Error) → LooksNot buffers old new e → Named (decimal_refusal k) true buffers old new e
unfolding decimal_refusal scalar_refusal
named_unseen k buffers old new e n = record { why = λ a s at h. tell s ((n.rejects a).why s at h) }
  where
    tell : (s : List ℕ) → (code_at (stands_under old) s ≡ Err e) ⊎ Excused buffers buffers old.reading new.reading e
        → one_or_other (is_other_width k (code_at (stands_under old) s)) (IsMessage e) (item_at (data_at k) (stands_under old) s ≡ Err e) ⊎ Excused true buffers old.reading new.reading e
    tell s (inl p) = inl (the_other _ _ _ (not_other k (code_at (stands_under old) s) e p) (no_item (data_at k) (stands_under old) s e p))
    tell s (inr y) = inr (excused_more old.reading new.reading e (λ _. refl) y)

-- a code of no other width stands there: whatever it is, both parse alike
same_test : (k j : Kind) → is_decimal_kind k ≡ true → (is_decimal_kind j ≡ true → j ≡ k) → is_decimal_kind j ≡ same_kind j k
same_test k j d h = tell (is_decimal_kind j) refl (same_kind j k) refl
  where
    tell : (s : Bool) → is_decimal_kind j ≡ s → (t : Bool) → same_kind j k ≡ t → is_decimal_kind j ≡ same_kind j k
    tell true p t q = p ∙ sym (kind_same j k (h p))
    tell false p true q = let m : is_decimal_kind j ≡ true = ap is_decimal_kind (same_kind_is j k q) ∙ d in absurd cc (m, p)
    tell false p false q = p ∙ sym q

parse_alike : (k : Kind) (x : EncodingCodes) (rest : List ℕ) → is_decimal_kind (row x).kind ≡ same_kind (row x).kind k → decimal_at x rest ≡ data_at k x rest
unfolding decimal_at data_at
parse_alike k x rest h = rw h refl

and_not : (a b : Bool) → a ≡ b → (a && not b) ≡ false
and_not true true h = refl
and_not true false h = absurd cc
and_not false b h = refl

own_code : (k : Kind) (p : Parsed EncodingCodes) (x : EncodingCodes) (rest : List ℕ) → p ≡ Ok (x, rest) → is_decimal_kind (row x).kind ≡ same_kind (row x).kind k → is_other_width k p ≡ false
own_code k p x rest h q = rw h (and_not (is_decimal_kind (row x).kind) (same_kind (row x).kind k) q)

pub named_width : (k : Kind) (buffers : Bool) (old mid new : Decoding) (x : EncodingCodes) (e : Error) → is_decimal_kind k ≡ true → (is_decimal_kind (row x).kind ≡ true → (row x).kind ≡ k) → Looks old mid x
    → (mid.ended ≡ false → Exact decimal buffers buffers (item_at decimal_at (stands_under mid)) mid.reading (Err e) new.reading) → Named (decimal_refusal k) true buffers old new e
unfolding decimal_refusal scalar_refusal
named_width k buffers old mid new x e d o l n = record {
  why = λ a s at h.
      let y = l.exact s at in
      tell s y.0 y.1 ((n l.not_ended).answer s (keeps_known old.reading.to_come mid.reading.to_come s l.looked.stays.to_come at) (l.looked.stays.steady.honest ∙ h));
}
  where
    same : is_decimal_kind (row x).kind ≡ same_kind (row x).kind k
    same = same_test k (row x).kind d o

    tell : (s rest : List ℕ) → code_at (stands_under old) s ≡ Ok (x, rest) → (item_at decimal_at (stands_under mid) s ≡ Err e) ⊎ Excused buffers buffers mid.reading new.reading e
        → one_or_other (is_other_width k (code_at (stands_under old) s)) (IsMessage e) (item_at (data_at k) (stands_under old) s ≡ Err e) ⊎ Excused true buffers old.reading new.reading e
    tell s rest q (inl p) =
        let r : item_at decimal_at (stands_under old) s ≡ Err e = rw (same_place old mid x l) at p in
        let z : item_at (data_at k) (stands_under old) s ≡ Err e = by_code (data_at k) (stands_under old) s rest x q ∙ sym (parse_alike k x rest same) ∙ sym (by_code decimal_at (stands_under old) s rest x q) ∙ r in
        inl (the_other _ _ _ (own_code k (code_at (stands_under old) s) x rest q same) z)
    tell s rest q (inr y) = inr (excused_kept old.reading mid.reading new.reading e l.looked.stays (excused_more mid.reading new.reading e (λ _. refl) y))
