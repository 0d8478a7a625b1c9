-- From appended bytes to a written item.
use Rattle.std.proofs.Common.{◌≡◌, ℕ, ◌<◌, List, [], ◌++◌, length, refl, sym, ◌∙◌, arith, Option, Some, None, true, false, Bool, Result, Ok, Err, OnOk, IfErr, inl, inr, subst, ◌⊎◌}
use Rattle.amqp_base.specs.Item.{Item}
use Rattle.amqp_base.specs.Wire.{Constructor}
use Rattle.amqp_base.specs.Canon.{when, kind_code}
use Rattle.amqp_base.specs.Sizes.{Size, sizes}
use Rattle.amqp_base.specs.declared.error.Error.{Error}
use Rattle.amqp_base.specs.declared.error.Error.TheVariants.{OutOfMemory}
use Rattle.amqp_base.specs.Faults.{IsFault}
use Rattle.amqp_write.specs.State.{State, Planned}
use Rattle.amqp_write.proofs.Counting.{goes_more}
use Rattle.amqp_write.specs.Law.{marked, text_for, found_after, fits, is_next, Wrote, Refused, Writes, Kept, IsDevice, why_unwritten}
use Rattle.amqp_write.specs.Appending.{Appended, Pays, PaysWhole}
use Rattle.amqp_write.proofs.Bytes.{extends_more, extends_same}

apart : true ≡ false → ⊥
apart e = cc

pub kept_two : (s t u : State) → Kept s t → Kept t u → Kept s u
kept_two s t u h k = record {
  bytes = extends_more _ _ _ h.bytes k.bytes;
  faults = omega (arith, h.faults, k.faults);
  grows = k.grows ∙ h.grows;
}

-- a serializer that counts nothing
pub record Free (s : State) : Type 0 where
  pub plan : s.plan ≡ None
  pub measure : s.measure ≡ None

pub fits_free : (s : State) (n : ℕ) (l : List Size) → Free s → fits s l n ≡ true
unfolding fits
fits_free s n l f = rw f.plan refl

-- a text without compounds stands under each plan
pub fits_nil : (s : State) (n : ℕ) → fits s [] n ≡ true
unfolding fits
fits_nil s n = go s.plan
  where
    go : (p : Option Planned) → is_next p [] ≡ true
    go None = refl
    go (Some p) = refl

pub appended_two : {A : Type 0} (s t u : State) (a b : List ℕ) (x : A) (r : Result A Error) → Appended s a (Ok x) t → Appended t b r u → Appended s (a ++ b) r u
appended_two s t u a b x (Ok y) h k = record {
  kept = kept_two s t u h.kept k.kept;
  device = tt;
  ok = (goes_more s t u a b [] [] h.ok.0 k.ok.0, k.ok.1 ∙ h.ok.1, k.ok.2 ∙ h.ok.2, k.ok.3 ∙ h.ok.3);
  err = tt;
  refused = tt;
  spares = tt;
}
appended_two s t u a b x (Err e) h k =
    let free : fits t [] (length b) ≡ true = fits_nil t (length b) in
    record {
      kept = kept_two s t u h.kept k.kept;
      device = λ d. omega (arith, h.kept.faults, k.device d);
      ok = tt;
      err = k.err;
      refused = elim k.refused [ inl m ↦ inl m | inr d ↦ elim d [ inl io ↦ inr (inl (io.0, omega (arith, h.kept.faults, io.1))) | inr full ↦ absurd (apart (sym free ∙ full)) ] ];
      spares = λ m. elim (k.spares m) [ inl grows ↦ inl (sym h.kept.grows ∙ grows) | inr more ↦ inr (omega (arith, h.kept.faults, more)) ];
    }

-- what was ended by the first part is ended
pub appended_ended : {A B : Type 0} (s t : State) (a b : List ℕ) (e : Error) (q : Result A Error) (r : Result B Error) → q ≡ Err e → r ≡ Err e → Appended s a q t → Appended s b r t
appended_ended s t a b e (Ok x) r is same h = cc
appended_ended s t a b e (Err d) (Ok x) is same h = cc
appended_ended s t a b e (Err d) (Err g) is same h =
    let eq : d ≡ g = cc in
    record {
      kept = h.kept;
      device = subst (λ x. IsDevice x → s.faults < t.faults) eq h.device;
      ok = tt;
      err = h.err;
      refused = elim h.refused [ inl m ↦ inl (sym eq ∙ m) | inr d ↦ elim d [ inl io ↦ inr (inl (subst (λ x. IsFault t.last_fault x) eq io.0, io.1)) | inr full ↦ absurd (apart (sym (fits_nil s (length a)) ∙ full)) ] ];
      spares = subst (λ x. x ≡ OutOfMemory → (s.grows ≡ true) ⊎ (s.faults < t.faults)) eq h.spares;
    }

when_false : (t : Bool) (b : List ℕ) → t ≡ false → when t b ≡ None
when_false t b h = rw h refl

-- the bytes of a text were appended, by a serializer that first found a constructor
pub pays_appended : {A : Type 0} (s v : State) (text : Option (List ℕ)) (found : Option Constructor) (bytes : List ℕ) (why : Error) (r : Result A Error) (t : State) → v ≡ record s { found = found } → text ≡ Some bytes → s.ended ≡ false → Appended v bytes r t → Pays s text found [] why r t
unfolding fits
pays_appended s v text found bytes why r t same is answers a = pays_found s text found bytes why r t is answers (subst (λ x. Appended x bytes r t) same a)
  where
    pays_found : {A : Type 0} (s : State) (text : Option (List ℕ)) (found : Option Constructor) (bytes : List ℕ) (why : Error) (r : Result A Error) (t : State) → text ≡ Some bytes → s.ended ≡ false → Appended (record s { found = found }) bytes r t → Pays s text found [] why r t
    pays_found s text found bytes why (Ok x) t is answers a = record {
      kept = record { bytes = a.kept.bytes; faults = a.kept.faults; grows = a.kept.grows };
      device = tt;
      ok = (bytes, is, record { fits = a.ok.0.fits; appended = a.ok.0.appended; plan = a.ok.0.plan; measure = a.ok.0.measure; setting = a.ok.0.setting }, a.ok.1, a.ok.2, a.ok.3 ∙ answers);
      err = tt;
      refused = tt;
      spares = tt;
    }
    pays_found s text found bytes why (Err e) t is answers a = record {
      kept = record { bytes = a.kept.bytes; faults = a.kept.faults; grows = a.kept.grows };
      device = a.device;
      ok = tt;
      err = a.err;
      refused = elim a.refused [
        | inl m ↦ inl m
        | inr d ↦ elim d [
          | inl f ↦ inr (inl f)
          | inr full ↦ inr (inr (record {
            none = rw is (when_false _ bytes full);
            named = λ plan. absurd (apart (sym (fits_nil s (length bytes)) ∙ full));
          }))
        ]
      ];
      spares = a.spares;
    }

ended_pays : {A : Type 0} (r : Result A Error) (s : State) (text : Option (List ℕ)) (found : Option Constructor) (l : List Size) (e : Error) → r ≡ Err e → text ≡ None → (e ≡ OutOfMemory → ⊥) → (IsDevice e → ⊥) → Pays s text found l e r (record s { ended = true })
ended_pays (Ok x) s text found l e same none memory device = cc
ended_pays (Err f) s text found l e same none memory device =
    let eq : f ≡ e = cc in
    record {
      kept = record { bytes = extends_same s.contents; faults = omega arith; grows = refl };
      device = λ d. absurd (device (subst (λ x. IsDevice x) eq d));
      ok = tt;
      err = refl;
      refused = inr (inr (record { none = rw none refl; named = λ plan. eq }));
      spares = λ m. absurd (memory (sym eq ∙ m));
    }

-- no text is there, and nothing was written
pub pays_none : {A : Type 0} (s : State) (text : Option (List ℕ)) (found : Option Constructor) (l : List Size) (e : Error) (r : Result A Error) (t : State) → t ≡ record s { ended = true } → text ≡ None → (e ≡ OutOfMemory → ⊥) → (IsDevice e → ⊥) → r ≡ Err e → Pays s text found l e r t
pays_none s text found l e r t same none memory device is = subst (λ x. Pays s text found l e r x) (sym same) (ended_pays r s text found l e is none memory device)

pub wrote_pays : {A : Type 0} (s : State) (i : Item) (text : Option (List ℕ)) (found : Option Constructor) (l : List Size) (why : Error) (r : Result A Error) (t : State) → marked s.mark i ≡ text → found_after s.mark (kind_code i) s.found ≡ found → sizes i ≡ l → Pays s text found l why r t → OnOk r (Wrote s i t)
wrote_pays s i text found l why (Ok x) t is same z p = record {
  kept = p.kept;
  took = λ h. record { bytes = p.ok.0; text = is ∙ p.ok.1; goes = rw z p.ok.2; mark = p.ok.3; found = p.ok.4 ∙ sym same };
  answers = λ h. p.ok.5;
}
wrote_pays s i text found l why (Err e) t is same z p = tt

pub refused_pays : {A : Type 0} (s : State) (i : Item) (text : Option (List ℕ)) (found : Option Constructor) (l : List Size) (why : Error) (r : Result A Error) (t : State) → marked s.mark i ≡ text → found_after s.mark (kind_code i) s.found ≡ found → sizes i ≡ l → why_unwritten i ≡ why → Pays s text found l why r t → IfErr r (λ e. Refused s i e t)
unfolding text_for
refused_pays s i text found l why (Ok x) t is same z name p = tt
refused_pays s i text found l why (Err e) t is same z name p = record {
  kept = p.kept;
  device = p.device;
  cause = λ h. elim p.refused [ inl m ↦ inl m | inr d ↦ inr (elim d [ inl f ↦ inl f | inr w ↦ inr (record { none = rw (is, z) w.none; named = λ plan. w.named plan ∙ sym name }) ]) ];
}

-- an item that is written whole, on a serializer that answers
pub writes_whole : {A : Type 0} (s : State) (i : Item) (r : Result A Error) (t : State) → s.ended ≡ false → PaysWhole s i r t → Writes s i r t
writes_whole s i r t answers p = record {
  ok = wrote_pays s i _ _ (sizes i) _ r t refl refl refl p;
  err = refused_pays s i _ _ (sizes i) _ r t refl refl refl refl p;
  stops = record { err = p.err; ended = λ h. absurd (apart (sym h ∙ answers)) };
  spares = p.spares;
}
