-- From a descriptor and the value behind it to a described item that is written.
use Rattle.std.proofs.Common.{◌≡◌, ℕ, ◌<◌, ◌≤◌, ◌^◌, ◌==◌, nat_lt, nat_le, if◌then◌else◌, Bool, true, false, List, [], ◌∷◌, length, Option, Some, None, Result, Ok, Err, refl, sym, subst, ◌∙◌, arith, inl, inr}
use Rattle.std.specs.Str.{is_utf8}
use Rattle.std.proofs.lemmas.Bool.{ltb-false, leb-true, leb-false}
use Rattle.amqp_base.specs.declared.error.Error.{Error}
use Rattle.amqp_base.specs.declared.format_code.EncodingCodes.TheVariants.{Sym32, Ulong}
use Rattle.amqp_base.specs.Codes.{row, widest}
use Rattle.amqp_base.specs.Item.{Descriptor, name, code, descriptor_item, scalar}
use Rattle.amqp_base.specs.Canon.{◌>>=◌, or_else, when, limit, kind_code, descriptor_text, canon, scalar_text, short_text, scalar_body, unsigned}
use Rattle.amqp_write.specs.State.{State, Planned, unmarked}
use Rattle.amqp_write.specs.Texts.{marked}
use Rattle.amqp_write.specs.Law.{fits, found_after, plan_after}
use Rattle.amqp_write.specs.Appending.{Appended, Pays, PaysItem, payload_at}
use Rattle.amqp_write.specs.Describing.{describing}
use Rattle.amqp_write.proofs.Steps.{kept_two, fits_nil}
use Rattle.amqp_write.proofs.Counting.{goes_more}
use Rattle.amqp_write.proofs.ShortNumbers.{unsigned_fits}
use Rattle.amqp_write.proofs.TextOf.{symbol_at, payload_narrow, payload_wide}

true_not : true ≡ false → ⊥
true_not e = cc

plan_bytes : (p : Option Planned) (b : List ℕ) → p ≡ None → plan_after p [] b ≡ None
plan_bytes p b h = rw h refl

-- a byte, and a text behind it
pub pays_behind : {A B : Type 0} (s m : State) (text : Option (List ℕ)) (why : Error) (x : A) (q : Result A Error) (r : Result B Error) (t : State) → q ≡ Ok x → Appended s (0x00 ∷ []) q m → Pays m text m.found [] why r t → s.ended ≡ false → Pays s (text >>= λ a. Some (0x00 ∷ a)) s.found [] why r t
pays_behind s m text why x q r t is a p answers = go r (subst (λ z. Appended s (0x00 ∷ []) z m) is a) p
  where
    no_text : (o : Option (List ℕ)) → (o >>= λ b. when (fits m [] (length b)) b) ≡ None → ((o >>= λ a. Some (0x00 ∷ a)) >>= λ b. when (fits s [] (length b)) b) ≡ None
    no_text None h = refl
    no_text (Some b) h = let no : Some b ≡ None = rw (fits_nil m (length b)) at h in cc

    go : {A B : Type 0} {x : A} (r : Result B Error) → Appended s (0x00 ∷ []) (Ok x) m → Pays m text m.found [] why r t → Pays s (text >>= λ a. Some (0x00 ∷ a)) s.found [] why r t
    go (Ok y) a p = record {
      kept = kept_two s m t a.kept p.kept;
      device = tt;
      ok = (0x00 ∷ p.ok.0, rw p.ok.1 refl, goes_more s m t (0x00 ∷ []) p.ok.0 [] [] a.ok.0 p.ok.2, p.ok.3 ∙ a.ok.1, p.ok.4 ∙ a.ok.2, p.ok.5);
      err = tt;
      refused = tt;
      spares = tt;
    }
    go (Err e) a p = record {
      kept = kept_two s m t a.kept p.kept;
      device = λ d. omega (arith, a.kept.faults, p.device d);
      ok = tt;
      err = p.err;
      refused = elim p.refused [ inl n ↦ inl n | inr d ↦ elim d [ inl io ↦ inr (inl (io.0, omega (arith, a.kept.faults, io.1))) | inr w ↦ inr (inr (record { none = no_text text w.none; named = λ plan. w.named (a.ok.0.plan ∙ plan_bytes s.plan (0x00 ∷ []) plan) })) ] ];
      spares = λ n. elim (p.spares n) [ inl grows ↦ inl (sym a.kept.grows ∙ grows) | inr more ↦ inr (omega (arith, a.kept.faults, more)) ];
    }

-- the byte itself wasn't written
pub pays_no_byte : {A B : Type 0} (s t : State) (text : Option (List ℕ)) (why e : Error) (q : Result A Error) (r : Result B Error) → q ≡ Err e → r ≡ Err e → Appended s (0x00 ∷ []) q t → Pays s text s.found [] why r t
pays_no_byte s t text why e q r is same a = subst (λ z. Pays s text s.found [] why z t) (sym same) (go (subst (λ z. Appended s (0x00 ∷ []) z t) is a))
  where
    go : {A B : Type 0} → Appended {A = A} s (0x00 ∷ []) (Err e) t → Pays {A = B} s text s.found [] why (Err e) t
    go a = record {
      kept = a.kept;
      device = a.device;
      ok = tt;
      err = a.err;
      refused = elim a.refused [ inl n ↦ inl n | inr d ↦ elim d [ inl io ↦ inr (inl io) | inr full ↦ absurd (true_not (sym (fits_nil s 1) ∙ full)) ] ];
      spares = a.spares;
    }

-- the byte, and a descriptor behind it
pub pays_described : {A B : Type 0} (s m : State) (d : Descriptor) (why : Error) (x : A) (q : Result A Error) (r : Result B Error) (t : State) → q ≡ Ok x → s.mark ≡ unmarked → s.ended ≡ false → Appended s (0x00 ∷ []) q m → PaysItem m (scalar (descriptor_item d)) why r t → Pays s (describing d) s.found [] why r t
unfolding marked canon
pays_described {A} s m d why x q r t is h answers a p =
    let b : Appended {A = A} s (0x00 ∷ []) (Ok x) m = subst (λ z. Appended s (0x00 ∷ []) z m) is a in
    let k : m.mark ≡ unmarked = b.ok.1 ∙ h in
    pays_behind s m (descriptor_text d) why x q r t is a (subst (λ z. Pays m (marked z (scalar (descriptor_item d))) (found_after z (kind_code (scalar (descriptor_item d))) m.found) [] why r t) k p) answers

-- only a name that is too long is no descriptor
pub name_fits : (b : List ℕ) → is_utf8 b ≡ true → descriptor_text (name b) ≡ None → nat_lt limit (length b) ≡ true
unfolding marked canon payload_at
name_fits b u none = go (nat_lt limit (length b)) refl
  where
    some_no : {A : Type 0} (o : Option A) (x : A) → o ≡ Some x → o ≡ None → ⊥
    some_no o x h k = let e : Some x ≡ None = sym h ∙ k in cc

    short : (t : Bool) → nat_le (length b) 254 ≡ t → length b ≤ limit → ⊥
    short true e l = some_no _ _ (payload_narrow 0xa3 Sym32 b (leb-true (length b) 254 e)) (sym (symbol_at unmarked b u) ∙ none)
    short false e l = some_no _ _ (payload_wide 0xa3 Sym32 b (leb-false (length b) 254 e) l) (sym (symbol_at unmarked b u) ∙ none)

    go : (t : Bool) → nat_lt limit (length b) ≡ t → nat_lt limit (length b) ≡ true
    go true h = h
    go false h = absurd (short (nat_le (length b) 254) refl (ltb-false limit (length b) h))

pub code_fits : (n : ℕ) → n < 2 ^ 64 → descriptor_text (code n) ≡ None → ⊥
unfolding scalar_text short_text scalar_body widest
code_fits n h none = go (n == 0) (nat_lt n 256) (unsigned 8 n) _ (unsigned_fits 8 n h) none
  where
    go : (t u : Bool) (o : Option (List ℕ)) (b : List ℕ) → o ≡ Some b → or_else (if t then Some (0x44 ∷ []) else when u (0x53 ∷ n ∷ [])) (o >>= λ d. Some ((row Ulong).byte ∷ d)) ≡ None → ⊥
    go true u o b h k = cc
    go false true o b h k = cc
    go false false (Some c) b h k = cc
    go false false None b h k = cc
