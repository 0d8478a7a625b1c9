-- Refusals by name, of a list whose last fields may be left out.
use Rattle.std.proofs.Common.{◌≡◌, ℕ, zero, suc, ◌<◌, ◌≤◌, Bool, true, false, IsTrue, List, [], ◌∷◌, ◌++◌, Result, Ok, Err, refl, ap, subst, ◌∙◌, arith, inl, inr, ◌⊎◌}
use Rattle.std.proofs.lemmas.Bool.{lt-ltb, le-ltb}
use Rattle.amqp_base.specs.declared.error.Error.{Error}
use Rattle.amqp_base.specs.declared.error.Error.TheVariants.{SequenceLengthMismatch}
use Rattle.amqp_base.specs.declared.format_code.EncodingCodes.{EncodingCodes}
use Rattle.amqp_base.specs.declared.format_code.EncodingCodes.TheVariants.{Null}
use Rattle.amqp_base.specs.Item.{Item, scalar, null}
use Rattle.amqp_base.specs.Meaning.{Meaning}
use Rattle.amqp_base.specs.Parse.{Parsed, ◌>>=◌, byte_under, any_code, with_rest, behind_byte, item_at, list_data}
use Rattle.amqp_base.specs.Refusing.{Refusing, awaited_count, opened_refusal}
use Rattle.amqp_base.specs.Wire.{Constructor, bare, under, Wire, lenient}
use Rattle.amqp_read.specs.Reading.{Takes}
use Rattle.amqp_data.specs.Excuses.{Excused}
use Rattle.amqp_data.specs.Parts.{HasParts}
use Rattle.amqp_data.proofs.Readings.{behind, excused_before, excused_more}
use Rattle.amqp_de.specs.Access.{Listing, Opens, OpensExactly, OpensNot, Part, PartNamed, Plain}
use Rattle.amqp_de.specs.Decoding.{Decoding, stands_under}
use Rattle.amqp_de.specs.Law.{Front, Named}
use Rattle.amqp_base.specs.Leading.{of_at_most, leading_data, leading_part_refusal, leading_refusal}
use Rattle.amqp_de.specs.ReadLeading.{before_null, behind_null, ReadsNull, LeadingNamed}
use Rattle.amqp_de.proofs.LeftOut.{is_null_there}
use Rattle.amqp_de.proofs.NamedParts.{plain_on, part_told, reaches_start, refused_behind, stands_bare}

suc_of : (n : ℕ) → 0 < n → (k : ℕ) × (n ≡ suc k)
suc_of zero h = absurd (omega (arith, h))
suc_of (suc k) h = (k, refl)

module _ {t : Item → Bool} {r : Refusing} {bs : List Bool} {ts : List (Item → Bool)} {rs : List {1} Refusing} {a b buffers : Bool} {old : Listing} {last : Decoding} {e : Error} where
  -- the first field had its value before
  pub named_had : (IsTrue a → IsTrue b) → LeadingNamed bs ts rs a buffers old last e → LeadingNamed (false ∷ bs) (t ∷ ts) (r ∷ rs) b buffers old last e
  named_had g n = record { why = λ l x s at h. tell s (n.why l x s at h) }
    where
      tell : (s : List ℕ) → leading_part_refusal bs ts rs old.left s e ⊎ Excused a buffers old.state.reading last.reading e → leading_part_refusal (false ∷ bs) (t ∷ ts) (r ∷ rs) old.left s e ⊎ Excused b buffers old.state.reading last.reading e
      tell s (inl p) = inl p
      tell s (inr y) = inr (excused_more old.state.reading last.reading e g y)

  -- its element was refused
  pub named_refused : (next : Listing) → (old.state.ended ≡ false → 0 < old.left) → (IsTrue a → IsTrue b) → last.reading ≡ next.state.reading → PartNamed t r a buffers old next e → LeadingNamed (true ∷ bs) (t ∷ ts) (r ∷ rs) b buffers old last e
  named_refused next some g same n = record {
    why = λ l x s at h. let k = suc_of old.left (some x) in tell k.0 k.1 s (part_told old next last e (λ rest. r bare rest e) l x same (λ rest p. p) n s at h);
  }
    where
      tell : (k : ℕ) → old.left ≡ suc k → (s : List ℕ) → r bare s e ⊎ Excused a buffers old.state.reading last.reading e → leading_part_refusal (true ∷ bs) (t ∷ ts) (r ∷ rs) old.left s e ⊎ Excused b buffers old.state.reading last.reading e
      tell k left s (inl p) = rw left (inl (inl p))
      tell k left s (inr y) = inr (excused_more old.state.reading last.reading e g y)

  -- it was read, and what follows it refused
  pub named_behind : {means : Item → Type 0} (mid : Listing) → (IsTrue a → IsTrue b) → Part t means old mid → LeadingNamed bs ts rs a buffers mid last e → LeadingNamed (true ∷ bs) (t ∷ ts) (r ∷ rs) b buffers old last e
  named_behind {means} mid g p n = record {
    why = λ l x s at h.
        let y = behind old.state.reading mid.state.reading s p.front.text p.front.step at in
        let w : Wire lenient bare p.front.text p.front.item = subst (λ (c : Constructor). Wire lenient c p.front.text p.front.item) (stands_bare old.state l.inherited) p.front.spelled in
        tell s y.0 y.2 w (n.why (plain_on old mid l p) p.front.not_ended y.0 y.1 (p.front.step.steady.honest ∙ h));
  }
    where
      tell : (s rest : List ℕ) → s ≡ p.front.text ++ rest → Wire lenient bare p.front.text p.front.item → leading_part_refusal bs ts rs mid.left rest e ⊎ Excused a buffers mid.state.reading last.reading e
          → leading_part_refusal (true ∷ bs) (t ∷ ts) (r ∷ rs) old.left s e ⊎ Excused b buffers old.state.reading last.reading e
      tell s rest split w (inl q) = rw p.left (inl (inr (record { item = p.front.item; text = p.front.text; rest = rest; spelled = w; taken = p.front.taken; split = split; behind = q })))
      tell s rest split w (inr y) = inr (excused_before old.state.reading mid.state.reading last.reading p.front.text e p.front.step (excused_more mid.state.reading last.reading e g y))

  -- null in its place was refused
  pub named_null_refused : (at_null : Decoding) → old.left ≡ 0 → (IsTrue a → IsTrue b) → last.reading ≡ at_null.reading → Named r a buffers (before_null old.state) at_null e → LeadingNamed (true ∷ bs) (t ∷ ts) (r ∷ rs) b buffers old last e
  named_null_refused at_null z g same n = record { why = λ l x s at h. tell s (n.why x s at h) }
    where
      tell : (s : List ℕ) → r (under Null) s e ⊎ Excused a buffers old.state.reading at_null.reading e → leading_part_refusal (true ∷ bs) (t ∷ ts) (r ∷ rs) old.left s e ⊎ Excused b buffers old.state.reading last.reading e
      tell s (inl p) = rw z (inl (inl p))
      tell s (inr y) = inr (rw same (excused_more old.state.reading at_null.reading e g y))

  -- null was read in its place, and what follows it refused
  pub named_null_behind : {means : Item → Type 0} (mid : Listing) (at_null : Decoding) → old.left ≡ 0 → (IsTrue a → IsTrue b) → (f : Front t means (before_null old.state) at_null) → mid ≡ record old { state = behind_null old.state at_null } → LeadingNamed bs ts rs a buffers mid last e
      → LeadingNamed (true ∷ bs) (t ∷ ts) (r ∷ rs) b buffers old last e
  named_null_behind {means} mid at_null z g f same n = record {
    why = λ l x s at h.
        let y = behind old.state.reading at_null.reading s [] nothing at in
        let m : LeadingNamed bs ts rs a buffers (record old { state = behind_null old.state at_null }) last e = rw same at n in
        tell s y.0 y.2 (m.why (record { inherited = l.inherited; limit = l.limit }) f.not_ended y.0 y.1 (nothing.steady.honest ∙ h));
  }
    where
      there : (f.text ≡ []) × (f.item ≡ scalar null)
      there = is_null_there (under Null) f.text f.item refl f.spelled

      nothing : Takes old.state.reading at_null.reading []
      nothing = rw there.0 at f.step

      taken : IsTrue (t (scalar null))
      taken = rw there.1 at f.taken

      tell : (s rest : List ℕ) → s ≡ rest → leading_part_refusal bs ts rs old.left rest e ⊎ Excused a buffers at_null.reading last.reading e → leading_part_refusal (true ∷ bs) (t ∷ ts) (r ∷ rs) old.left s e ⊎ Excused b buffers old.state.reading last.reading e
      tell s rest split (inl q) = rw (z, split) (inl (inr (taken, rw z at q)))
      tell s rest split (inr y) = inr (excused_before old.state.reading at_null.reading last.reading [] e nothing (excused_more at_null.reading last.reading e g y))

-- ---- the whole list

-- the number of elements is looked at once the list's own header was read
leading_item : (len : ℕ) (c : Constructor) (s : List ℕ) → item_at (leading_data len) c s ≡ (item_at list_data c s >>= λ n. of_at_most len n.0 n.1)
unfolding leading_data
leading_item len c s = at_byte (byte_under c s)
  where
    at_code : (s : List ℕ) (r : Result EncodingCodes Error) → (with_rest s r >>= λ e. leading_data len e.0 e.1) ≡ ((with_rest s r >>= λ e. list_data e.0 e.1) >>= λ n. of_at_most len n.0 n.1)
    at_code s (Ok e) = refl
    at_code s (Err e) = refl

    at_byte : (p : Parsed ℕ) → (p >>= λ b. behind_byte (leading_data len) b.0 b.1) ≡ ((p >>= λ b. behind_byte list_data b.0 b.1) >>= λ n. of_at_most len n.0 n.1)
    at_byte (Ok x) = at_code x.1 (any_code x.0)
    at_byte (Err e) = refl

at_most_is : (len n : ℕ) (s : List ℕ) → n ≤ len → of_at_most len n s ≡ Ok (n, s)
at_most_is len n s h = rw (le-ltb len n h) refl

above_is : (len n : ℕ) (s : List ℕ) → len < n → of_at_most len n s ≡ Err SequenceLengthMismatch
above_is len n s h = rw (lt-ltb len n h) refl

leading_exactly : (len : ℕ) (old : Decoding) (l : Listing) → OpensExactly list_data old l → l.left ≤ len → OpensExactly (leading_data len) old l
leading_exactly len old l o h = record {
  exact = λ s at.
      let p = o.exact s at in
      (p.0, p.1, leading_item len (stands_under old) s ∙ (ap (λ (x : Parsed ℕ). x >>= λ n. of_at_most len n.0 n.1) p.2 ∙ at_most_is len l.left p.0 h));
}

module _ (awaited : List Bool) (takes : List (Item → Bool)) (refuses : List {1} Refusing) (grows buffers : Bool) (old last : Decoding) where
  -- no list was opened
  pub leading_unopened_as : {memory : Bool} (e : Error) → (IsTrue memory → IsTrue grows) → OpensNot HasParts list_data memory buffers old last e → Named (leading_refusal awaited takes refuses) grows buffers old last e
  unfolding opened_refusal
  leading_unopened_as {memory} e g o = record { why = λ a s at h. tell s ((o.rejects a).why s at h) }
    where
      tell : (s : List ℕ) → (item_at list_data (stands_under old) s ≡ Err e) ⊎ Excused memory buffers old.reading last.reading e
          → leading_refusal awaited takes refuses (stands_under old) s e ⊎ Excused grows buffers old.reading last.reading e
      tell s (inl p) = inl (inl (leading_item (awaited_count awaited) (stands_under old) s ∙ ap (λ (x : Parsed ℕ). x >>= λ n. of_at_most (awaited_count awaited) n.0 n.1) p))
      tell s (inr y) = inr (excused_more old.reading last.reading e g y)

  -- it has more elements than there are fields
  pub leading_of_more : (l : Listing) → OpensExactly list_data old l → awaited_count awaited < l.left → Named (leading_refusal awaited takes refuses) grows buffers old last SequenceLengthMismatch
  unfolding opened_refusal
  leading_of_more l x n = record {
    why = λ a s at h.
        let z = x.exact s at in
        inl (inl (leading_item (awaited_count awaited) (stands_under old) s ∙ (ap (λ (y : Parsed ℕ). y >>= λ n. of_at_most (awaited_count awaited) n.0 n.1) z.2 ∙ above_is (awaited_count awaited) l.left z.0 n)));
  }

  -- a field was refused
  pub leading_named : (e : Error) (l : Listing) → Opens HasParts old l → OpensExactly list_data old l → Plain l → l.left ≤ awaited_count awaited → LeadingNamed awaited takes refuses grows buffers l last e → Named (leading_refusal awaited takes refuses) grows buffers old last e
  leading_named e l o x plain k n =
      refused_behind (leading_data (awaited_count awaited)) (leading_part_refusal awaited takes refuses) grows buffers old last e l l (λ m. m) (leading_exactly (awaited_count awaited) old l x k) o.step (reaches_start (leading_part_refusal awaited takes refuses) l plain)
      (λ rest at h. n.why plain o.not_ended rest at h)

-- ---- what callers say of null that was read in the place of an element

module _ {T : Type 0} {m : Meaning T} {bs : List Bool} {ts : List (Item → Bool)} {rs : List {1} Refusing} {a b buffers : Bool} {e : Error} (before now next : Listing) {last : Decoding} where
  pub named_null : {x : T} → (IsTrue a → IsTrue b) → now ≡ before → now.left ≡ 0 → now.state.ended ≡ false → ReadsNull m x now.state next.state → next ≡ record now { state = next.state } → LeadingNamed bs ts rs a buffers next last e
      → LeadingNamed (true ∷ bs) (m.takes ∷ ts) (m.refuses ∷ rs) b buffers before last e
  named_null g was z u r same n = rw (← was) (named_null_behind {old = now} next r.last z g (r.found.front u) (same ∙ ap (λ (d : Decoding). record now { state = d }) r.is) n)
