-- Refusals by name, of rows of fields.
use Rattle.std.proofs.Common.{◌≡◌, ℕ, ◌+◌, ◌≤◌, Bool, true, false, IsTrue, List, ◌∷◌, ◌++◌, Err, ap, subst, ◌∙◌, arith, inl, inr, ◌⊎◌}
use Rattle.amqp_base.specs.declared.error.Error.{Error}
use Rattle.amqp_base.specs.declared.error.Error.TheVariants.{SequenceLengthMismatch}
use Rattle.amqp_base.specs.Item.{Item}
use Rattle.amqp_base.specs.Wire.{Constructor, bare, Wire, lenient}
use Rattle.amqp_base.specs.Parse.{Parsed, ◌>>=◌, item_at, list_data, of_length, tuple_data}
use Rattle.amqp_base.specs.Refusing.{Refusing, awaited_count, row_part_refusal, opened_refusal, row_refusal}
use Rattle.amqp_de.specs.Decoding.{Decoding, stands_under}
use Rattle.amqp_data.specs.Excuses.{Excused}
use Rattle.amqp_de.specs.Law.{Named}
use Rattle.amqp_de.specs.Access.{Listing, Opens, OpensExactly, OpensNot, Part, PartNamed, Plain}
use Rattle.amqp_data.specs.Parts.{HasParts}
use Rattle.amqp_de.specs.ReadFields.{ElementsNamed}
use Rattle.amqp_de.proofs.JustSoMany.{tuple_item, tuple_exactly, other_length}
use Rattle.amqp_de.proofs.NamedParts.{plain_on, part_told, reaches_start, refused_behind, stands_bare}
use Rattle.amqp_data.proofs.Readings.{behind, excused_before, excused_more}

module _ {t : Item → Bool} {r : Refusing} {bs : List Bool} {ts : List (Item → Bool)} {rs : List {1} Refusing} {a b buffers : Bool} {old : Listing} {last : Decoding} {e : Error} where
  -- the first field had its value before
  pub elements_had : (IsTrue a → IsTrue b) → ElementsNamed bs ts rs a buffers old last e → ElementsNamed (false ∷ bs) (t ∷ ts) (r ∷ rs) b buffers old last e
  elements_had g n = record { why = λ l x k s at h. tell s (n.why l x k s at h) }
    where
      tell : (s : List ℕ) → row_part_refusal bs ts rs s e ⊎ Excused a buffers old.state.reading last.reading e → row_part_refusal (false ∷ bs) (t ∷ ts) (r ∷ rs) s e ⊎ Excused b buffers old.state.reading last.reading e
      tell s (inl p) = inl p
      tell s (inr y) = inr (excused_more old.state.reading last.reading e g y)

  -- its element was refused
  pub element_refused : (next : Listing) → (IsTrue a → IsTrue b) → last.reading ≡ next.state.reading → PartNamed t r a buffers old next e → ElementsNamed (true ∷ bs) (t ∷ ts) (r ∷ rs) b buffers old last e
  element_refused next g same n = record {
    why = λ l x k s at h. tell s (part_told old next last e (λ rest. r bare rest e) l x same (λ rest p. p) n s at h);
  }
    where
      tell : (s : List ℕ) → r bare s e ⊎ Excused a buffers old.state.reading last.reading e → row_part_refusal (true ∷ bs) (t ∷ ts) (r ∷ rs) s e ⊎ Excused b buffers old.state.reading last.reading e
      tell s (inl p) = inl (inl p)
      tell s (inr y) = inr (excused_more old.state.reading last.reading e g y)

  -- it was read, and what follows it refused
  pub elements_behind : {means : Item → Type 0} (mid : Listing) → (IsTrue a → IsTrue b) → Part t means old mid → ElementsNamed bs ts rs a buffers mid last e → ElementsNamed (true ∷ bs) (t ∷ ts) (r ∷ rs) b buffers old last e
  elements_behind {means} mid g p n = record {
    why = λ l x k s at h.
        let y = behind old.state.reading mid.state.reading s p.front.text p.front.step at in
        let w : Wire lenient bare p.front.text p.front.item = subst (λ (c : Constructor). Wire lenient c p.front.text p.front.item) (stands_bare old.state l.inherited) p.front.spelled in
        let few : awaited_count bs ≤ mid.left = omega (arith, k, p.left) in
        tell s y.0 y.2 w (n.why (plain_on old mid l p) p.front.not_ended few y.0 y.1 (p.front.step.steady.honest ∙ h));
  }
    where
      tell : (s rest : List ℕ) → s ≡ p.front.text ++ rest → Wire lenient bare p.front.text p.front.item → row_part_refusal bs ts rs rest e ⊎ Excused a buffers mid.state.reading last.reading e
          → row_part_refusal (true ∷ bs) (t ∷ ts) (r ∷ rs) s e ⊎ Excused b buffers old.state.reading last.reading e
      tell s rest split w (inl q) = inl (inr (record { item = p.front.item; text = p.front.text; rest = rest; spelled = w; taken = p.front.taken; split = split; behind = q }))
      tell s rest split w (inr y) = inr (excused_before old.state.reading mid.state.reading last.reading p.front.text e p.front.step (excused_more mid.state.reading last.reading e g y))

-- there was none
pub element_none : {t : Item → Bool} {r : Refusing} {bs : List Bool} {ts : List (Item → Bool)} {rs : List {1} Refusing} {b buffers : Bool} {old : Listing} {last : Decoding} {e : Error} → old.left ≡ 0 → ElementsNamed (true ∷ bs) (t ∷ ts) (r ∷ rs) b buffers old last e
element_none z = record { why = λ l x k s at h. absurd (omega (arith, k, z)) }

-- as many were read as were there
pub none_behind : (before fields now : ℕ) → before ≡ fields + now → fields ≡ before → now ≡ 0
none_behind before fields now c k = omega (arith, c, k)

-- ---- the whole row

module _ (awaited : List Bool) (takes : List (Item → Bool)) (refuses : List {1} Refusing) (grows buffers : Bool) (old last : Decoding) where
  -- no list was opened
  pub row_unopened : {memory : Bool} (e : Error) → (IsTrue memory → IsTrue grows) → OpensNot HasParts list_data memory buffers old last e → Named (row_refusal awaited takes refuses) grows buffers old last e
  unfolding opened_refusal
  row_unopened {memory} e g o = record { why = λ a s at h. tell s ((o.rejects a).why s at h) }
    where
      tell : (s : List ℕ) → (item_at list_data (stands_under old) s ≡ Err e) ⊎ Excused memory buffers old.reading last.reading e
          → row_refusal awaited takes refuses (stands_under old) s e ⊎ Excused grows buffers old.reading last.reading e
      tell s (inl p) = inl (inl (tuple_item (awaited_count awaited) (stands_under old) s ∙ ap (λ (x : Parsed ℕ). x >>= λ n. of_length (awaited_count awaited) n.0 n.1) p))
      tell s (inr y) = inr (excused_more old.reading last.reading e g y)

  -- it has another number of elements
  pub row_of_others : (l : Listing) → OpensExactly list_data old l → (l.left ≡ awaited_count awaited → ⊥) → Named (row_refusal awaited takes refuses) grows buffers old last SequenceLengthMismatch
  unfolding opened_refusal
  row_of_others l x n = record {
    why = λ a s at h.
        let z = x.exact s at in
        inl (inl (tuple_item (awaited_count awaited) (stands_under old) s ∙ (ap (λ (y : Parsed ℕ). y >>= λ n. of_length (awaited_count awaited) n.0 n.1) z.2 ∙ other_length (awaited_count awaited) l.left z.0 n)));
  }

  -- an element was refused
  pub row_named : (e : Error) (l : Listing) → Opens HasParts old l → OpensExactly list_data old l → Plain l → l.left ≡ awaited_count awaited → ElementsNamed awaited takes refuses grows buffers l last e → Named (row_refusal awaited takes refuses) grows buffers old last e
  row_named e l o x plain k n =
      let few : awaited_count awaited ≤ l.left = omega (arith, k) in
      refused_behind (tuple_data (awaited_count awaited)) (λ _. row_part_refusal awaited takes refuses) grows buffers old last e l l (λ m. m) (tuple_exactly (awaited_count awaited) old l x k) o.step (reaches_start (λ _. row_part_refusal awaited takes refuses) l plain)
      (λ rest at h. n.why plain o.not_ended few rest at h)
