-- Elements that are read many at a time.
use Rattle.std.proofs.Common.{◌≡◌, ℕ, ◌+◌, ◌<◌, ◌≤◌, Bool, true, false, IsTrue, nat_eq, inl, inr, List, [], ◌∷◌, ◌++◌, length, length-take, suc, slice_index_or, take, drop, Option, Some, None, refl, sym, ap, subst, ◌∙◌, arith, append_assoc}
use Rattle.std.proofs.lemmas.List.{length-append, append-nil, drop-drop, take-take}
use Rattle.std.proofs.Math.Seq.{take-add, take-append_seam}
use Rattle.std.proofs.lemmas.Bool.Decides.{eqb_tells}
use Rattle.std.specs.Io.KnownBytes.{Consumes}
use Rattle.amqp_base.specs.declared.format_code.EncodingCodes.{EncodingCodes}
use Rattle.amqp_base.specs.Codes.{code_of, row}
use Rattle.amqp_base.specs.declared.format_code.Category.TheVariants.{Fixed}
use Rattle.amqp_base.specs.Item.{Item, items, Scalar, scalar}
use Rattle.amqp_base.specs.Value.{payload}
use Rattle.amqp_data.proofs.FixedWidth.{fixed_spells}
use Rattle.amqp_data.proofs.Readings.{takes_then}
use Rattle.amqp_data.specs.Steps.{IsData}
use Rattle.amqp_base.specs.Laws.{items_under}
use Rattle.amqp_base.specs.Meaning.{Meaning}
use Rattle.amqp_base.specs.Wire.{Constructor, bare, under, under_pair, of_code}
use Rattle.amqp_read.specs.Reading.{Reading, Agree, Takes}
use Rattle.amqp_read.specs.Steps.{StartsWith, Shows, Passes}
use Rattle.amqp_de.specs.Decoding.{stands_under, behind_descriptor}
use Rattle.amqp_data.specs.Parts.{Within}
use Rattle.amqp_de.specs.Access.{Listing, Part}
use Rattle.amqp_de.specs.Many.{AreRead, IsElement, AreElements, PutBehind}
use Rattle.amqp_de.proofs.PartsRead.{within_less}
use Rattle.amqp_de.proofs.Sequence.{Sofar, sofar_step}
use Rattle.amqp_de.proofs.NamedElements.{Reach, reach_step}

-- ---- bytes that were consumed at once, as consumed one part after the other

-- these in front of the known bytes
abbrev ahead : List ℕ → Option (List ℕ) → Option (List ℕ)
ahead b None = None
ahead b (Some s) = Some (b ++ s)

-- where a was consumed of a ++ b
abbrev pub halfway : Reading → Reading → List ℕ → List ℕ → Reading
halfway old new a b = record {
  to_come = ahead b new.to_come;
  taken = old.taken + length a;
  received = drop (length a) old.received;
  faults = new.faults;
  last_fault = new.last_fault;
  honest = new.honest;
  origin = new.origin;
}

consumed_first : (k l : Option (List ℕ)) (a b : List ℕ) → Consumes k l (a ++ b) → Consumes k (ahead b l) a
consumed_first None l a b h = tt
consumed_first (Some s) None a b h = absurd h
consumed_first (Some s) (Some t) a b h = h ∙ append_assoc a b t

consumed_then : (l : Option (List ℕ)) (b : List ℕ) → Consumes (ahead b l) l b
consumed_then None b = tt
consumed_then (Some t) b = refl

agree_first : (s a b : List ℕ) → Agree s (a ++ b) → Agree s a
agree_first [] a b h = tt
agree_first (x ∷ s) [] b h = tt
agree_first (x ∷ s) (y ∷ a) b h = (h.0, agree_first s a b h.1)

agree_rest : (s a b : List ℕ) → Agree s (a ++ b) → Agree (drop (length a) s) b
agree_rest s [] b h = h
agree_rest [] (y ∷ a) b h = tt
agree_rest (x ∷ s) (y ∷ a) b h = agree_rest s a b h.1

drop_two : (s a b : List ℕ) → drop (length (a ++ b)) s ≡ drop (length b) (drop (length a) s)
drop_two s a b = ap (λ n. drop n s) (length-append a b) ∙ sym (drop-drop (length b) (length a) s)

takes_first : (old new : Reading) (a b : List ℕ) → Takes old new (a ++ b) → Takes old (halfway old new a b) a
takes_first old new a b t = record {
  to_come = consumed_first old.to_come new.to_come a b t.to_come;
  taken = refl;
  received = refl;
  agrees = agree_first old.received a b t.agrees;
  steady = record { honest = t.steady.honest; origin = t.steady.origin; faults = t.steady.faults; taken = omega arith };
}

takes_rest : (old new : Reading) (a b : List ℕ) → Takes old new (a ++ b) → Takes (halfway old new a b) new b
takes_rest old new a b t = record {
  to_come = consumed_then new.to_come b;
  taken = omega (arith, t.taken, length-append a b);
  received = t.received ∙ drop_two old.received a b;
  agrees = agree_rest old.received a b t.agrees;
  steady = record { honest = refl; origin = refl; faults = omega arith; taken = omega (arith, t.taken, length-append a b) };
}

-- ---- elements under one constructor

-- from one state to another by n such elements
pub record Moves (c : Constructor) (b : List ℕ) (n : ℕ) (old new : Listing) : Type 0 where
  pub step : Takes old.state.reading new.state.reading b
  pub stands : old.state.inherited ≡ c
  -- it has no descriptor
  pub alone : (d : Bool) → behind_descriptor c d ≡ c
  pub answers : new.state.ended ≡ false
  pub inherited : new.state.inherited ≡ old.state.inherited
  pub described : new.state.described ≡ false
  pub begun : new.state.begun ≡ old.state.begun + n
  pub left : old.left ≡ n + new.left
  pub outer : new.outer ≡ old.outer
  pub limit : new.limit ≡ old.limit
  pub within : Within old.limit new.state.reading.taken

one_item : (c : Constructor) → ((d : Bool) → behind_descriptor c d ≡ c) → (x : Item) → items x ≡ 1 → items_under c x ≡ 1
one_item bare h x one = one
one_item (under e) h x one = one
one_item (under_pair d e) h x one = let no : under e ≡ under_pair d e = h true in absurd cc

one_part : {T : Type 0} (m : Meaning T) (c : Constructor) (b : List ℕ) (v : T) (old new : Listing) → IsElement m c b v → Moves c b 1 old new → Part m.takes (λ i. m.means i v) old new
one_part m c b v old new i k =
    let here : stands_under old.state ≡ c = ap (λ x. behind_descriptor x old.state.described) k.stands ∙ k.alone old.state.described in
    let one = one_item c k.alone i.item i.one in
    record {
      front = record {
        item = i.item;
        text = b;
        spelled = rw here i.spelled;
        taken = i.taken;
        value = i.value;
        step = k.step;
        not_ended = k.answers;
        inherited = k.inherited;
        described = k.described;
        begun = rw here (omega (arith, k.begun, one));
      };
      within = k.within;
      spent = rw here record { most = let some = i.some in omega (arith, k.begun, k.step.taken, some) };
      left = omega (arith, k.left);
      outer = k.outer;
      limit = k.limit;
    }

-- behind the first of them
mid_of : (old new : Listing) (a b : List ℕ) (n : ℕ) → Listing
mid_of old new a b n = record {
  state = record {
    reading = halfway old.state.reading new.state.reading a b;
    ended = false;
    inherited = old.state.inherited;
    described = false;
    begun = old.state.begun + 1;
  };
  left = n + new.left;
  outer = old.outer;
  limit = old.limit;
}

are_read : {T : Type 0} (m : Meaning T) (c : Constructor) (v : T) (vs : List T) (b : List ℕ) (old new : Listing) → AreElements m c b (v ∷ vs) → Moves c b (length (v ∷ vs)) old new → AreRead m old (v ∷ vs) new
unfolding mid_of
are_read m c v [] b old new h k =
    let whole : b ≡ h.0 = h.2 ∙ (ap (λ x. h.0 ++ x) h.4 ∙ append-nil h.0) in
    (new, one_part m c h.0 v old new h.3 (subst (λ x. Moves c x 1 old new) whole k), refl)
are_read m c v (x ∷ vs) b old new h k =
    let n = length (x ∷ vs) in
    let t : Takes old.state.reading new.state.reading (h.0 ++ h.1) = subst (λ y. Takes old.state.reading new.state.reading y) h.2 k.step in
    let mid = mid_of old new h.0 h.1 n in
    let first : Moves c h.0 1 old mid = record {
      step = takes_first old.state.reading new.state.reading h.0 h.1 t;
      stands = k.stands;
      alone = k.alone;
      answers = refl;
      inherited = refl;
      described = refl;
      begun = refl;
      left = omega (arith, k.left);
      outer = refl;
      limit = refl;
      within = within_less old.limit _ new.state.reading.taken (omega (arith, t.taken, length-append h.0 h.1)) k.within;
    } in
    let others : Moves c h.1 n mid new = record {
      step = takes_rest old.state.reading new.state.reading h.0 h.1 t;
      stands = k.stands;
      alone = k.alone;
      answers = k.answers;
      inherited = k.inherited;
      described = k.described;
      begun = omega (arith, k.begun);
      left = refl;
      outer = k.outer;
      limit = k.limit;
      within = k.within;
    } in
    (mid, one_part m c h.0 v old mid h.3 first, are_read m c x vs h.1 mid new h.4 others)

pub all_read : {T : Type 0} (m : Meaning T) (c : Constructor) (n : ℕ) (vs : List T) (b : List ℕ) (old new : Listing) → AreElements m c b vs → length vs ≡ n → (n ≡ 0 → ⊥) → Moves c b n old new → AreRead m old vs new
all_read m c n [] b old new h l some k = absurd (some (sym l))
all_read m c n (v ∷ vs) b old new h l some k = are_read m c v vs b old new h (subst (λ x. Moves c b x old new) (sym l) k)

-- one more behind them
elements_last : {T : Type 0} (m : Meaning T) (c : Constructor) (b d : List ℕ) (vs : List T) (v : T) → AreElements m c b vs → IsElement m c d v → AreElements m c (b ++ d) (vs ++ v ∷ [])
elements_last m c b d [] v h i = (d, [], ap (λ x. x ++ d) h ∙ sym (append-nil d), i, refl)
elements_last m c b d (x ∷ vs) v h i = (h.0, h.1 ++ d, ap (λ y. y ++ d) h.2 ∙ append_assoc h.0 h.1 d, h.3, elements_last m c h.1 d vs v h.4 i)

-- the text of one more value stands behind those at the front
pub put_more : {T : Type 0} (m : Meaning T) (c : Constructor) (k at n end : ℕ) (b : List ℕ) (before items after : List T) (v : T) → PutBehind m c (take at b) k before items → end ≡ at + n → IsElement m c (take n (drop at b)) v → after ≡ items ++ v ∷ []
    → PutBehind m c (take end b) (k + 1) before after
put_more m c k at n end b before items after v p ends i is = record {
  values = p.values ++ v ∷ [];
  meant = subst (λ x. AreElements m c x (p.values ++ v ∷ [])) (sym (ap (λ l. take l b) ends ∙ take-add at n b)) (elements_last m c (take at b) _ p.values v p.meant i);
  many = let len = length-append p.values (v ∷ []) in omega (arith, len, p.many);
  items = is ∙ (ap (λ xs. xs ++ v ∷ []) p.items ∙ append_assoc before p.values (v ∷ []));
}

-- ---- a number with its own constructor

-- its code, and n bytes of data
pub behind_code : {T : Type 0} (m : Meaning T) (e : EncodingCodes) (n x : ℕ) (b : List ℕ) (v : T) → code_of x ≡ Some e → slice_index_or b 0 0 ≡ x → 0 < length b → IsElement m (under e) (take n (drop 1 b)) v → IsElement m bare (take (suc n) b) v
behind_code m e n x [] v c h l i = absurd (omega (arith, l))
behind_code m e n x (y ∷ ys) v c h l i = record {
  item = i.item;
  spelled = of_code (ap code_of h ∙ c) i.spelled;
  taken = i.taken;
  value = i.value;
  one = i.one;
  some = omega arith;
}

-- another byte, as the code compares it
pub other_byte : (x y : ℕ) → (x ≡ y → ⊥) → nat_eq x y ≡ false
other_byte x y n = elim (eqb_tells x y) [ inl t ↦ absurd (n t.1) | inr t ↦ t.0 ]

-- the byte behind the code
pub second : (b : List ℕ) → 2 ≤ length b → take 1 (drop 1 b) ≡ slice_index_or b 1 0 ∷ []
second [] l = absurd (omega (arith, l))
second (x ∷ []) l = absurd (omega (arith, l))
second (x ∷ y ∷ b) l = refl

-- a number behind a code of its own, with one byte of data or none
module _ {T : Type 0} (m : Meaning T) (e : EncodingCodes) (x : ℕ) (s : Scalar) (v : T) (b : List ℕ) where
  pub one_byte : code_of x ≡ Some e → slice_index_or b 0 0 ≡ x → 2 ≤ length b → (row e).category ≡ Fixed 1 → payload e (slice_index_or b 1 0 ∷ []) ≡ Some s → IsTrue (m.takes (scalar s)) → m.means (scalar s) v → IsElement m bare (take 2 b) v
  one_byte c h l k p t a = behind_code m e 1 x b v c h (omega (arith, l)) (rw (second b l) record {
    item = scalar s;
    spelled = fixed_spells e 1 (slice_index_or b 1 0 ∷ []) s k refl p;
    taken = t;
    value = a;
    one = refl;
    some = omega arith;
  })

  pub no_byte : code_of x ≡ Some e → slice_index_or b 0 0 ≡ x → 0 < length b → (row e).category ≡ Fixed 0 → payload e [] ≡ Some s → IsTrue (m.takes (scalar s)) → m.means (scalar s) v → IsElement m bare (take 1 b) v
  no_byte c h l k p t a = behind_code m e 0 x b v c h l record { item = scalar s; spelled = fixed_spells e 0 [] s k refl p; taken = t; value = a; one = refl; some = omega arith }

-- ---- an item without parts at the front of bytes in memory

consumed_front : (l : Option (List ℕ)) (b t : List ℕ) → Consumes (Some b) l t → take (length t) b ≡ t
consumed_front None b t c = absurd c
consumed_front (Some rest) b t c = ap (take (length t)) c ∙ take-append_seam t rest

pub leaf_at_front : {T : Type 0} (m : Meaning T) (s : Scalar) (v : T) (b : List ℕ) (x : ℕ) (from mid to : Reading) → from.to_come ≡ Some b → from.taken ≡ 0 → Takes from mid (x ∷ []) → IsData x (scalar s) mid to
    → IsTrue (m.takes (scalar s)) → m.means (scalar s) v → IsElement m bare (take to.taken b) v
leaf_at_front m s v b x from mid to whole start t d k a =
    let text = x ∷ d.text in
    let u = takes_then from mid to (x ∷ []) d.text t d.step in
    let front : take (length text) b ≡ text = consumed_front to.to_come b text (subst (λ (o : Option (List ℕ)). Consumes o to.to_come text) whole u.to_come) in
    let n : to.taken ≡ length text = omega (arith, u.taken, start) in
    let same : take to.taken b ≡ text = ap (λ i. take i b) n ∙ front in
    subst (λ (y : List ℕ). IsElement m bare y v) (sym same) record { item = scalar s; spelled = of_code d.code_is d.spelled; taken = k; value = a; one = refl; some = omega arith }

-- ---- bytes that were shown, and then consumed

agree_take : (s t : List ℕ) → Agree s t → length t ≤ length s → take (length t) s ≡ t
agree_take s [] h l = refl
agree_take [] (y ∷ t) h l = absurd (omega (arith, l))
agree_take (x ∷ s) (y ∷ t) h l = rw h.0 (ap (λ z. y ∷ z) (agree_take s t h.1 (omega (arith, l))))

front_of : (s b t : List ℕ) → take (length b) s ≡ b → take (length t) s ≡ t → length t ≤ length b → t ≡ take (length t) b
front_of s b t h k l = sym k ∙ (sym (take-take (length t) (length b) s l) ∙ ap (take (length t)) h)

shown_front : (k l : Option (List ℕ)) (received b t : List ℕ) → StartsWith k received b → Consumes k l t → Agree received t → length t ≤ length b → t ≡ take (length t) b
shown_front None l received b t h c a le =
    let long : length b ≤ length received = let e : length (take (length b) received) ≡ length b = ap length h in let n = length-take (length b) received in omega (arith, n, e) in
    front_of received b t h (agree_take received t a (omega (arith, long, le))) le
shown_front (Some s) None received b t h c a le = absurd c
shown_front (Some s) (Some u) received b t h c a le = front_of s b t h (ap (take (length t)) c ∙ take-append_seam t u) le

shown_taken : (old new : Reading) (b t : List ℕ) → Shows old b → Takes old new t → length t ≤ length b → t ≡ take (length t) b
shown_taken old new b t h k le = shown_front old.to_come new.to_come old.received b t h k.to_come k.agrees le

pub shown_passed : (n : ℕ) (old new : Reading) (b : List ℕ) → Shows old b → (p : Passes n old new) → n ≤ length b → p.bytes ≡ take n b
shown_passed n old new b h p le = shown_taken old new b p.bytes h p.step (omega (arith, p.len, le)) ∙ ap (λ l. take l b) p.len

-- ---- in a loop over the elements

module _ {T : Type 0} (m : Meaning T) (from : Listing) where
  pub sofar_many : (now next : Listing) (ws vs : List T) → Sofar m.takes m.means from now ws → AreRead m now vs next → Sofar m.takes m.means from next (ws ++ vs)
  sofar_many now next ws [] s h = rw (append-nil ws) (subst (λ l. Sofar m.takes m.means from l ws) (sym h) s)
  sofar_many now next ws (v ∷ vs) s h = subst (λ l. Sofar m.takes m.means from next l) (append_assoc ws (v ∷ []) vs) (sofar_many h.0 next (ws ++ v ∷ []) vs (sofar_step m.takes m.means from now h.0 ws v s h.1) h.2)

  pub reach_many : (now next : Listing) (ws vs : List T) → Sofar m.takes m.means from now ws → Reach m.takes m.refuses from now → AreRead m now vs next → Reach m.takes m.refuses from next
  reach_many now next ws [] s r h = subst (λ l. Reach m.takes m.refuses from l) (sym h) r
  reach_many now next ws (v ∷ vs) s r h = reach_many h.0 next (ws ++ v ∷ []) vs (sofar_step m.takes m.means from now h.0 ws v s h.1) (reach_step m.takes m.refuses from now h.0 s.reads r h.1) h.2
