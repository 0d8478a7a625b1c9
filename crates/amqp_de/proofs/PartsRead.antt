-- The parts of an item, one after the other.
use Rattle.std.proofs.Common.{◌≡◌, ℕ, suc, ◌+◌, ◌<◌, ◌≤◌, Bool, true, false, ◌&&◌, List, [], ◌++◌, length, Option, Some, None, Err, refl, sym, ap, subst, ◌∙◌, arith, inl, inr, ◌⊎◌, append_assoc, IsTrue}
use Rattle.std.proofs.lemmas.List.{length-append, append-nil}
use Rattle.amqp_base.specs.declared.error.Error.{Error}
use Rattle.amqp_base.specs.declared.error.Error.TheVariants.{InvalidValue, OutOfMemory, SequenceLengthMismatch}
use Rattle.amqp_base.specs.Item.{Item, Items, none, more, count}
use Rattle.amqp_base.specs.Wire.{Constructor, bare, under, under_pair, Wire, lenient, Parts, no_part, part}
use Rattle.amqp_base.specs.Laws.{items_under}
use Rattle.amqp_base.specs.Refusals.{IsDevice}
use Rattle.amqp_base.proofs.Lists.{rest}
use Rattle.amqp_base.proofs.OneFront.{same_wire}
use Rattle.amqp_de.specs.Decoding.{Decoding, stands_under, behind_descriptor, as_ended}
use Rattle.amqp_de.specs.Law.{Front, Found, Missed, Spent, free, refused_free}
use Rattle.amqp_data.specs.Excuses.{Excused, Advances, no_memory}
use Rattle.amqp_de.specs.Access.{Listing, Opens, OpensNot, Part, NoPart, Ends, behind_end}
use Rattle.amqp_data.specs.Parts.{Within, items_of_all, cost}
use Rattle.amqp_de.specs.ReadParts.{PartsRead, and_last, joined}
use Rattle.amqp_base.specs.Parse.{Parsed}
use Rattle.amqp_base.specs.declared.format_code.EncodingCodes.{EncodingCodes}
use Rattle.amqp_data.proofs.Readings.{takes_nothing, advances_then, onward, takes_then, behind, excused_before, excused_more}
use Rattle.amqp_de.proofs.Answered.{free_refused, one_refused}

pub both : (a b : Bool) → IsTrue a → IsTrue b → IsTrue (a && b)
both a b p q = rw (p, q) refl

pub left_of : (a b : Bool) → IsTrue (a && b) → IsTrue a
left_of true b p = refl
left_of false b p = absurd cc

pub right_of : (a b : Bool) → IsTrue (a && b) → IsTrue b
right_of true b p = p
right_of false b p = absurd cc

pub within_less : (l : Option ℕ) (m n : ℕ) → m ≤ n → Within l n → Within l m
within_less None m n h w = tt
within_less (Some x) m n h w = omega (arith, h, w)

some_is : (x y : List ℕ) → Some x ≡ Some y → x ≡ y
some_is x y h = cc

pub within_all : (l : Option ℕ) (m n : ℕ) → m ≡ n → Within l n → Within l m
within_all l m n e w = rw e w

-- What is found is all that can be found: another front would be the same.
pub found_only : (takes : Item → Bool) (means : Item → Type 0) (old new : Decoding) → Front takes means old new → (i : Item) (text rest : List ℕ) → Wire lenient (stands_under old) text i → old.reading.to_come ≡ Some (text ++ rest)
    → means i × (new.reading.to_come ≡ Some rest) × (new.reading.taken ≡ old.reading.taken + length text)
found_only takes means old new f i text rest' w at =
    let k = behind old.reading new.reading (text ++ rest') f.text f.step at in
    let s = same_wire f.spelled w k.0 rest' (sym k.2) in
    (subst means s.1 f.value, k.1 ∙ ap Some (rest f.text text k.0 rest' s.0 (sym k.2)), f.step.taken ∙ ap (λ (x : List ℕ). old.reading.taken + length x) s.0)

under_is : (c : Constructor) → behind_descriptor c false ≡ c
under_is bare = refl
under_is (under e) = refl
under_is (under_pair d e) = refl

pub stands_is : (d : Decoding) → d.described ≡ false → stands_under d ≡ d.inherited
stands_is d h = ap (λ (b : Bool). behind_descriptor d.inherited b) h ∙ under_is d.inherited

pub cost_step : (c : Constructor) (n : ℕ) → cost c (suc n) ≡ free c + cost c n
cost_step bare n = refl
cost_step (under e) n = omega arith
cost_step (under_pair d e) n = omega arith

pub refused_two : (c : Constructor) → refused_free c ≤ 2
refused_two bare = omega arith
refused_two (under e) = omega arith
refused_two (under_pair d e) = omega arith

-- an element behind the end of its array
pub over_long : (takes : Item → Bool) (means : Item → Type 0) (grows buffers : Bool) (old new : Listing) (next : Decoding) → old.state.ended ≡ false → 0 < old.left → Found takes means old.state next → (Within old.limit next.reading.taken → ⊥)
    → IsTrue new.state.ended → new.state.reading ≡ next.reading → new.state.begun ≡ next.begun → NoPart takes grows buffers old new InvalidValue
over_long takes means grows buffers old new next a some f n c r b = record {
  if_ended = λ u. absurd cc (a, u);
  ended = c;
  steady = rw r f.steady;
  device = λ d. absurd d;
  memory = λ m. absurd cc;
  spent = λ _. record { most = free_refused (stands_under old.state) _ _ (rw (r, b) (f.spent a).most) };
  some_left = λ _. some;
  why = λ i text rest' w t at fits h _.
      let o = found_only takes means old.state next (f.front a) i text rest' w at in
      absurd (n (rw o.2 fits));
}

-- ---- parts, and one more behind them

parts_last : {c : Constructor} (a b : List ℕ) {is : Items} {i : Item} → Parts lenient c a is → Wire lenient c b i → Parts lenient c (a ++ b) (and_last is i)
parts_last _ b no_part w = rw append-nil at (part b [] w no_part)
parts_last _ b (part x y h p) w = rw append_assoc (part x (y ++ b) h (parts_last y b p w))

count_last : (is : Items) (i : Item) → count (and_last is i) ≡ suc (count is)
count_last none i = refl
count_last (more j is) i = ap suc (count_last is i)

cost_last : (c : Constructor) (is : Items) (i : Item) → items_of_all c (and_last is i) ≡ items_of_all c is + items_under c i
cost_last c none i = omega arith
cost_last c (more j is) i = let r = cost_last c is i in omega (arith, r)

pub join_last : (is js : Items) (i : Item) → joined (and_last is i) js ≡ joined is (more i js)
join_last none js i = refl
join_last (more j is) js i = ap (more j) (join_last is js i)

pub join_none : (is : Items) → joined is none ≡ is
join_none none = refl
join_none (more i is) = ap (more i) (join_none is)

-- ---- the steps

pub parts_begun : {Has : Item → Items → Type 0} (old : Decoding) (l : Listing) → Opens Has old l → PartsRead l none l
parts_begun old l o = record {
  text = [];
  step = takes_nothing l.state.reading;
  spelled = no_part;
  left = omega arith;
  begun = omega arith;
  inherited = refl;
  described = o.described;
  outer = refl;
  limit = refl;
  not_ended = o.not_ended;
  within = o.starts;
  spent = omega arith;
  tracks = λ is x rest' w n at. (is, x, w, refl, n, at, refl);
}

pub parts_more : (from : Listing) (parts : Items) (now next : Listing) (s : PartsRead from parts now) {t : Item → Bool} {m : Item → Type 0} → (p : Part t m now next) → PartsRead from (and_last parts p.front.item) next
parts_more from parts now next s p = record {
  text = s.text ++ p.front.text;
  step = takes_then from.state.reading now.state.reading next.state.reading s.text p.front.text s.step p.front.step;
  spelled = parts_last s.text p.front.text s.spelled spelled;
  left = let c = count_last parts p.front.item in omega (arith, c, s.left, p.left);
  begun =
      let b : next.state.begun ≡ now.state.begun + items_under from.state.inherited p.front.item = rw here at p.front.begun in
      let c = cost_last from.state.inherited parts p.front.item in
      omega (arith, b, c, s.begun);
  inherited = p.front.inherited ∙ s.inherited;
  described = p.front.described;
  outer = p.outer ∙ s.outer;
  limit = p.limit ∙ s.limit;
  not_ended = p.front.not_ended;
  within = subst (λ (l : Option ℕ). Within l next.state.reading.taken) s.limit p.within;
  spent =
      let c = cost_step from.state.inherited next.left in
      let l = rw p.left at s.spent in
      let q = rw here at p.spent.most in
      omega (arith, c, l, q, s.step.taken);
  tracks = λ is x rest' w n at.
      let r = s.tracks is x rest' w n at in
      follow is r.0 r.1 rest' r.2 r.3 r.4 r.5 r.6;
}
  where
    here : stands_under now.state ≡ from.state.inherited
    here = stands_is now.state s.described ∙ s.inherited

    spelled : Wire lenient from.state.inherited p.front.text p.front.item
    spelled = rw here at p.front.spelled

    follow : {k : ℕ} (is js : Items) (y rest' : List ℕ) → Parts lenient from.state.inherited y js → is ≡ joined parts js → count js ≡ now.left → now.state.reading.to_come ≡ Some (y ++ rest') → now.state.reading.taken + length y ≡ k
        → (js : Items) × (y : List ℕ) × Parts lenient from.state.inherited y js × (is ≡ joined (and_last parts p.front.item) js) × (count js ≡ next.left) × (next.state.reading.to_come ≡ Some (y ++ rest')) × (next.state.reading.taken + length y ≡ k)
    follow is none y rest' w j n at len = absurd (omega (arith, n, p.left))
    follow is (more i js) _ rest' (part a b h w) j n at len =
        let k = behind now.state.reading next.state.reading (a ++ (b ++ rest')) p.front.text p.front.step (at ∙ ap Some (append_assoc a b rest')) in
        let s' = same_wire spelled h k.0 (b ++ rest') (sym k.2) in
        let same : length p.front.text ≡ length a = ap (λ (x : List ℕ). length x) s'.0 in
        let item : joined parts (more i js) ≡ joined (and_last parts p.front.item) js = ap (λ (x : Item). joined parts (more x js)) (sym s'.1) ∙ sym (join_last parts js p.front.item) in
        (js, b, w, j ∙ item, omega (arith, n, p.left), k.1 ∙ ap Some (rest p.front.text a k.0 (b ++ rest') s'.0 (sym k.2)), omega (arith, len, length-append a b, same, p.front.step.taken))

-- ---- the whole

-- more may be refused for want of memory
pub missed_more : {takes : Item → Bool} {more grows buffers : Bool} {old last : Decoding} {e : Error} → (IsTrue more → IsTrue grows) → Missed takes more buffers old last e → Missed takes grows buffers old last e
missed_more {old = old} {last = last} {e = e} g m = record {
  why = λ a i text rest' w t at h. excused_more old.reading last.reading e g (m.why a i text rest' w t at h);
  spent = m.spent;
  steady = m.steady;
  device = m.device;
  memory = λ x. g (m.memory x);
}

-- no item with parts was opened
pub unopened : {A : Type 0} {Has : Item → Items → Type 0} {parse : EncodingCodes → List ℕ → Parsed A} {grows buffers : Bool} {old last : Decoding} {e : Error} (takes : Item → Bool) (Taken : Items → Type 0) → ((i : Item) → IsTrue (takes i) → (is : Items) × Has i is × Taken is)
    → OpensNot Has parse grows buffers old last e → Missed takes grows buffers old last e
unopened {old = old} takes Taken sorts o = record {
  why = λ a i text rest' w t at h. let p = sorts i t in o.why text rest' i p.0 p.1 w at h a;
  spent = λ a. record { most = let f = o.few a in let s = o.steady.taken in omega (arith, f, s, one_refused (stands_under old)) };
  steady = o.steady;
  device = o.device;
  memory = o.memory;
}

module _ {Has : Item → Items → Type 0} (old : Decoding) (from : Listing) (parts : Items) (now : Listing) (o : Opens Has old from) (s : PartsRead from parts now) where
  here : stands_under now.state ≡ from.state.inherited
  here = stands_is now.state s.described ∙ s.inherited

  pub all_steady : Advances old.reading now.state.reading
  all_steady = advances_then old.reading from.state.reading now.state.reading (onward o.step) (onward s.step)

  pub all_spent : (last : Decoding) → last.begun ≡ now.state.begun → last.reading ≡ now.state.reading → Spent (free (stands_under old)) old last
  all_spent last b r = record { most = rw (b, r) (omega (arith, s.spent, o.spent)) }

  -- everything was read
  pub parts_found : (takes : Item → Bool) (means : Item → Type 0) → ((i : Item) → Has i parts → IsTrue (takes i) × means i) → (last : Decoding) → now.left ≡ 0 → last ≡ behind_end now → Found takes means old last
  parts_found takes means meant last z l = rw l record {
    front = λ a.
        let len : now.state.reading.taken ≡ from.state.reading.taken + length s.text = s.step.taken in
        let w = o.whole s.text parts s.spelled (omega (arith, s.left, z)) (rw len at s.within) in
        record {
          item = w.0;
          text = o.text ++ s.text;
          spelled = w.1;
          taken = (meant w.0 w.2).0;
          value = (meant w.0 w.2).1;
          step = takes_then old.reading from.state.reading now.state.reading o.text s.text o.step s.step;
          not_ended = refl;
          inherited = s.outer ∙ o.outer;
          described = s.described;
          begun = omega (arith, w.3, s.begun);
        };
    spent = λ a. all_spent (behind_end now) refl refl;
    steady = all_steady;
  }

  -- no memory was there for a part
  pub no_room : (takes : Item → Bool) (buffers : Bool) (last : Decoding) → last ≡ as_ended now.state → Missed takes true buffers old last OutOfMemory
  no_room takes buffers last l = record {
    why = λ a i text rest' w t at h. no_memory refl refl;
    spent = λ _. record { most = free_refused (stands_under old) _ _ (all_spent last (ap (λ (d : Decoding). d.begun) l) (ap (λ (d : Decoding). d.reading) l)).most };
    steady = rw l all_steady;
    device = λ d. absurd d;
    memory = λ _. refl;
  }

  -- the end was refused, as parts are left
  pub end_refused : (last : Decoding) (e : Error) → Ends now (Err e) last → (now.left ≡ 0 → ⊥) × (e ≡ SequenceLengthMismatch)
  end_refused last e n = tell n.why
    where
      tell : (IsTrue now.state.ended × (e ≡ InvalidValue)) ⊎ ((now.state.ended ≡ false) × (now.left ≡ 0 → ⊥) × (e ≡ SequenceLengthMismatch)) → (now.left ≡ 0 → ⊥) × (e ≡ SequenceLengthMismatch)
      tell (inl p) = absurd cc (p.0, s.not_ended)
      tell (inr p) = (p.1, p.2)

  module _ (takes : Item → Bool) (Taken : Items → Type 0) (sorts : (i : Item) → IsTrue (takes i) → (is : Items) × Has i is × Taken is) where
    -- a part was refused
    pub part_missed : (t : Item → Bool) → ((j : Item) (js : Items) → Taken (joined parts (more j js)) → IsTrue (t j)) → (grows buffers : Bool) (next : Listing) (last : Decoding) (e : Error) → NoPart t grows buffers now next e → last ≡ next.state → Missed takes grows buffers old last e
    part_missed t heads grows buffers next last e n l = record {
      why = λ a i text rest' w t' at h.
          let p = sorts i t' in
          let q = o.only text rest' i p.0 p.1 w at in
          let r = s.tracks p.0 q.0 rest' q.1 q.2 q.4 in
          go r.0 r.1 rest' r.2 (subst Taken r.3 p.2) r.4 r.5 (within_all from.limit _ _ r.6 q.3) (all_steady.honest ∙ h);
      spent = λ _. record { most = free_refused (stands_under old) _ _ (rw l (let m = (n.spent s.not_ended).most in let k = n.some_left s.not_ended in omega (arith, m, k, refused_two (stands_under now.state), s.spent, o.spent))) };
      steady = rw l (advances_then old.reading now.state.reading next.state.reading all_steady n.steady);
      device = λ d. rw l (let f = all_steady.faults in let g = n.device d in omega (arith, f, g));
      memory = n.memory;
    }
      where
        tell : Excused grows buffers now.state.reading next.state.reading e → Excused grows buffers old.reading last.reading e
        tell y = rw l (excused_before old.reading now.state.reading next.state.reading (o.text ++ s.text) e (takes_then old.reading from.state.reading now.state.reading o.text s.text o.step s.step) y)

        go : (js : Items) (y rest' : List ℕ) → Parts lenient from.state.inherited y js → Taken (joined parts js) → count js ≡ now.left → now.state.reading.to_come ≡ Some (y ++ rest') → Within from.limit (now.state.reading.taken + length y) → IsTrue now.state.reading.honest → Excused grows buffers old.reading last.reading e
        go none y rest' w t' c at f h = absurd (omega (arith, c, n.some_left s.not_ended))
        go (more j js) _ rest' (part a b' k w) t' c at f h =
            let k' : Wire lenient (stands_under now.state) a j = rw here k in
            let f' : Within now.limit (now.state.reading.taken + length a) = rw s.limit (within_less from.limit _ _ (omega (arith, length-append a b')) f) in
            tell (n.why j a (b' ++ rest') k' (heads j js t') (at ∙ ap Some (append_assoc a b' rest')) f' h s.not_ended)

    -- what is refused, as it isn't taken
    pub not_taken : (grows buffers : Bool) (last : Decoding) (e : Error) → (IsDevice e → ⊥) → (e ≡ OutOfMemory → IsTrue grows) → last.reading ≡ now.state.reading → last.begun ≡ now.state.begun
        → ((js : Items) → count js ≡ now.left → Taken (joined parts js) → ⊥) → Missed takes grows buffers old last e
    not_taken grows buffers last e calm memory r b absent = record {
      why = λ a i text rest' w t' at h.
          let p = sorts i t' in
          let q = o.only text rest' i p.0 p.1 w at in
          let k = s.tracks p.0 q.0 rest' q.1 q.2 q.4 in
          absurd (absent k.0 k.4 (subst Taken k.3 p.2));
      spent = λ _. record { most = free_refused (stands_under old) _ _ (all_spent last b r).most };
      steady = rw r all_steady;
      device = λ d. absurd (calm d);
      memory = memory;
    }
