-- The steps of a compound.
use Rattle.std.proofs.Common.{◌≡◌, get_or, map, take, drop, suc, add-one, drop-cons, ℕ, ◌+◌, ◌<◌, ◌≤◌, List, [], ◌∷◌, ◌++◌, length, refl, sym, ◌∙◌, ap, arith, Option, Some, None, true, false, Bool, if◌then◌else◌, Result, Ok, Err, OnOk, IfErr, inl, inr, subst, length-append, append_assoc, ◌==◌, ◌%◌, ◌&&◌, ◌⊎◌}
use Rattle.std.proofs.lemmas.List.{take-append-drop, take_all, map-append, append-nil}
use Rattle.std.specs.Io.KnownBytes.{Appends}
use Rattle.amqp_base.specs.Item.{Item, items_of, count}
use Rattle.amqp_base.specs.Wire.{Constructor, under}
use Rattle.amqp_base.specs.Canon.{◌>>=◌, when, canon, canons, body, array_body, kind_code, list_text}
use Rattle.amqp_base.specs.Shapes.{whole, setting_inside, pairs_of}
use Rattle.amqp_base.specs.Codes.{row}
use Rattle.amqp_base.specs.Sizes.{Size, sizes, sizes_in, sizes_in_pairs, size_of}
use Rattle.amqp_base.specs.declared.error.Error.{Error}
use Rattle.amqp_base.specs.declared.shape.Setting.{Setting}
use Rattle.amqp_base.specs.declared.error.Error.TheVariants.{OutOfMemory}
use Rattle.amqp_base.specs.declared.shape.Setting.TheVariants.{Plain}
use Rattle.amqp_base.specs.declared.shape.Shape.{Shape}
use Rattle.amqp_ser.specs.State.{State, Serializing, Planned, Mark, unmarked, first, other, answering, size_in, contents_in}
use Rattle.amqp_write.specs.declared.pass.Opened.{Opened}
use Rattle.amqp_base.specs.Faults.{Extends}
use Rattle.amqp_write.proofs.Counting.{goes_more, next_refused}
use Rattle.amqp_ser.specs.Law.{text_for, fits, is_next, begins, same_size, marked, found_after, Goes, Wrote, Refused, Kept, IsDevice, Unwritten, unwritten}
use Rattle.amqp_write.specs.Appending.{Pays}
use Rattle.amqp_ser.specs.Compound.{Keeps, Open, Empty, Begun, Buffers, Lent, Run, Holds, Complete, is_map, awaits_value, BeginsWith, whole_text, shape_code, parts_text, next_mark, other_of, turned}
use Rattle.amqp_write.proofs.Bytes.{extends_same, appends_none, none_extends}
use Rattle.amqp_write.proofs.Steps.{Free, fits_free, wrote_pays, refused_pays, kept_two}
use Rattle.amqp_base.specs.Faults.{IsFault}
use Rattle.amqp_base.specs.declared.fault.Size.{Size as CodeSize}
use Rattle.std.specs.declared.vec.Vec.{Vec}
use Rattle.std.specs.Global.{Global}
use Rattle.amqp_ser.specs.Compound.{Back, back, inner_of, outer_of, part_in, outside_in}
use Rattle.amqp_write.proofs.TextOf.{pays_text}
use Rattle.amqp_write.proofs.PartTexts.{parts_more, parts_none, bind_some, pairs_text, pairs_count, odd_count, true_false}
use Rattle.amqp_write.proofs.WhyTexts.{part_why, body_why}
use Rattle.amqp_write.proofs.Lengths.{parts_fit}

pub kept_itself : (s : State) → Kept s s
kept_itself s = record { bytes = extends_same s.contents; faults = omega arith; grows = refl }

kept_ended : (s : State) → Kept s (record s { ended = true })
kept_ended s = record { bytes = extends_same s.contents; faults = omega arith; grows = refl }

next_none : (p : Option Planned) (l : List Size) → p ≡ None → is_next p l ≡ false → ⊥
next_none p l h k = let t : is_next p l ≡ true = rw h refl in true_false (sym t ∙ k)

and_false : (b : Bool) → (b && false) ≡ false
and_false true = refl
and_false false = refl

kept_lent : (s : State) (code : Option Constructor) (o : State) → Lent s code o → Kept s o
kept_lent s code o l = record { bytes = none_extends _ _ l.was; faults = l.faults; grows = l.grows }

count_items : (xs : List Item) → count (items_of xs) ≡ length xs
count_items [] = refl
count_items (x ∷ xs) = ap suc (count_items xs)

pub free_of : (u : State) → Empty u → Free u
free_of u e = record { plan = e.plan; measure = e.measure }

free_goes : (u v : State) (b : List ℕ) (l : List Size) → Free u → Appends u.contents v.contents b → v.plan ≡ None → v.measure ≡ None → v.setting ≡ u.setting → Goes u b l v
free_goes u v b l f a p m set = record {
  fits = fits_free u (length b) l f;
  appended = a;
  plan = p ∙ (rw f.plan refl);
  measure = m ∙ (rw f.measure refl);
  setting = set;
}

some_of : (o : Option Constructor) (g : Constructor → Option (List ℕ)) (b : List ℕ) → o >>= g ≡ Some b → (c : Constructor) × (o ≡ Some c)
some_of o g b h = let p = bind_some o g b h in (p.0, p.1)

first_turn : (m : Mark) (found old k : Option Constructor) → m ≡ first → found ≡ found_after m k old → turned m found ≡ other_of k
first_turn m found old k h f = let g : found ≡ k = f ∙ (let e : found_after m k old ≡ k = rw h refl in e) in rw (h, g) refl

other_turn : (m : Mark) (found o : Option Constructor) → (c : Constructor) → o ≡ Some c → m ≡ other_of o → turned m found ≡ other_of o
other_turn m found o c e h = rw (h, e) refl

turn_more : (shape : Shape) (xs : List Item) (x : Item) (a b : List ℕ) (m : Mark) (found old : Option Constructor) → parts_text shape (items_of xs) ≡ Some a → m ≡ next_mark shape xs → found ≡ found_after m (kind_code x) old → marked m x ≡ Some b → turned m found ≡ next_mark shape (xs ++ x ∷ [])
unfolding next_mark parts_text array_body
turn_more Shape.List xs x a b m found old t h f k = rw h refl
turn_more (Shape.Tuple n) xs x a b m found old t h f k = rw h refl
turn_more Shape.Map xs x a b m found old t h f k = rw h refl
turn_more Shape.Fields xs x a b m found old t h f k = rw h refl
turn_more Shape.Array [] x a b m found old t h f k = first_turn m found old (kind_code x) h f
turn_more Shape.Array (y ∷ ys) x a b m found old t h f k = let c = some_of (kind_code y) _ a t in other_turn m found (kind_code y) c.0 c.1 h

no_parts : (shape : Shape) → parts_text shape (items_of []) ≡ Some []
unfolding parts_text canons array_body
no_parts Shape.List = refl
no_parts Shape.Array = refl
no_parts (Shape.Tuple n) = refl
no_parts Shape.Map = refl
no_parts Shape.Fields = refl

pub run_none : (shape : Shape) (u : State) → Goes u [] [] u → u.mark ≡ next_mark shape [] → u.setting ≡ setting_inside shape → u.ended ≡ false → Run shape u [] u
unfolding sizes_in
run_none shape u goes mark inside answers = record { bytes = []; text = no_parts shape; goes = goes; mark = mark; inside = inside; answers = answers }

pub goes_buffer : (u : State) → Empty u → Goes u [] [] u
goes_buffer u e = free_goes u u [] _ (free_of u e) (appends_none u.contents) e.plan e.measure refl

-- the sizes of parts, one in their midst
pub sizes_more : (xs rest : List Item) (x : Item) → sizes_in (items_of (xs ++ x ∷ rest)) ≡ sizes_in (items_of xs) ++ (sizes x ++ sizes_in (items_of rest))
unfolding sizes_in
sizes_more [] rest x = refl
sizes_more (y ∷ ys) rest x = ap (λ l. sizes y ++ l) (sizes_more ys rest x) ∙ sym (append_assoc (sizes y) (sizes_in (items_of ys)) (sizes x ++ sizes_in (items_of rest)))

pub no_sizes : sizes_in (items_of []) ≡ []
unfolding sizes_in
no_sizes = refl

sizes_last : (xs : List Item) (x : Item) → sizes_in (items_of (xs ++ x ∷ [])) ≡ sizes_in (items_of xs) ++ sizes x
sizes_last xs x = sizes_more xs [] x ∙ ap (λ l. sizes_in (items_of xs) ++ l) (ap (λ l. sizes x ++ l) no_sizes ∙ append-nil (sizes x))

-- one part more
pub run_more : (shape : Shape) (xs : List Item) (f : Setting → Item) (u v w : State) → Run shape u xs v → Wrote v (f v.setting) w → Run shape u (xs ++ f (setting_inside shape) ∷ []) (record w { mark = turned w.mark w.found })
run_more shape xs f u v w r wrote =
    let x = f (setting_inside shape) in
    let got : Wrote v x w = subst (λ setting. Wrote v (f setting) w) r.inside wrote in
    let t = got.took r.answers in
    let text : marked (next_mark shape xs) x ≡ Some t.bytes = rw (sym r.mark) t.text in
    let goes : Goes u (r.bytes ++ t.bytes) (sizes_in (items_of (xs ++ x ∷ []))) w = subst (λ l. Goes u (r.bytes ++ t.bytes) l w) (sym (sizes_last xs x)) (goes_more u v w r.bytes t.bytes (sizes_in (items_of xs)) (sizes x) r.goes t.goes) in
    record {
      bytes = r.bytes ++ t.bytes;
      text = parts_more shape xs x r.bytes t.bytes r.text text;
      goes = record { fits = goes.fits; appended = goes.appended; plan = goes.plan; measure = goes.measure; setting = goes.setting };
      mark = turn_more shape xs x r.bytes t.bytes w.mark w.found v.found r.text (t.mark ∙ r.mark) (rw t.mark t.found) (rw t.mark t.text);
      inside = t.goes.setting ∙ r.inside;
      answers = got.answers r.answers;
    }

-- each part takes a byte at least
pub run_fits : (shape : Shape) (xs : List Item) (u v : State) (ys : List ℕ) → Empty u → Run shape u xs v → v.contents ≡ Some ys → parts_text shape (items_of xs) ≡ Some ys
run_fits shape xs u v ys e r contents = r.text ∙ ap Some (from_none _ _ _ _ e.contents contents r.goes.appended)
  where
    from_none : (a b : Option (List ℕ)) (more ys : List ℕ) → a ≡ Some [] → b ≡ Some ys → Appends a b more → more ≡ ys
    from_none a b more ys h k l = sym (rw (h, k) at l)

pub element_more : (s : State) (shape : Shape) (xs : List Item) (f : Setting → Item) (q p : Open) (w : State) → Wrote q.inner (f q.inner.setting) w → p.inner ≡ record w { mark = turned w.mark w.found } → p.outer ≡ q.outer → p.pairs ≡ q.pairs → p.shape ≡ q.shape → p.opened ≡ q.opened → p.count ≡ q.count + 1 → Holds s shape xs q → Holds s shape (xs ++ f (setting_inside shape) ∷ []) p
element_more s shape xs f q p w wrote inner outer pairs same opened count h =
    let x = f (setting_inside shape) in
    let r = run_more shape xs f h.start q.inner w h.run wrote in
    let len = length-append xs (x ∷ []) in
    record {
      pairs = pairs ∙ h.pairs;
      shape_is = same ∙ h.shape_is;
      start = h.start;
      begun = subst (λ o. Begun shape s p.opened o h.start) (sym outer) (subst (λ k. Begun shape s k q.outer h.start) (sym opened) h.begun);
      run = subst (λ v. Run shape h.start (xs ++ x ∷ []) v) (sym inner) r;
      count = omega (arith, h.count, count, len);
      answered = h.answered;
    }

-- what comes after a front and an element
pub begins_rest : {X : Type 0} (xs all : List X) (x : X) → BeginsWith all (xs ++ x ∷ []) → (rest : List X) × (all ≡ xs ++ x ∷ rest)
begins_rest [] [] x h = absurd h
begins_rest [] (y ∷ ys) x h = (ys, ap (λ z. z ∷ ys) h.0)
begins_rest (z ∷ zs) [] x h = absurd h
begins_rest (z ∷ zs) (y ∷ ys) x h = let r = begins_rest zs ys x h.1 in (r.0, ap (λ w. w ∷ ys) h.0 ∙ ap (λ ws. z ∷ ws) r.1)

-- a list begins with each front of it
pub begins_front : {X : Type 0} (xs zs : List X) → BeginsWith (xs ++ zs) xs
begins_front [] zs = tt
begins_front (x ∷ xs) zs = (refl, begins_front xs zs)

pub begins_split : {X : Type 0} (xs : List X) (x : X) (rest : List X) → BeginsWith (xs ++ x ∷ rest) (xs ++ x ∷ [])
begins_split [] x rest = (refl, tt)
begins_split (z ∷ zs) x rest = (refl, begins_split zs x rest)

if_none : (t : Bool) → (let n : Option (List ℕ) = None in if t then n else n) ≡ None
if_none true = refl
if_none false = refl

pub whole_of_none : (shape : Shape) (m : Mark) (xs : List Item) → Complete (is_map shape) xs → parts_text shape (items_of xs) ≡ None → marked m (whole shape xs) ≡ None
unfolding whole marked canon body kind_code parts_text
whole_of_none Shape.List unmarked xs c h = rw h refl
whole_of_none Shape.List first xs c h = rw h refl
whole_of_none Shape.List (other d) xs c h = rw h (if_none _)
whole_of_none Shape.Array unmarked xs c h = rw h refl
whole_of_none Shape.Array first xs c h = rw h refl
whole_of_none Shape.Array (other d) xs c h = rw h (if_none _)
whole_of_none (Shape.Tuple n) unmarked xs c h = rw h refl
whole_of_none (Shape.Tuple n) first xs c h = rw h refl
whole_of_none (Shape.Tuple n) (other d) xs c h = rw h (if_none _)
whole_of_none Shape.Map unmarked xs c h = rw (pairs_text xs c, h) refl
whole_of_none Shape.Map first xs c h = rw (pairs_text xs c, h) refl
whole_of_none Shape.Map (other d) xs c h = rw (pairs_text xs c, h) (if_none _)
whole_of_none Shape.Fields unmarked xs c h = rw (pairs_text xs c, h) refl
whole_of_none Shape.Fields first xs c h = rw (pairs_text xs c, h) refl
whole_of_none Shape.Fields (other d) xs c h = rw (pairs_text xs c, h) (if_none _)

-- the text of a whole, by what was written of its parts
pub whole_of_some : (shape : Shape) (m : Mark) (xs : List Item) (b : List ℕ) → Complete (is_map shape) xs → parts_text shape (items_of xs) ≡ Some b → marked m (whole shape xs) ≡ whole_text shape m (length xs) b
unfolding whole marked canon body kind_code parts_text whole_text list_text row
whole_of_some Shape.List unmarked xs b c h = rw (h, count_items xs) refl
whole_of_some Shape.List first xs b c h = rw (h, count_items xs) refl
whole_of_some Shape.List (other d) xs b c h = rw (h, count_items xs) refl
whole_of_some Shape.Array unmarked xs b c h = rw (h, count_items xs) refl
whole_of_some Shape.Array first xs b c h = rw (h, count_items xs) refl
whole_of_some Shape.Array (other d) xs b c h = rw (h, count_items xs) refl
whole_of_some (Shape.Tuple n) unmarked xs b c h = rw (h, count_items xs) refl
whole_of_some (Shape.Tuple n) first xs b c h = rw (h, count_items xs) refl
whole_of_some (Shape.Tuple n) (other d) xs b c h = rw (h, count_items xs) refl
whole_of_some Shape.Map unmarked xs b c h = rw (pairs_text xs c, h, pairs_count xs c) refl
whole_of_some Shape.Map first xs b c h = rw (pairs_text xs c, h, pairs_count xs c) refl
whole_of_some Shape.Map (other d) xs b c h = rw (pairs_text xs c, h, pairs_count xs c) refl
whole_of_some Shape.Fields unmarked xs b c h = rw (pairs_text xs c, h, pairs_count xs c) refl
whole_of_some Shape.Fields first xs b c h = rw (pairs_text xs c, h, pairs_count xs c) refl
whole_of_some Shape.Fields (other d) xs b c h = rw (pairs_text xs c, h, pairs_count xs c) refl

pub whole_code : (shape : Shape) (xs : List Item) → kind_code (whole shape xs) ≡ Some (under (shape_code shape))
unfolding whole kind_code
whole_code Shape.List xs = refl
whole_code Shape.Array xs = refl
whole_code (Shape.Tuple n) xs = refl
whole_code Shape.Map xs = refl
whole_code Shape.Fields xs = refl

-- sizes that aren't next behind a header aren't next with it
plan_back : (shape : Shape) (s : State) (k : Opened) (o start : State) (z : Size) (l : List Size) → Begun shape s k o start → is_next start.plan l ≡ false → is_next s.plan (z ∷ l) ≡ false
plan_back shape s Opened.Buffered o start z l b h = absurd (next_none start.plan l b.empty.plan h)
plan_back shape s (Opened.Measured at before) o start z l b h = absurd (next_none start.plan l b.no_plan h)
plan_back shape s (Opened.Written size from) o start z l b h =
    let left : begins b.left l ≡ false = rw b.goes_on at h in
    rw (b.plan, b.next, left) (and_false (same_size (size_in size) z))

pub kept_begun : (shape : Shape) (s : State) (k : Opened) (o start : State) → Begun shape s k o start → Kept s o
kept_begun shape s Opened.Buffered o start b = subst (λ t. Kept s t) (sym b.outer) (kept_ended s)
kept_begun shape s (Opened.Measured at before) o start b = kept_lent s s.found o b.outer
kept_begun shape s (Opened.Written size from) o start b = kept_lent s _ o b.outer

text_none : (s : State) (i : Item) → text_for s i ≡ None → (marked s.mark i ≡ None) ⊎ (is_next s.plan (sizes i) ≡ false)
unfolding text_for fits
text_none s i h = go (marked s.mark i) (is_next s.plan (sizes i)) h
  where
    go : (o : Option (List ℕ)) (t : Bool) → (o >>= λ b. when t b) ≡ None → (o ≡ None) ⊎ (t ≡ false)
    go None t h = inl refl
    go (Some b) true h = cc
    go (Some b) false h = inr refl

pub none_text : (s : State) (i : Item) → (marked s.mark i ≡ None) ⊎ (is_next s.plan (sizes i) ≡ false) → text_for s i ≡ None
unfolding text_for fits
none_text s i h = elim h [ inl m ↦ rw m refl | inr n ↦ rw n (go (marked s.mark i)) ]
  where
    go : (o : Option (List ℕ)) → (o >>= λ b. when false b) ≡ None
    go None = refl
    go (Some b) = refl

pairs_sizes : (xs : List Item) → Complete true xs → sizes_in_pairs (pairs_of xs) ≡ sizes_in (items_of xs)
unfolding sizes_in_pairs sizes_in
pairs_sizes [] c = refl
pairs_sizes (k ∷ []) c = absurd (true_false c)
pairs_sizes (k ∷ v ∷ xs) c = ap (λ l. sizes k ++ (sizes v ++ l)) (pairs_sizes xs c)

-- the sizes of a whole: its own, and those of its parts
pub whole_sizes : (shape : Shape) (xs : List Item) → Complete (is_map shape) xs → sizes (whole shape xs) ≡ size_of (parts_text shape (items_of xs)) (length xs) ∷ sizes_in (items_of xs)
unfolding sizes whole parts_text
whole_sizes Shape.List xs c = rw (count_items xs) refl
whole_sizes Shape.Array xs c = rw (count_items xs) refl
whole_sizes (Shape.Tuple n) xs c = rw (count_items xs) refl
whole_sizes Shape.Map xs c = rw (pairs_text xs c, pairs_count xs c, pairs_sizes xs c) refl
whole_sizes Shape.Fields xs c = rw (pairs_text xs c, pairs_count xs c, pairs_sizes xs c) refl

-- a part without a text leaves the whole without one
no_text_at : (s : State) (shape : Shape) (xs rest : List Item) (x : Item) (q : Open) → Holds s shape xs q → Complete q.pairs (xs ++ x ∷ rest) → text_for q.inner x ≡ None → text_for s (whole shape (xs ++ x ∷ rest)) ≡ None
no_text_at s shape xs rest x q h complete empty =
    let ys = xs ++ x ∷ rest in
    let whole_complete : Complete (is_map shape) ys = rw h.pairs at complete in
    none_text s (whole shape ys) (elim (text_none q.inner x empty) [
      | inl none ↦ inl (whole_of_none shape s.mark ys whole_complete (parts_none shape xs rest x h.run.bytes h.run.text (subst (λ m. marked m x ≡ None) h.run.mark none)))
      | inr next ↦ inr (subst (λ l. is_next s.plan l ≡ false) (sym (whole_sizes shape ys whole_complete ∙ ap (λ l. size_of (parts_text shape (items_of ys)) (length ys) ∷ l) (sizes_more xs rest x)))
          (plan_back shape s q.opened q.outer h.start _ _ h.begun (next_refused h.start.plan (sizes_in (items_of xs)) (sizes x) (sizes_in (items_of rest)) h.run.bytes (subst (λ p. is_next p (sizes x) ≡ false) h.run.goes.plan next))))
    ])

next_text_none : (s : State) (i : Item) → text_for s i ≡ None → s.plan ≡ None → marked s.mark i ≡ None
next_text_none s i empty plan = elim (text_none s i empty) [ inl none ↦ none | inr next ↦ absurd (next_none s.plan (sizes i) plan next) ]

-- no sizes are planned inside where none are outside
no_plan_inside : (shape : Shape) (s : State) (k : Opened) (o start : State) → Begun shape s k o start → s.plan ≡ None → start.plan ≡ None
no_plan_inside shape s Opened.Buffered o start b h = b.empty.plan
no_plan_inside shape s (Opened.Measured at before) o start b h = b.no_plan
no_plan_inside shape s (Opened.Written size from) o start b h = absurd (let e = sym h ∙ b.plan in cc)

-- a part that has no text where it stands
part_unwritten : (s : State) (shape : Shape) (xs rest : List Item) (x : Item) (e : Error) (q : Open) → Holds s shape xs q → Complete q.pairs (xs ++ x ∷ rest) → Unwritten q.inner x e → Unwritten s (whole shape (xs ++ x ∷ rest)) e
part_unwritten s shape xs rest x e q h complete w = record {
  none = no_text_at s shape xs rest x q h complete w.none;
  named = λ plan.
      let start : h.start.plan ≡ None = no_plan_inside shape s q.opened q.outer h.start h.begun plan in
      let inner : q.inner.plan ≡ None = h.run.goes.plan ∙ (rw start refl) in
      let none : marked (next_mark shape xs) x ≡ None = subst (λ m. marked m x ≡ None) h.run.mark (next_text_none q.inner x w.none inner) in
      w.named inner ∙ sym (part_why shape xs rest x h.run.bytes h.run.text none (rw h.pairs at complete));
}

-- a refused part refuses the whole
element_refused_at : (s : State) (shape : Shape) (xs rest : List Item) (f : Setting → Item) (e : Error) (q : Open) (b : State) → b.faults ≡ 0 → Refused q.inner (f q.inner.setting) e b → Holds s shape xs q → Complete q.pairs (xs ++ f (setting_inside shape) ∷ rest) → Refused s (whole shape (xs ++ f (setting_inside shape) ∷ rest)) e q.outer
element_refused_at s shape xs rest g e q b none v h complete =
    let x = g (setting_inside shape) in
    let r : Refused q.inner x e b = subst (λ setting. Refused q.inner (g setting) e b) h.run.inside v in
    record {
      kept = kept_begun shape s q.opened q.outer h.start h.begun;
      device = λ d. absurd (omega (arith, none, r.device d));
      cause = λ a. elim (r.cause h.run.answers) [
        | inl m ↦ inl m
        | inr d ↦ elim d [
          | inl io ↦ absurd (omega (arith, none, io.1))
          | inr w ↦ inr (inr (part_unwritten s shape xs rest x e q h complete w))
        ]
      ];
    }

pub element_refused : (s : State) (shape : Shape) (xs all : List Item) (f : Setting → Item) (e : Error) (q : Open) (b : State) → b.faults ≡ 0 → Refused q.inner (f q.inner.setting) e b → Holds s shape xs q → BeginsWith all (xs ++ f (setting_inside shape) ∷ []) → Complete q.pairs all → Refused s (whole shape all) e q.outer
element_refused s shape xs all g e q b none v h split complete =
    let r = begins_rest xs all (g (setting_inside shape)) split in
    subst (λ ys. Refused s (whole shape ys) e q.outer) (sym r.1) (element_refused_at s shape xs r.0 g e q b none v h (subst (λ ys. Complete q.pairs ys) r.1 complete))

-- want of memory refuses the whole
pub element_full : (s : State) (shape : Shape) (xs all : List Item) (q : Open) → Holds s shape xs q → (e : Error) → e ≡ OutOfMemory → Refused s (whole shape all) e q.outer
element_full s shape xs all q h e is = record {
  kept = kept_begun shape s q.opened q.outer h.start h.begun;
  device = λ d. absurd (subst (λ x. IsDevice x) is d);
  cause = λ a. inl is;
}

abbrev pub Lives : Opened → Type 0
Lives k = k ≡ Opened.Buffered → ⊥

pub full_refuses : (s t : State) (i : Item) (e : Error) → Kept s t → e ≡ OutOfMemory → Refused s i e t
full_refuses s t i e kept is = record { kept = kept; device = λ d. absurd (subst (λ x. IsDevice x) is d); cause = λ a. inl is }

pub kept_back : (k : Opened) (b : Back) (s o : State) → Kept s (outer_of k o b) → Kept s o
kept_back Opened.Buffered b s o h = h
kept_back (Opened.Measured at before) b s o h = record { bytes = h.bytes; faults = h.faults; grows = h.grows }
kept_back (Opened.Written size from) b s o h = record { bytes = h.bytes; faults = h.faults; grows = h.grows }

-- what a compound had at first is kept from its serializer
pub kept_open : (s : State) (shape : Shape) (xs : List Item) (q : Open) (b : Back) (o : State) → q.outer ≡ outer_of q.opened o b → Holds s shape xs q → Kept s o
kept_open s shape xs q b o same h = kept_back q.opened b s o (subst (λ x. Kept s x) same (kept_begun shape s q.opened q.outer h.start h.begun))

pub keeps_two : (q p r : Open) → Keeps q p → Keeps p r → Keeps q r
keeps_two q p r a b = record { kept = kept_two _ _ _ a.kept b.kept; ended = λ h. b.ended (a.ended h) }

lent_moved : (s : State) (c : Option Constructor) (b : Back) (o t : State) → Kept o t → Lent s c (back b o) → Lent s c (back b t)
lent_moved s c b o t k l = record { was = l.was; faults = omega (arith, l.faults, k.faults); grows = k.grows ∙ l.grows; setting = l.setting; mark = l.mark; found = l.found }

pub begun_moved : (shape : Shape) (s : State) (k : Opened) (b : Back) (o t start : State) → Lives k → Kept o t → Begun shape s k (outer_of k o b) start → Begun shape s k (outer_of k t b) start
begun_moved shape s Opened.Buffered b o t start live k h = absurd (live refl)
begun_moved shape s (Opened.Measured at before) b o t start live k h = record { so_far = h.so_far; room = h.room; plan = h.plan; measure = h.measure; place = h.place; counted = h.counted; no_plan = h.no_plan; counts = h.counts; outer = lent_moved s _ b o t k h.outer }
begun_moved shape s (Opened.Written size from) b o t start live k h = record { so_far = h.so_far; left = h.left; head = h.head; plan = h.plan; next = h.next; measure = h.measure; text = h.text; goes_on = h.goes_on; no_measure = h.no_measure; behind = h.behind; outer = lent_moved s _ b o t k h.outer }

pub inner_lives : (k : Opened) (o : State) (b : Serializing (Vec ℕ Global)) → Lives k → inner_of k o b ≡ record o { ended = b.state.ended }
inner_lives Opened.Buffered o b live = absurd (live refl)
inner_lives (Opened.Measured at before) o b live = refl
inner_lives (Opened.Written size from) o b live = refl

pub outer_lives : (k : Opened) (o : State) (b : Back) → Lives k → outer_of k o b ≡ back b o
outer_lives Opened.Buffered o b live = absurd (live refl)
outer_lives (Opened.Measured at before) o b live = refl
outer_lives (Opened.Written size from) o b live = refl

pub lives_measured : (k : Opened) (at before : ℕ) → k ≡ Opened.Measured at before → Lives k
lives_measured k at before e h = cc

pub lives_written : (k : Opened) (size : CodeSize) (from : ℕ) → k ≡ Opened.Written size from → Lives k
lives_written k size from e h = cc

pub kept_from : (o v w t : State) → v ≡ record o { ended = false } → Kept v w → t.contents ≡ w.contents → t.faults ≡ w.faults → t.grows ≡ w.grows → Kept o t
kept_from o v w t same k contents faults grows = record {
  bytes = subst (λ x. Extends o.contents x) (sym contents) (subst (λ x. Extends x w.contents) (ap (λ (x : State). x.contents) same) k.bytes);
  faults = omega (arith, k.faults, faults, ap (λ (x : State). x.faults) same);
  grows = grows ∙ (k.grows ∙ ap (λ (x : State). x.grows) same);
}

kept_outers : (k : Opened) (b : Back) (o t : State) → Kept o t → Kept (outer_of k o b) (outer_of k t b)
kept_outers Opened.Buffered b o t h = h
kept_outers (Opened.Measured at before) b o t h = record { bytes = h.bytes; faults = h.faults; grows = h.grows }
kept_outers (Opened.Written size from) b o t h = record { bytes = h.bytes; faults = h.faults; grows = h.grows }

ended_outer : (k : Opened) (b : Back) (t : State) → t.ended ≡ true → (outer_of k t b).ended ≡ true
ended_outer Opened.Buffered b t h = h
ended_outer (Opened.Measured at before) b t h = h
ended_outer (Opened.Written size from) b t h = h

pub keeps_lives : (q p : Open) (k : Opened) (b : Back) (o t : State) → q.outer ≡ outer_of k o b → p.outer ≡ outer_of k t b → Kept o t → t.ended ≡ true → Keeps q p
keeps_lives q p k b o t is after h ended = record {
  kept = subst (λ x. Kept x p.outer) (sym is) (subst (λ x. Kept (outer_of k o b) x) (sym after) (kept_outers k b o t h));
  ended = λ _. ap (λ (x : State). x.ended) after ∙ ended_outer k b t ended;
}

pub inner_answers : (k : Opened) (o : State) (b : Serializing (Vec ℕ Global)) → (inner_of k o b).ended ≡ b.state.ended
inner_answers Opened.Buffered o b = refl
inner_answers (Opened.Measured at before) o b = refl
inner_answers (Opened.Written size from) o b = refl

pub broken_lives : (k : Opened) (o : State) (b : Serializing (Vec ℕ Global)) → Lives k → b.state.ended ≡ true → (inner_of k o b).ended ≡ true
broken_lives k o b live h = ap (λ (x : State). x.ended) (inner_lives k o b live) ∙ h

-- one part more, which stands on the serializer itself
pub element_more_lives : (s : State) (shape : Shape) (xs : List Item) (f : Setting → Item) (q p : Open) (b : Back) (o v w t : State) → Lives q.opened → v ≡ record o { ended = false } → q.inner ≡ v → q.outer ≡ outer_of q.opened o b → Wrote v (f v.setting) w → t ≡ record w { ended = true; mark = turned w.mark w.found } → p.inner ≡ record t { ended = false } → p.opened ≡ q.opened → p.outer ≡ outer_of q.opened t b → p.pairs ≡ q.pairs → p.shape ≡ q.shape → p.count ≡ q.count + 1 → Holds s shape xs q → Holds s shape (xs ++ f (setting_inside shape) ∷ []) p
element_more_lives s shape xs f q p b o v w t live at_v inner outer wrote at_t after opened back_at pairs same count h =
    let x = f (setting_inside shape) in
    let here : Wrote q.inner (f q.inner.setting) w = subst (λ y. Wrote y (f y.setting) w) (sym inner) wrote in
    let r = run_more shape xs f h.start q.inner w h.run here in
    let answers : w.ended ≡ false = wrote.answers (ap (λ (y : State). y.ended) at_v) in
    let moved : record t { ended = false } ≡ record w { mark = turned w.mark w.found } = ap (λ (y : State). record y { ended = false }) at_t ∙ (let e : record w { ended = false; mark = turned w.mark w.found } ≡ record w { mark = turned w.mark w.found } = ap (λ z. record w { ended = z; mark = turned w.mark w.found }) (sym answers) in e) in
    let kept : Kept o t = kept_from o v w t at_v wrote.kept (ap (λ (y : State). y.contents) at_t) (ap (λ (y : State). y.faults) at_t) (ap (λ (y : State). y.grows) at_t) in
    let begun : Begun shape s q.opened (outer_of q.opened t b) h.start = begun_moved shape s q.opened b o t h.start live kept (subst (λ y. Begun shape s q.opened y h.start) outer h.begun) in
    let len = length-append xs (x ∷ []) in
    record {
      pairs = pairs ∙ h.pairs;
      shape_is = same ∙ h.shape_is;
      start = h.start;
      begun = subst (λ k. Begun shape s k p.outer h.start) (sym opened) (subst (λ y. Begun shape s q.opened y h.start) (sym back_at) begun);
      run = subst (λ y. Run shape h.start (xs ++ x ∷ []) y) (sym (after ∙ moved)) r;
      count = omega (arith, h.count, count, len);
      answered = h.answered;
    }

-- a refused part refuses the whole, and its serializer has ended
refused_lives_at : (s : State) (shape : Shape) (xs rest : List Item) (f : Setting → Item) (e : Error) (q : Open) (b : Back) (o v w t : State) → v ≡ record o { ended = false } → q.inner ≡ v → q.outer ≡ outer_of q.opened o b → Refused v (f v.setting) e w → t ≡ record w { ended = true } → Holds s shape xs q → Complete q.pairs (xs ++ f (setting_inside shape) ∷ rest) → Refused s (whole shape (xs ++ f (setting_inside shape) ∷ rest)) e t
refused_lives_at s shape xs rest f e q b o v w t at_v inner outer refused at_t h complete =
    let x = f (setting_inside shape) in
    let here : Refused q.inner x e w = subst (λ setting. Refused q.inner (f setting) e w) h.run.inside (subst (λ y. Refused y (f y.setting) e w) (sym inner) refused) in
    let first = kept_open s shape xs q b o outer h in
    let kept : Kept o t = kept_from o v w t at_v refused.kept (ap (λ (y : State). y.contents) at_t) (ap (λ (y : State). y.faults) at_t) (ap (λ (y : State). y.grows) at_t) in
    let faults : t.faults ≡ w.faults = ap (λ (y : State). y.faults) at_t in
    let was : q.inner.faults ≡ o.faults = ap (λ (y : State). y.faults) (inner ∙ at_v) in
    record {
      kept = kept_two s o t first kept;
      device = λ d. omega (arith, here.device d, first.faults, faults, was);
      cause = λ a. elim (here.cause h.run.answers) [
        | inl m ↦ inl m
        | inr d ↦ elim d [
          | inl io ↦ inr (inl (subst (λ l. IsFault l e) (sym (ap (λ (y : State). y.last_fault) at_t)) io.0, omega (arith, io.1, first.faults, faults, was)))
          | inr w ↦ inr (inr (part_unwritten s shape xs rest x e q h complete w))
        ]
      ];
    }

pub refused_lives : (s : State) (shape : Shape) (xs all : List Item) (f : Setting → Item) (e : Error) (q : Open) (b : Back) (o v w t : State) → v ≡ record o { ended = false } → q.inner ≡ v → q.outer ≡ outer_of q.opened o b → Refused v (f v.setting) e w → t ≡ record w { ended = true } → Holds s shape xs q → BeginsWith all (xs ++ f (setting_inside shape) ∷ []) → Complete q.pairs all → Refused s (whole shape all) e t
refused_lives s shape xs all f e q b o v w t at_v inner outer refused at_t h split complete =
    let r = begins_rest xs all (f (setting_inside shape)) split in
    subst (λ ys. Refused s (whole shape ys) e t) (sym r.1) (refused_lives_at s shape xs r.0 f e q b o v w t at_v inner outer refused at_t h (subst (λ ys. Complete q.pairs ys) r.1 complete))

outside_stands : (shape : Shape) (o : State) → o.mark ≡ unmarked → o.setting ≡ setting_inside shape → outside_in shape o ≡ record o { ended = false }
outside_stands shape o m i =
    let a : outside_in shape o ≡ record o { mark = unmarked; ended = false } = ap (λ z. record o { setting = z; mark = unmarked; ended = false }) (sym i) in
    let b : record o { mark = unmarked; ended = false } ≡ record o { ended = false } = ap (λ z. record o { mark = z; ended = false }) (sym m) in
    a ∙ b

part_stands_as : (shape : Shape) (xs : List Item) (o : State) → o.mark ≡ next_mark shape xs → o.setting ≡ setting_inside shape → part_in shape o ≡ record o { ended = false }
unfolding next_mark
part_stands_as Shape.List xs o m i = outside_stands Shape.List o m i
part_stands_as Shape.Array xs o m i = refl
part_stands_as (Shape.Tuple n) xs o m i = outside_stands (Shape.Tuple n) o m i
part_stands_as Shape.Map xs o m i = outside_stands Shape.Map o m i
part_stands_as Shape.Fields xs o m i = outside_stands Shape.Fields o m i

-- mark and setting are as the next part is to have them
part_stands : (s : State) (shape : Shape) (xs : List Item) (q : Open) (o : State) → q.inner ≡ record o { ended = false } → Holds s shape xs q → part_in q.shape o ≡ record o { ended = false }
part_stands s shape xs q o inner h =
    let mark : o.mark ≡ next_mark shape xs = sym (ap (λ (x : State). x.mark) inner) ∙ h.run.mark in
    let inside : o.setting ≡ setting_inside shape = sym (ap (λ (x : State). x.setting) inner) ∙ h.run.inside in
    subst (λ k. part_in k o ≡ record o { ended = false }) (sym h.shape_is) (part_stands_as shape xs o mark inside)

pub part_outside : (shape : Shape) (o : State) → (shape ≡ Shape.Array → ⊥) → outside_in shape o ≡ part_in shape o
part_outside Shape.List o h = refl
part_outside Shape.Array o h = absurd (h refl)
part_outside (Shape.Tuple n) o h = refl
part_outside Shape.Map o h = refl
part_outside Shape.Fields o h = refl

pub direct_more : (s : State) (shape : Shape) (xs : List Item) (f : Setting → Item) (q p : Open) (b : Back) (o w t : State) → Lives q.opened → q.inner ≡ record o { ended = false } → q.outer ≡ outer_of q.opened o b → Wrote (part_in q.shape o) (f (part_in q.shape o).setting) w → t ≡ record w { ended = true; mark = turned w.mark w.found } → p.inner ≡ record t { ended = false } → p.opened ≡ q.opened → p.outer ≡ outer_of q.opened t b → p.pairs ≡ q.pairs → p.shape ≡ q.shape → p.count ≡ q.count + 1 → Holds s shape xs q → Holds s shape (xs ++ f (setting_inside shape) ∷ []) p
direct_more s shape xs f q p b o w t live inner outer wrote at_t after opened back_at pairs same count h =
    element_more_lives s shape xs f q p b o (record o { ended = false }) w t live refl inner outer (subst (λ y. Wrote y (f y.setting) w) (part_stands s shape xs q o inner h) wrote) at_t after opened back_at pairs same count h

pub direct_refused : (s : State) (shape : Shape) (xs all : List Item) (f : Setting → Item) (e : Error) (q : Open) (b : Back) (o w t : State) → q.inner ≡ record o { ended = false } → q.outer ≡ outer_of q.opened o b → Refused (part_in q.shape o) (f (part_in q.shape o).setting) e w → t ≡ record w { ended = true } → Holds s shape xs q → BeginsWith all (xs ++ f (setting_inside shape) ∷ []) → Complete q.pairs all → Refused s (whole shape all) e t
direct_refused s shape xs all f e q b o w t inner outer refused at_t h split complete =
    refused_lives s shape xs all f e q b o (record o { ended = false }) w t refl inner outer (subst (λ y. Refused y (f y.setting) e w) (part_stands s shape xs q o inner h) refused) at_t h split complete

pub answering_ended : (s t : State) → t ≡ record s { ended = true } → s.ended ≡ false → answering t ≡ s
answering_ended s t h k = ap answering h ∙ (let e : record s { ended = false } ≡ s = ap (λ b. record s { ended = b }) (sym k) in e)

-- a serializer that counts nothing takes no account of sizes
pays_sizes : {A : Type 0} (s : State) (text : Option (List ℕ)) (found : Option Constructor) (l : List Size) (why : Error) (r : Result A Error) (t : State) → Free s → Pays s text found [] why r t → Pays s text found l why r t
pays_sizes s text found l why (Ok x) t f p = record { kept = p.kept; device = tt; ok = (p.ok.0, p.ok.1, free_goes s t p.ok.0 l f p.ok.2.appended (p.ok.2.plan ∙ (rw f.plan refl)) (p.ok.2.measure ∙ (rw f.measure refl)) p.ok.2.setting, p.ok.3, p.ok.4, p.ok.5); err = tt; refused = tt; spares = tt }
pays_sizes s text found l why (Err e) t f p = record { kept = p.kept; device = p.device; ok = tt; err = p.err; refused = elim p.refused [ inl m ↦ inl m | inr d ↦ elim d [ inl io ↦ inr (inl io) | inr w ↦ inr (inr (record { none = go text w.none; named = w.named })) ] ]; spares = p.spares }
  where
    go : (o : Option (List ℕ)) → (o >>= λ b. when (fits s [] (length b)) b) ≡ None → (o >>= λ b. when (fits s l (length b)) b) ≡ None
    go None h = refl
    go (Some b) h = rw (fits_free s (length b) l f) (rw (fits_free s (length b) [] f) at h)

abbrev pub Ends : {A : Type 0} → Open → List ℕ → Result A Error → State → Type 0
Ends q b r t = q.count ≤ length b → Pays (answering q.outer) (whole_text q.shape q.outer.mark q.count b) (found_after q.outer.mark (Some (under (shape_code q.shape))) q.outer.found) [] (unwritten (length b)) r t

pub buffers : (s : State) (shape : Shape) (k : Opened) (o start : State) → k ≡ Opened.Buffered → Begun shape s k o start → Buffers s o start
buffers s shape k o start e b = subst (λ x. Begun shape s x o start) e b

-- bytes that are told where any are
abbrev pub Told : Option (List ℕ) → List ℕ → Type 0
Told o b = (o ≡ Some b) ⊎ (o ≡ None)

tells : (a b : Option (List ℕ)) (more ys : List ℕ) → a ≡ Some [] → Appends a b more → Told b ys → b ≡ Some ys
tells a b more ys h k t = elim t [ inl e ↦ e | inr e ↦ absurd (rw (h, e) at k) ]

pub contents_told : (d : Bool) (xs b : List ℕ) → xs ≡ b → Told (contents_in d (Some xs)) b
contents_told false xs b h = inl (ap Some h)
contents_told true xs b h = inr refl

end_pays : {A : Type 0} (s : State) (shape : Shape) (xs : List Item) (q : Open) (b : List ℕ) (r : Result A Error) (t : State) → q.opened ≡ Opened.Buffered → Holds s shape xs q → Complete q.pairs xs → Told q.inner.contents b → Ends q b r t → Pays s (marked s.mark (whole shape xs)) (found_after s.mark (kind_code (whole shape xs)) s.found) (sizes (whole shape xs)) (unwritten (length b)) r t
end_pays s shape xs q b r t how h complete told p =
    let g = buffers s shape q.opened q.outer h.start how h.begun in
    let contents : q.inner.contents ≡ Some b = tells _ _ _ b g.empty.contents h.run.goes.appended told in
    let text : parts_text shape (items_of xs) ≡ Some b = run_fits shape xs h.start q.inner b g.empty h.run contents in
    let fits : q.count ≤ length b = omega (arith, h.count, parts_fit shape xs b text) in
    let mark : q.outer.mark ≡ s.mark = ap (λ (x : State). x.mark) g.outer in
    let found : q.outer.found ≡ s.found = ap (λ (x : State). x.found) g.outer in
    let at_s = subst (λ x. Pays x (whole_text q.shape q.outer.mark q.count b) (found_after q.outer.mark (Some (under (shape_code q.shape))) q.outer.found) [] (unwritten (length b)) r t) (answering_ended s q.outer g.outer h.answered) (p fits) in
    let same : marked s.mark (whole shape xs) ≡ whole_text q.shape q.outer.mark q.count b = rw (mark, h.shape_is, h.count) (whole_of_some shape s.mark xs b (rw h.pairs at complete) text) in
    let code : found_after s.mark (kind_code (whole shape xs)) s.found ≡ found_after q.outer.mark (Some (under (shape_code q.shape))) q.outer.found = rw (mark, found, h.shape_is, whole_code shape xs) refl in
    pays_sizes s _ _ (sizes (whole shape xs)) _ r t (record { plan = g.plan; measure = g.measure }) (pays_text s _ _ _ _ [] _ r t same code at_s)

pub end_wrote_each : {A : Type 0} (q : Open) (b : List ℕ) (r : Result A Error) (t : State) → q.opened ≡ Opened.Buffered → Told q.inner.contents b → Ends q b r t → OnOk r ((s : State) (shape : Shape) (xs : List Item) → Holds s shape xs q → Complete q.pairs xs → Wrote s (whole shape xs) t)
end_wrote_each q b (Ok a) t how contents p = λ s shape xs h complete. wrote_pays s (whole shape xs) _ _ _ _ (Ok a) t refl refl refl (end_pays s shape xs q b (Ok a) t how h complete contents p)
end_wrote_each q b (Err e) t how contents p = tt

pub end_refused_each : {A : Type 0} (q : Open) (b : List ℕ) (r : Result A Error) (t : State) → q.opened ≡ Opened.Buffered → Told q.inner.contents b → Ends q b r t → IfErr r (λ e. (s : State) (shape : Shape) (xs : List Item) → Holds s shape xs q → Complete q.pairs xs → Refused s (whole shape xs) e t)
end_refused_each q b (Ok a) t how contents p = tt
end_refused_each q b (Err e) t how contents p = λ s shape xs h complete. refused_pays s (whole shape xs) _ _ _ _ (Err e) t refl refl refl (body_why shape xs b (let g = buffers s shape q.opened q.outer h.start how h.begun in run_fits shape xs h.start q.inner b g.empty h.run (tells _ _ _ b g.empty.contents h.run.goes.appended contents)) (rw h.pairs at complete)) (end_pays s shape xs q b (Err e) t how h complete contents p)

-- a list about one of its elements
list_split : {X : Type 0} (xs : List X) (k : ℕ) (v : X) → k < length xs → v ≡ get_or xs k v → take k xs ++ v ∷ drop (k + 1) xs ≡ xs
list_split xs k v h e = let d : drop k xs ≡ v ∷ drop (k + 1) xs = rw add-one (drop-cons xs k v h ∙ ap (λ x. x ∷ drop (suc k) xs) (sym e)) in sym (ap (λ ys. take k xs ++ ys) d) ∙ take-append-drop k xs

pub map_split : {X : Type 0} (f : X → Item) (xs : List X) (k : ℕ) (v : X) → k < length xs → v ≡ get_or xs k v → map f (take k xs) ++ f v ∷ map f (drop (k + 1) xs) ≡ map f xs
map_split f xs k v h e = sym (map-append f (take k xs) (v ∷ drop (k + 1) xs)) ∙ ap (map f) (list_split xs k v h e)

-- a list begins with the images of a front and of the next element
pub begins_map : {X : Type 0} (f : X → Item) (xs : List X) (k : ℕ) (v : X) → k < length xs → v ≡ get_or xs k v → BeginsWith (map f xs) (map f (take k xs) ++ f v ∷ [])
begins_map f xs k v h e = subst (λ ys. BeginsWith ys (map f (take k xs) ++ f v ∷ [])) (map_split f xs k v h e) (begins_split (map f (take k xs)) (f v) (map f (drop (k + 1) xs)))

-- at the end the images of the front are those of all
pub holds_all : {X : Type 0} (f : X → Item) (s : State) (shape : Shape) (xs : List X) (k : ℕ) (q : Open) → length xs ≤ k → Holds s shape (map f (take k xs)) q → Holds s shape (map f xs) q
holds_all f s shape xs k q h held = subst (λ ys. Holds s shape ys q) (ap (map f) (take_all k xs h)) held

-- what holds of one value holds of its equal
pub moved : {X : Type 0} (P : X → Type 0) (x y : X) → y ≡ x → P x → P y
moved P x y e p = subst P (sym e) p

-- what a compound of keys and values awaits, by their number
pub turn_is : (s : State) (xs : List Item) (q : Open) (turn : Bool) → Holds s Shape.Map xs q → turn ≡ (q.count % 2 == 1) → turn ≡ awaits_value xs
turn_is s xs q turn h test = test ∙ (ap (λ n. n % 2 == 1) h.count ∙ odd_count xs)

-- where the parts aren't keys and values, they are under the plain setting
pub plain_inside : (shape : Shape) → false ≡ is_map shape → setting_inside shape ≡ Plain
plain_inside Shape.List e = refl
plain_inside Shape.Array e = refl
plain_inside (Shape.Tuple n) e = refl
plain_inside Shape.Map e = absurd (true_false (sym e))
plain_inside Shape.Fields e = absurd (true_false (sym e))

plain_item : (shape : Shape) (f : Setting → Item) → false ≡ is_map shape → f (setting_inside shape) ≡ f Plain
plain_item shape f e = ap f (plain_inside shape e)

pub plain_more : (s : State) (shape : Shape) (xs : List Item) (f : Setting → Item) (q p : Open) → q.pairs ≡ false → Holds s shape xs q → Holds s shape (xs ++ f (setting_inside shape) ∷ []) p → Holds s shape (xs ++ f Plain ∷ []) p
plain_more s shape xs f q p single h k = subst (λ x. Holds s shape (xs ++ x ∷ []) p) (plain_item shape f (sym single ∙ h.pairs)) k

pub plain_begins : (s : State) (shape : Shape) (xs all : List Item) (f : Setting → Item) (q : Open) → q.pairs ≡ false → Holds s shape xs q → BeginsWith all (xs ++ f Plain ∷ []) → BeginsWith all (xs ++ f (setting_inside shape) ∷ [])
plain_begins s shape xs all f q single h b = subst (λ x. BeginsWith all (xs ++ x ∷ [])) (sym (plain_item shape f (sym single ∙ h.pairs))) b

-- what begins with a front and two more begins with the front and one more
pub begins_less : {X : Type 0} (xs all : List X) (x y : X) → BeginsWith all (xs ++ x ∷ y ∷ []) → BeginsWith all (xs ++ x ∷ [])
begins_less [] [] x y h = absurd h
begins_less [] (z ∷ all) x y h = (h.0, tt)
begins_less (w ∷ xs) [] x y h = absurd h
begins_less (w ∷ xs) (z ∷ all) x y h = (h.0, begins_less xs all x y h.1)
