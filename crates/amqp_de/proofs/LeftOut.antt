-- A list whose last fields may be left out.
use Rattle.std.proofs.Common.{◌≡◌, ℕ, zero, suc, ◌<◌, ◌≤◌, Bool, false, ◌||◌, IsTrue, List, [], ◌∷◌, ◌++◌, length, Some, None, refl, sym, ap, subst, ◌∙◌, arith}
use Rattle.std.proofs.lemmas.List.{append-nil}
use Rattle.amqp_base.specs.declared.error.Error.{Error}
use Rattle.amqp_base.specs.declared.error.Error.TheVariants.{SequenceLengthMismatch}
use Rattle.amqp_base.specs.declared.format_code.EncodingCodes.TheVariants.{Null}
use Rattle.amqp_base.specs.Codes.{row}
use Rattle.amqp_base.specs.Fields.{all_fields, all_meanings}
use Rattle.amqp_base.specs.Item.{Item, scalar, null, list, map, array, described, Items, none, more, count}
use Rattle.amqp_base.specs.Meaning.{Meaning}
use Rattle.amqp_base.specs.Parse.{list_data}
use Rattle.amqp_base.specs.Value.{payload, read as value_read}
use Rattle.amqp_base.specs.Wire.{Constructor, under, Wire, lenient, of_data, of_fixed, fixed}
use Rattle.amqp_base.proofs.OneFront.{same_wire}
use Rattle.amqp_read.specs.Reading.{Takes}
use Rattle.amqp_data.specs.Excuses.{Advances}
use Rattle.amqp_data.specs.Parts.{HasParts}
use Rattle.amqp_data.proofs.Readings.{takes_then, behind, advances_then, excused_before}
use Rattle.amqp_de.specs.Access.{Listing, Opens, OpensNot, Part, NoPart, AllRead, NoEnd, behind_end}
use Rattle.amqp_de.specs.Decoding.{Decoding, stands_under, as_ended}
use Rattle.amqp_de.specs.Law.{Front, Found, Missed}
use Rattle.amqp_base.specs.Leading.{padded, takes_leading, means_leading}
use Rattle.amqp_de.specs.ReadFields.{Slots, no_slots, slot}
use Rattle.amqp_de.specs.ReadLeading.{before_null, behind_null, ReadsNull, RefusesNull, LeadingProgress, LeadingRow}
use Rattle.amqp_de.specs.ReadParts.{PartsRead, and_last, joined}
use Rattle.amqp_de.proofs.Answered.{free_refused}
use Rattle.amqp_de.proofs.JustSoMany.{count_fields}
use Rattle.amqp_de.proofs.PartsRead as read
use Rattle.amqp_de.proofs.PartsRead.{left_of, join_last, join_none, missed_more}

-- ---- null without bytes

null_wire : Wire lenient (under Null) [] (scalar null)
unfolding row payload value_read
null_wire = of_data (of_fixed (fixed refl refl))

-- it is all that can stand there
pub is_null_there : (c : Constructor) (text : List ℕ) (i : Item) → c ≡ under Null → Wire lenient c text i → (text ≡ []) × (i ≡ scalar null)
is_null_there c text i h w =
    let v : Wire lenient (under Null) text i = rw h at w in
    let s = same_wire v null_wire [] text (append-nil text) in
    (s.0, s.1)

-- ---- the steps

pub leading_start : (old : Decoding) (l : Listing) → Opens HasParts old l → (all : List (Item → Bool)) → LeadingProgress old all all none l
leading_start old l o all = record { from = l; opened = o; reads = read.parts_begun old l o; fields = λ js n. refl }

parts_of_leading : (fields : List (Item → Bool)) (i : Item) → IsTrue (takes_leading fields i) → (is : Items) × HasParts i is × IsTrue (all_fields fields (padded (length fields) is))
unfolding takes_leading
parts_of_leading fields (list is) t = (is, refl, t)
parts_of_leading fields (array is) t = absurd cc
parts_of_leading fields (scalar v) t = absurd cc
parts_of_leading fields (map ps) t = absurd cc
parts_of_leading fields (described d v) t = absurd cc

leading_fields_are : (fields : List (Item → Bool)) (ms : List {1} (Item → Type 0)) (n : ℕ) (js : Items) → IsTrue (all_fields fields (padded (length fields) js)) → all_meanings ms (padded n js) → (i : Item) → HasParts i js → IsTrue (takes_leading fields i) × means_leading n ms i
unfolding takes_leading means_leading
leading_fields_are fields ms n js t m (list is) p = (rw p t, rw p m)
leading_fields_are fields ms n js t m (array is) p = absurd p
leading_fields_are fields ms n js t m (scalar v) p = absurd p
leading_fields_are fields ms n js t m (map ps) p = absurd p
leading_fields_are fields ms n js t m (described d v) p = absurd p

no_items : (js : Items) → count js ≡ 0 → js ≡ none
no_items none c = refl
no_items (more j js) c = absurd (omega (arith, c))

-- no list was opened
pub leading_unopened : (fields : List (Item → Bool)) (grows buffers : Bool) (old last : Decoding) (e : Error) → OpensNot HasParts list_data grows buffers old last e → Missed (takes_leading fields) grows buffers old last e
leading_unopened fields grows buffers old last e o = read.unopened (takes_leading fields) (λ is. IsTrue (all_fields fields (padded (length fields) is))) (parts_of_leading fields) o

count_padded : (n : ℕ) (js : Items) → count js ≤ count (padded n js)
count_padded zero js = omega arith
count_padded (suc n) none = omega arith
count_padded (suc n) (more j js) = let h = count_padded n js in omega (arith, h)

-- the list has more elements than there are fields
pub leading_surplus : (grows buffers : Bool) (old last : Decoding) (l : Listing) → Opens HasParts old l → (fields : List (Item → Bool)) → length fields < l.left → last ≡ as_ended l.state → Missed (takes_leading fields) grows buffers old last SequenceLengthMismatch
leading_surplus grows buffers old last l o fields n same =
    rw same (read.not_taken old l none l o (read.parts_begun old l o) (takes_leading fields) (λ is. IsTrue (all_fields fields (padded (length fields) is))) (parts_of_leading fields) grows buffers (as_ended l.state) SequenceLengthMismatch (λ d. d) (λ m. absurd cc) refl refl
    (λ js c t. let a = count_fields fields (padded (length fields) js) t in let b = count_padded (length fields) js in omega (arith, a, b, c, n)))

-- parts that were read stay read where nothing is consumed
parts_still : {from : Listing} {parts : Items} (now : Listing) (last : Decoding) → PartsRead from parts now → Takes now.state.reading last.reading [] → last.described ≡ false → last.ended ≡ false → PartsRead from parts (record now { state = behind_null now.state last })
parts_still {from} {parts} now last s t d a = record {
  text = s.text;
  step = rw append-nil at (takes_then from.state.reading now.state.reading last.reading s.text [] s.step t);
  spelled = s.spelled;
  left = s.left;
  begun = s.begun;
  inherited = s.inherited;
  described = d;
  outer = s.outer;
  limit = s.limit;
  not_ended = a;
  within = read.within_all from.limit last.reading.taken now.state.reading.taken still s.within;
  spent = rw still s.spent;
  tracks = λ is x rest' w n at.
      let r = s.tracks is x rest' w n at in
      let k = behind now.state.reading last.reading (r.1 ++ rest') [] t r.5 in
      (r.0, r.1, r.2, r.3, r.4, k.1 ∙ ap Some (sym k.2), rw still r.6);
}
  where
    still : last.reading.taken ≡ now.state.reading.taken
    still = let h = t.taken in omega (arith, h)

module _ {old : Decoding} {all rest : List (Item → Bool)} {parts : Items} {t : Item → Bool} (now next : Listing) (s : LeadingProgress old all (t ∷ rest) parts now) where
  -- an element was read
  pub leading_more : {m : Item → Type 0} → (p : Part t m now next) → LeadingProgress old all rest (and_last parts p.front.item) next
  leading_more p = record {
    from = s.from;
    opened = s.opened;
    reads = read.parts_more s.from parts now next s.reads p;
    fields = λ js n. ap (λ (x : Items). all_fields all (padded (length all) x)) (join_last parts js p.front.item) ∙ (s.fields (more p.front.item js) (λ z. absurd (omega (arith, z, p.left))) ∙ rw p.front.taken refl);
  }

  -- it was refused
  pub leading_missed : {grows buffers : Bool} {e : Error} (last : Decoding) → NoPart t grows buffers now next e → last ≡ next.state → Missed (takes_leading all) grows buffers old last e
  leading_missed {grows} {buffers} {e} last n l = read.part_missed old s.from parts now s.opened s.reads (takes_leading all) (λ is. IsTrue (all_fields all (padded (length all) is))) (parts_of_leading all) t heads grows buffers next last e n l
    where
      heads : (j : Item) (js : Items) → IsTrue (all_fields all (padded (length all) (joined parts (more j js)))) → IsTrue (t j)
      heads j js h =
          let k = n.some_left s.reads.not_ended in
          let u = s.fields (more j js) (λ z. absurd (omega (arith, z, k))) in
          left_of (t j) _ (rw u at h)

  -- null was read in its place
  pub leading_null : {m : Item → Type 0} (last : Decoding) → now.left ≡ 0 → (f : Front t m (before_null now.state) last) → next ≡ record now { state = behind_null now.state last } → LeadingProgress old all rest parts next
  leading_null last z f l = rw l record {
    from = s.from;
    opened = s.opened;
    reads = parts_still now last s.reads (rw there.0 at f.step) f.described f.not_ended;
    fields = λ js n. let k = n z in rw k (s.fields none (λ _. refl) ∙ rw taken refl);
  }
    where
      there : (f.text ≡ []) × (f.item ≡ scalar null)
      there = is_null_there (under Null) f.text f.item refl f.spelled

      taken : IsTrue (t (scalar null))
      taken = rw there.1 at f.taken

  -- and refused
  pub leading_null_missed : {grows buffers : Bool} {e : Error} (last at_null : Decoding) → now.left ≡ 0 → Missed t grows buffers (before_null now.state) at_null e → last ≡ as_ended (behind_null now.state at_null) → Missed (takes_leading all) grows buffers old last e
  leading_null_missed {grows} {buffers} {e} last at_null z m l = rw l record {
    why = λ a i text rest' w t' at h.
        let p = parts_of_leading all i t' in
        let q = s.opened.only text rest' i p.0 p.1 w at in
        let r = s.reads.tracks p.0 q.0 rest' q.1 q.2 q.4 in
        let k = no_items r.0 (r.4 ∙ z) in
        let u : IsTrue (all_fields all (padded (length all) (joined parts none))) = subst (λ (js : Items). IsTrue (all_fields all (padded (length all) (joined parts js)))) k (subst (λ (x : Items). IsTrue (all_fields all (padded (length all) x))) r.3 p.2) in
        let v : IsTrue (t (scalar null)) = left_of (t (scalar null)) _ (rw (s.fields none (λ _. refl)) at u) in
        excused_before old.reading now.state.reading at_null.reading (s.opened.text ++ s.reads.text) e (takes_then old.reading s.from.state.reading now.state.reading s.opened.text s.reads.text s.opened.step s.reads.step)
        (m.why s.reads.not_ended (scalar null) [] (r.1 ++ rest') null_wire v r.5 (steady.honest ∙ h));
    spent = λ _. record {
      most = free_refused (stands_under old) _ _ (let f = (read.all_spent old s.from parts now s.opened s.reads now.state refl refl).most in let g = m.steady.taken in omega (arith, f, g));
    };
    steady = advances_then old.reading now.state.reading at_null.reading steady m.steady;
    device = λ d. let f = steady.faults in let g = m.device d in omega (arith, f, g);
    memory = m.memory;
  }
    where
      steady : Advances old.reading now.state.reading
      steady = read.all_steady old s.from parts now s.opened s.reads

-- everything was read
pub leading_found : {old : Decoding} {all : List (Item → Bool)} {given : Items} (now : Listing) (ms : List {1} (Item → Type 0)) (last : Decoding) → LeadingProgress old all [] given now → all_meanings ms (padded (length all) given) → now.left ≡ 0 → last ≡ behind_end now
    → Found (takes_leading all) (λ i. means_leading (length all) ms i) old last
leading_found {old} {all} {given} now ms last s m z l = read.parts_found old s.from given now s.opened s.reads (takes_leading all) (λ i. means_leading (length all) ms i) (λ i h. leading_fields_are all ms (length all) given taken m i h) last z l
  where
    taken : IsTrue (all_fields all (padded (length all) given))
    taken = ap (λ (x : Items). all_fields all (padded (length all) x)) (sym (join_none given)) ∙ s.fields none (λ _. refl)

-- ---- rows of fields

pub leading_done : (old : Decoding) (all rest : List (Item → Bool)) (parts : Items) (l : Listing) → LeadingProgress old all rest parts l → LeadingRow old all rest parts no_slots no_slots l l
unfolding all_meanings
leading_done old all rest parts l p = record { given = none; progress = rw (join_none parts) p; few = omega arith; none_left = λ h. omega (arith, h); full = refl; meant = λ vs h. (h, tt) }

module _ {T V : Type 0} (own : List ℕ) (takes : Item → Bool) (means : Item → T → Type 0) where
  -- the first field had its value before
  pub leading_had : (y : T) (s t : Slots V) (old : Decoding) (all rest : List (Item → Bool)) (parts : Items) (before l : Listing) → LeadingRow old all rest parts s t before l → LeadingRow old all rest parts (slot own takes means (Some y) s) (slot own takes means (Some y) t) before l
  leading_had y s t old all rest parts before l r = record {
    given = r.given;
    progress = r.progress;
    few = r.few;
    none_left = r.none_left;
    full = r.full;
    meant = λ vs q. let m = r.meant vs.1 q.1 in ((q.0, m.0), m.1);
  }

  -- its element and those behind it were read
  pub leading_row_more : (x : T) (s t : Slots V) (old : Decoding) (all rest : List (Item → Bool)) (parts : Items) (before mid l : Listing) → (p : Part takes (λ i. means i x) before mid) → LeadingRow old all rest (and_last parts p.front.item) s t mid l
      → LeadingRow old all rest parts (slot own takes means None s) (slot own takes means (Some x) t) before l
  unfolding all_meanings
  leading_row_more x s t old all rest parts before mid l p r = record {
    given = more p.front.item r.given;
    progress = rw (← join_last parts r.given p.front.item) r.progress;
    few = let f = r.few in omega (arith, f, p.left);
    none_left = λ h. r.none_left (omega (arith, h, p.left));
    full = r.full;
    meant = λ vs q. let n = r.meant vs.1 q.1 in (n.0, (subst (means p.front.item) q.0 p.front.value, n.1));
  }

  -- null was read in its place, and in that of those behind it
  pub leading_row_null : (x : T) (s t : Slots V) (old : Decoding) (all rest : List (Item → Bool)) (parts : Items) (before mid l : Listing) → before.left ≡ 0 → mid.left ≡ 0 → means (scalar null) x → LeadingRow old all rest parts s t mid l
      → LeadingRow old all rest parts (slot own takes means None s) (slot own takes means (Some x) t) before l
  unfolding all_meanings
  leading_row_null x s t old all rest parts before mid l z y v r = record {
    given = none;
    progress = subst (λ (js : Items). LeadingProgress old all rest (joined parts js) l) nothing r.progress;
    few = let f = r.few in omega (arith, f, z, y, ap (λ (js : Items). count js) nothing);
    none_left = λ h. let f = r.few in omega (arith, f, y);
    full = r.full;
    meant = λ vs q.
        let n = r.meant vs.1 q.1 in
        (n.0, (subst (means (scalar null)) q.0 v, subst (λ (js : Items). all_meanings (s.meanings vs.1) (padded (length s.kinds) js)) nothing n.1));
  }
    where
      nothing : r.given ≡ none
      nothing = let f = r.few in no_items r.given (omega (arith, f, y))

-- ---- what callers say of null that was read in the place of an element

pub null_meant : {T : Type 0} {m : Meaning T} {x : T} {old new : Decoding} → ReadsNull m x old new → old.ended ≡ false → m.means (scalar null) x
null_meant {m = m} {x = x} r a =
    let f = r.found.front a in
    subst (λ (i : Item). m.means i x) (is_null_there (under Null) f.text f.item refl f.spelled).1 f.value

module _ {T : Type 0} {m : Meaning T} {old : Decoding} {all rest : List (Item → Bool)} {parts : Items} (now : Listing) where
  pub null_on : {x : T} (next : Listing) → ReadsNull m x now.state next.state → next ≡ record now { state = next.state } → now.left ≡ 0 → now.state.ended ≡ false → LeadingProgress old all (m.takes ∷ rest) parts now → LeadingProgress old all rest parts next
  null_on next r same z a p = leading_null now next p r.last z (r.found.front a) (same ∙ ap (λ (d : Decoding). record now { state = d }) r.is)

  pub null_missed : {grows buffers : Bool} {e : Error} (last : Decoding) → (IsTrue (m.grows || buffers) → IsTrue grows) → now.left ≡ 0 → RefusesNull m buffers now.state last e → LeadingProgress old all (m.takes ∷ rest) parts now → Missed (takes_leading all) grows buffers old last e
  null_missed last g z r p = missed_more g (leading_null_missed now now p last r.last z r.missed r.is)

-- nothing was read where nothing is left
abbrev pub NoneLeft : Listing → Listing → Type 0
NoneLeft now next = (now.left ≡ 0) × (next ≡ now) × (now.state.ended ≡ false)

pub none_is : {old : Decoding} {all rest : List (Item → Bool)} {parts : Items} (now next : Listing) → NoneLeft now next → LeadingProgress old all rest parts now → (next.left ≡ 0) × (next.state.ended ≡ false) × LeadingProgress old all rest parts next
none_is {old = old} {all = all} {rest = rest} {parts = parts} now next n p = (ap (λ (l : Listing). l.left) n.1 ∙ n.0, ap (λ (l : Listing). l.state.ended) n.1 ∙ n.2, subst (λ (l : Listing). LeadingProgress old all rest parts l) (sym n.1) p)

-- ---- the whole list

-- a list was opened
pub leading_opened : (old : Decoding) (l : Listing) → Opens HasParts old l → (fields : List (Item → Bool)) → LeadingProgress old fields (fields ++ []) none l
leading_opened old l o fields = rw append-nil (leading_start old l o fields)

module _ {V : Type 0} {old : Decoding} {fields : List (Item → Bool)} {s t : Slots V} (before now : Listing) where
  -- its end isn't refused, as nothing is left
  pub no_leading_end : {last : Decoding} {e : Error} → LeadingRow old fields [] none s t before now → before.left ≤ length s.kinds → NoEnd now last e → ⊥
  no_leading_end {last} {e} r few n = (read.end_refused old r.progress.from (joined none r.given) now r.progress.opened r.progress.reads last e n).0 (r.none_left few)

  -- these are the values
  pub leading_values : (ms : List {1} (Item → Type 0)) (last : Decoding) (r : LeadingRow old fields [] none s t before now) → all_meanings ms (padded (length fields) r.given) → before.left ≤ length s.kinds → AllRead now last → Found (takes_leading fields) (λ i. means_leading (length fields) ms i) old last
  leading_values ms last r m few n = leading_found now ms last r.progress m n.left n.is
