-- Reading an item part by part, each part by a type of its own.
use Rattle.std.proofs.Common.{◌≡◌, Bool, true, false, ◌||◌, List, [], ◌∷◌, Result, Ok, Err, IfErr, IsErrAnd, refl, sym, ap, ◌∙◌, arith, IsTrue}
use Rattle.amqp_base.specs.declared.error.Error.{Error}
use Rattle.amqp_base.specs.declared.error.Error.TheVariants.{SequenceLengthMismatch}
use Rattle.amqp_base.specs.Item.{Item, scalar, list, map, array, described, Items, none, more, count}
use Rattle.amqp_base.specs.Fields.{all_fields, takes_fields, all_meanings, means_fields}
use Rattle.amqp_de.specs.Decoding.{Decoding, as_ended}
use Rattle.amqp_de.specs.Law.{Found, Missed}
use Rattle.amqp_base.specs.Parse.{list_data}
use Rattle.amqp_de.specs.Access.{Listing, Opens, OpensNot, Part, NoPart, AllRead, NoEnd, Ends, behind_end}
use Rattle.amqp_data.specs.Parts.{HasParts}
use Rattle.amqp_de.specs.declared.list.Access.{Access}
use Rattle.amqp_de.specs.declared.list.Open.{Open}
use Rattle.amqp_de.specs.ReadParts.{open_list, Progress, MoreRead, and_last, joined}
use Rattle.amqp_de.proofs.Weaker.{found_as}
use Rattle.amqp_de.proofs.PartsRead as read
use Rattle.amqp_de.proofs.PartsRead.{left_of, missed_more}

-- ---- the item of the parts

parts_of_fields : (fields : List (Item → Bool)) (i : Item) → IsTrue (takes_fields fields i) → (is : Items) × HasParts i is × IsTrue (all_fields fields is)
unfolding takes_fields
parts_of_fields fields (list is) t = (is, refl, t)
parts_of_fields fields (array is) t = absurd cc
parts_of_fields fields (scalar v) t = absurd cc
parts_of_fields fields (map ps) t = absurd cc
parts_of_fields fields (described d v) t = absurd cc

taken_fields : (fields : List (Item → Bool)) (js : Items) → IsTrue (all_fields fields js) → (i : Item) → HasParts i js → IsTrue (takes_fields fields i) × HasParts i js
unfolding takes_fields
taken_fields fields js t (list is) p = (rw p t, p)
taken_fields fields js t (array is) p = absurd p
taken_fields fields js t (scalar v) p = absurd p
taken_fields fields js t (map ps) p = absurd p
taken_fields fields js t (described d v) p = absurd p

meant_fields : (ms : List {1} (Item → Type 0)) (i : Item) (is : Items) → HasParts i is → all_meanings ms is → means_fields ms i
unfolding means_fields
meant_fields ms (list is) js p t = rw p t
meant_fields ms (array is) js p t = absurd p
meant_fields ms (scalar v) js p t = absurd p
meant_fields ms (map ps) js p t = absurd p
meant_fields ms (described d v) js p t = absurd p

-- ---- the steps

-- no list was opened
pub fields_unopened : (fields : List (Item → Bool)) (grows buffers : Bool) (old last : Decoding) (e : Error) → OpensNot HasParts list_data grows buffers old last e → Missed (takes_fields fields) grows buffers old last e
fields_unopened fields grows buffers old last e o = read.unopened (takes_fields fields) (λ is. IsTrue (all_fields fields is)) (parts_of_fields fields) o

pub progress_start : (old : Decoding) (l : Listing) → Opens HasParts old l → (all : List (Item → Bool)) → Progress old all all none l
progress_start old l o all = record { from = l; opened = o; reads = read.parts_begun old l o; fields = λ js. refl }

module _ (old : Decoding) (all others : List (Item → Bool)) (parts : Items) (now : Listing) (s : Progress old all others parts now) where
  pub progress_more : (t : Item → Bool) (m : Item → Type 0) (behind_it : List (Item → Bool)) (next : Listing) → others ≡ t ∷ behind_it → (p : Part t m now next) → Progress old all behind_it (and_last parts p.front.item) next
  progress_more t m behind_it next split p = record {
    from = s.from;
    opened = s.opened;
    reads = read.parts_more s.from parts now next s.reads p;
    fields = λ js. ap (λ (x : Items). all_fields all x) (read.join_last parts js p.front.item) ∙ (s.fields (more p.front.item js) ∙ (ap (λ (x : List (Item → Bool)). all_fields x (more p.front.item js)) split ∙ rw p.front.taken refl));
  }

  -- a part was refused
  pub field_missed : (t : Item → Bool) (behind_it : List (Item → Bool)) (grows buffers : Bool) (next : Listing) (last : Decoding) (e : Error) → others ≡ t ∷ behind_it → NoPart t grows buffers now next e → last ≡ next.state → Missed (takes_fields all) grows buffers old last e
  field_missed t behind_it grows buffers next last e split n l = read.part_missed old s.from parts now s.opened s.reads (takes_fields all) (λ is. IsTrue (all_fields all is)) (parts_of_fields all) t heads grows buffers next last e n l
    where
      heads : (j : Item) (js : Items) → IsTrue (all_fields all (joined parts (more j js))) → IsTrue (t j)
      heads j js h = let u = s.fields (more j js) ∙ ap (λ (x : List (Item → Bool)). all_fields x (more j js)) split in left_of (t j) (all_fields behind_it js) (rw u at h)

  -- what is refused, as it isn't taken
  pub not_taken : (grows buffers : Bool) (last : Decoding) → last.reading ≡ now.state.reading → last.begun ≡ now.state.begun
      → ((js : Items) → count js ≡ now.left → IsTrue (all_fields others js) → ⊥) → Missed (takes_fields all) grows buffers old last SequenceLengthMismatch
  not_taken grows buffers last r b absent = read.not_taken old s.from parts now s.opened s.reads (takes_fields all) (λ is. IsTrue (all_fields all is)) (parts_of_fields all) grows buffers last SequenceLengthMismatch (λ d. d) (λ m. absurd cc) r b (λ js n t. absent js n (rw (s.fields js) at t))

  -- the parts are used up, and a field is left
  pub too_few : (t : Item → Bool) (behind_it : List (Item → Bool)) (grows buffers : Bool) (last : Decoding) → others ≡ t ∷ behind_it → now.left ≡ 0 → last ≡ now.state → Missed (takes_fields all) grows buffers old last SequenceLengthMismatch
  too_few t behind_it grows buffers last split z l = not_taken grows buffers last (ap (λ (d : Decoding). d.reading) l) (ap (λ (d : Decoding). d.begun) l) absent
    where
      absent : (js : Items) → count js ≡ now.left → IsTrue (all_fields others js) → ⊥
      absent none c t' = cc (ap (λ (x : List (Item → Bool)). all_fields x none) split, t')
      absent (more j js) c t' = omega (arith, c, z)

  -- everything was read
  pub fields_found : (last : Decoding) → others ≡ [] → now.left ≡ 0 → last ≡ behind_end now → Found (takes_fields all) (λ i. HasParts i parts) old last
  fields_found last e z l = read.parts_found old s.from parts now s.opened s.reads (takes_fields all) (λ i. HasParts i parts) (taken_fields all parts taken) last z l
    where
      taken : all_fields all parts ≡ true
      taken = ap (λ (x : Items). all_fields all x) (sym (read.join_none parts)) ∙ (s.fields none ∙ ap (λ (x : List (Item → Bool)). all_fields x none) e)

  -- the end was refused
  pub too_many : (grows buffers : Bool) (last : Decoding) (e : Error) → others ≡ [] → Ends now (Err e) last → Missed (takes_fields all) grows buffers old last e
  too_many grows buffers last e o n = let p = read.end_refused old s.from parts now s.opened s.reads last e n in rw p.1 (not_taken grows buffers last n.reading n.begun (absent p.0))
    where
      absent : (now.left ≡ 0 → ⊥) → (js : Items) → count js ≡ now.left → IsTrue (all_fields others js) → ⊥
      absent some none c t' = some (sym c)
      absent some (more j js) c t' = cc (ap (λ (x : List (Item → Bool)). all_fields x (more j js)) o, t')

-- the parts mean the fields
pub found_meant : (fields : List (Item → Bool)) (ms : List {1} (Item → Type 0)) (parts : Items) (old new : Decoding) → Found (takes_fields fields) (λ i. HasParts i parts) old new → all_meanings ms parts → Found (takes_fields fields) (λ i. means_fields ms i) old new
found_meant fields ms parts old new f m = found_as (takes_fields fields) (takes_fields fields) (λ i. HasParts i parts) (λ i. means_fields ms i) old new (λ i t h. (t, meant_fields ms i parts h m)) f

-- ---- the calls

-- for the flag of a type with fields
pub or_left : (a b : Bool) → IsTrue a → IsTrue (a || b)
or_left true b h = refl
or_left false b h = absurd cc

pub or_right : (a b : Bool) → IsTrue b → IsTrue (a || b)
or_right true b h = refl
or_right false b h = h

pub or_more : (a b c : Bool) → (IsTrue a → IsTrue b) → IsTrue (a || c) → IsTrue (b || c)
or_more true b c p h = or_left b c (p refl)
or_more false b c p h = or_right b c h

-- ---- what callers say of an access

module _ {X F : Type 0} {old : Decoding} {all : List (Item → Bool)} {parts : Items} (a : Access X F Open) where
  -- one more part was read
  pub part_read : {rest : List (Item → Bool)} {t : Item → Bool} {means : Item → Type 0} {next : Listing} → Progress old all (t ∷ rest) parts (open_list a) → Part t means (open_list a) next → MoreRead old all rest parts means next
  part_read {rest = rest} {t = t} {means = means} {next = next} s p = record { item = p.front.item; meant = p.front.value; more = progress_more old all (t ∷ rest) parts (open_list a) s t means rest next refl p }

  -- it was refused
  pub part_refused : {rest : List (Item → Bool)} {t : Item → Bool} {grows buffers : Bool} {e : Error} (b : Access X F Open) → Progress old all (t ∷ rest) parts (open_list a) → NoPart t grows buffers (open_list a) (open_list b) e → Missed (takes_fields all) grows buffers old b.de.now e
  unfolding open_list
  part_refused {rest = rest} {t = t} {grows = grows} {buffers = buffers} {e = e} b s n = field_missed old all (t ∷ rest) parts (open_list a) s t rest grows buffers (open_list b) b.de.now e refl n refl

  -- none is left, though one is wanted
  pub none_left : {rest : List (Item → Bool)} {t : Item → Bool} {grows buffers : Bool} (b : Access X F Open) → Progress old all (t ∷ rest) parts (open_list a) → (open_list a).left ≡ 0 → open_list b ≡ open_list a → Missed (takes_fields all) grows buffers old b.de.now SequenceLengthMismatch
  unfolding open_list
  none_left {rest = rest} {t = t} {grows = grows} {buffers = buffers} b s z n = too_few old all (t ∷ rest) parts (open_list a) s t rest grows buffers b.de.now refl z (ap (λ (l : Listing). l.state) n)

  -- all were read, and the end was answered or refused
  pub end_answered : {last : Decoding} → Progress old all [] parts (open_list a) → AllRead (open_list a) last → Found (takes_fields all) (λ i. HasParts i parts) old last
  end_answered {last = last} s n = fields_found old all [] parts (open_list a) s last refl n.left n.is

  pub end_refused : {grows buffers : Bool} {last : Decoding} {e : Error} → Progress old all [] parts (open_list a) → NoEnd (open_list a) last e → Missed (takes_fields all) grows buffers old last e
  end_refused {grows = grows} {buffers = buffers} {last = last} {e = e} s n = too_many old all [] parts (open_list a) s grows buffers last e refl n

-- where the deserializer stands in the end
pub missed_here : {takes : Item → Bool} {more grows buffers : Bool} {old : Decoding} {e : Error} (last x : Decoding) → (IsTrue more → IsTrue grows) → last ≡ x → Missed takes more buffers old x e → Missed takes grows buffers old last e
missed_here last x g l m = rw l (missed_more g m)

-- where an access is dropped, its deserializer is ended
pub missed_dropped : {takes : Item → Bool} {grows buffers : Bool} {old x : Decoding} {e : Error} → Missed takes grows buffers old x e → Missed takes grows buffers old (as_ended x) e
missed_dropped m = record { why = m.why; spent = λ a. record { most = (m.spent a).most }; steady = m.steady; device = m.device; memory = m.memory }

-- the same of a type that takes memory
pub missed_at : {takes : Item → Bool} {more buffers : Bool} {old : Decoding} {e : Error} (last x : Decoding) → last ≡ x → Missed takes more buffers old x e → Missed takes true buffers old last e
missed_at last x l m = missed_here last x (λ _. refl) l m

pub found_at : {takes : Item → Bool} {means : Item → Type 0} {old : Decoding} (last x : Decoding) → last ≡ x → Found takes means old x → Found takes means old last
found_at last x l m = rw l m

-- a refusal that `?` passes on
pub missed_by : {A : Type 0} {takes : Item → Bool} {more grows buffers : Bool} {old : Decoding} {e : Error} (r : Result A Error) (last x : Decoding) → (IsTrue more → IsTrue grows) → IsErrAnd r (λ y. y ≡ e) → last ≡ x → Missed takes more buffers old x e → IfErr r (λ y. Missed takes grows buffers old last y)
missed_by (Ok v) last x g h l m = absurd h
missed_by (Err y) last x g h l m = rw (h, l) (missed_more g m)

-- the same of a type that takes memory
pub missed_on : {A : Type 0} {takes : Item → Bool} {more buffers : Bool} {old : Decoding} {e : Error} (r : Result A Error) (last x : Decoding) → IsErrAnd r (λ y. y ≡ e) → last ≡ x → Missed takes more buffers old x e → IfErr r (λ y. Missed takes true buffers old last y)
missed_on r last x h l m = missed_by r last x (λ _. refl) h l m
